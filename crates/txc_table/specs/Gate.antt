-- A gate that a call may have been given.
use Rattle.std.specs.Prelude.{◌⊎◌, Option, Some, None}
use Rattle.std.specs.Borrow.{MutBor}
use Rattle.std.proofs.Common.{inl, inr}

-- what a call that takes an optional reference leaves of it
abbrev pub Left : Type 0 → Type 0
Left G = Unit {0} ⊎ ((MutBor G × Unit {0}) ⊎ ⊥)

-- a gate that was given was called once
abbrev pub IfGiven : {G : Type 0} → (G → G → Type 0) → Option (MutBor G) → Left G → Type 0
IfGiven has_passed None left = Unit {0}
IfGiven has_passed (Some gate) (inl none) = ⊥
IfGiven has_passed (Some gate) (inr (inl left)) = has_passed gate.now left.0.now
IfGiven has_passed (Some gate) (inr (inr never)) = ⊥
