-- A transaction that chooses between two moves.
use Rattle.std.specs.Prelude.{ℕ, List, [], ◌∷◌, nat_lt, if◌then◌else◌}
use Rattle.txc_txn_check.specs.declared.step.Step.{Step}
use Rattle.txc_txn_check.specs.declared.step.Step.TheVariants.{Or}
use Rattle.txc_txn.specs.TwoOperations.{lower_first, move_steps}

-- the steps of a choice: a move from one channel, by a reader, or else one from another channel, to a third one
abbrev pub choice_steps : ℕ → ℕ → ℕ → ℕ → ℕ → List Step
choice_steps one reader other its to = Or (move_steps one reader to ∷ move_steps other its to ∷ []) ∷ []

-- numbers that rise, and one more at its place
abbrev pub insert : ℕ → List ℕ → List ℕ
insert n [] = n ∷ []
insert n (d ∷ ds) = if nat_lt n d then n ∷ d ∷ ds else d ∷ insert n ds

-- the numbers of three channels, in rising order
abbrev pub in_order : ℕ → ℕ → ℕ → List ℕ
in_order one other to = insert to (lower_first one other)
