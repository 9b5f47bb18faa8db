-- What a `ListAuth` and a `ListPrefix` own: one ghost value that only grows.
use Rattle.std.specs.Prelude.{ℕ, List, map}
use base.Fraction.{full_share}
use base.Fml.{Fml}
use base.Growing.{Order, prefixes, latest, at_least}
use base.Stored.{Gv, Coded}

-- the code of ghost values: a log is stored as its ghost values, so that its algebra names no type parameter
abbrev pub itself : Coded Gv
itself = record { code = λ g. g; inj = λ x y p. p }

abbrev pub logs : Order (List Gv)
logs = prefixes itself

module _ {E : Type 0} (c : E → Gv) where
  -- the list of this name is this list, and the owner of this can let it grow
  unfoldable pub stands : ℕ → List E → Fml
  stands η log = latest logs full_share η (map c log)

  -- the list of this name has been this list
  unfoldable pub reached : ℕ → List E → Fml
  reached η log = at_least logs η (map c log)
