-- What a lock is in a contract, and the rule of its table.
use Rattle.std.specs.Prelude.{◌≡◌, ◌⊎◌, ℕ, ◌∷◌, [], slice_index, length}
use mathlib.Core.Option.{some}
use lib.ListN.{get_elem?}
use Rattle.atomic_table.specs.Seated.{TableId}
use Rattle.atomic_table.specs.Table.{State, Me}
use Rattle.txc_table_lock.specs.declared.words.TheConstants.{FREE, RESERVED, STATE, WORDS}

-- a lock: its label and its identity
pub record LockView (G : Type 0) : Type 0 where
  pub label : G
  pub id : TableId

-- a lock whose word is this number is free
abbrev pub IsFree : ℕ → Type 0
IsFree n = (n ≡ FREE) ⊎ (n ≡ RESERVED)

module _ {X G : Type 0} where
  -- the rule of a lock's table: while the lock is free, its value is in the table and fits
  pub record IsKept (holds : X → Type 0) (s : State X G) : Type 0 where
    pub words : length s.words ≡ WORDS
    pub home : IsFree (slice_index s.words STATE) → (value : X) × (get_elem? s.homes 0 ≡ some (some value))
        × holds value

  -- a seat has the value of a lock, which fits
  abbrev pub HasValue : (X → Type 0) → Me X G → Type 0
  HasValue holds me = (value : X) × (me.1 ≡ (0, value) ∷ []) × holds value
