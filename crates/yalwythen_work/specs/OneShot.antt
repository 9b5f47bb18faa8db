-- The rule of a cell, which has one word and one slot.
use Rattle.std.specs.Prelude.{◌≡◌, ◌∷◌, [], Option, None, Some, slice_index, length}
use mathlib.Core.Option.{some}
use lib.ListN.{get_elem?}
use Rattle.atomic_table.specs.Table.{State, Me}
use Rattle.yalwythen_work.specs.declared.states.TheConstants.{EMPTY, FULL}

module _ {X V : Type 0} where
  -- an empty cell has no value, and a full one has a value that fits
  pub record IsKept (fits : X → Type 0) (s : State (Option X) V) : Type 0 where
    pub words : length s.words ≡ 1
    pub empty : slice_index s.words 0 ≡ EMPTY → get_elem? s.homes 0 ≡ some (some None)
    pub full : slice_index s.words 0 ≡ FULL
        → (value : X) × (get_elem? s.homes 0 ≡ some (some (Some value))) × fits value

  -- a seat of the cell's table has its slot, which is empty
  abbrev pub HasEmptySlot : Me (Option X) V → Type 0
  HasEmptySlot me = me.1 ≡ (0, None) ∷ []
