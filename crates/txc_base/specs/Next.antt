-- A reader reads next the item that was put back last.
use Rattle.std.specs.Prelude.{◌≡◌, ℕ, ◌==◌, Some, List, [], ◌∷◌, ◌++◌, slice_get, if◌then◌else◌}
use Rattle.std.specs.List.{flat_map}
use Rattle.txc_base.specs.declared.act.Act.{Act}
use Rattle.txc_base.specs.declared.act.Act.TheVariants.{PutBack}
use Rattle.txc_base.specs.declared.entry.Entry.{Entry}
use Rattle.txc_base.specs.declared.item.Item.{Item}
use Rattle.txc_base.specs.declared.tag.Tag.{Tag}
use Rattle.txc_base.specs.InOrder.{taken}

-- the item that an act put back to this reader, if it put one back
abbrev pub returned_by : ℕ → Act → List Item
returned_by reader (PutBack taker item) = if taker == reader then item ∷ [] else []
returned_by reader act = []

-- the items that a log has put back to this reader, in order (stm)
abbrev pub returned : ℕ → List Entry → List Item
returned reader log = flat_map (λ entry. returned_by reader entry.act) log

-- what a reader took since its last put-back, and then its list, begins with the item that was put back (stm)
abbrev pub IsNext : List Entry → List (List Item) → Type 0
IsNext log lists = (before since : List Entry) (tag : Tag) (reader : ℕ) (item : Item) (list : List Item)
    → log ≡ before ++ record { tag = tag; act = PutBack reader item } ∷ since → returned reader since ≡ []
    → slice_get lists reader ≡ Some list → slice_get (taken reader since ++ list) 0 ≡ Some item
