-- Each reader gets the items that were written since its start, in order.
use Rattle.std.specs.Prelude.{◌≡◌, ℕ, ◌+◌, Bool, true, false, ◌==◌, Some, List, [], ◌∷◌, ◌++◌, length, drop, reverse}
use Rattle.std.specs.Prelude.{slice_get, if◌then◌else◌}
use Rattle.std.specs.List.{filter, flat_map}
use Rattle.txc_base.specs.declared.act.Act.{Act}
use Rattle.txc_base.specs.declared.act.Act.TheVariants.{Wrote, Took, Begun, Cloned}
use Rattle.txc_base.specs.declared.entry.Entry.{Entry}
use Rattle.txc_base.specs.declared.item.Item.{Item}
use Rattle.txc_base.specs.declared.origin.Origin.{Origin}
use Rattle.txc_base.specs.declared.origin.Origin.TheVariants.{Written, Back}

-- the item that an act wrote, if it wrote one
abbrev pub written_by : Act → List Item
written_by (Wrote item) = item ∷ []
written_by act = []

-- the items that a log has written, in order (stm)
abbrev pub written : List Entry → List Item
written log = flat_map (λ entry. written_by entry.act) log

-- the item that an act took for this reader, if it took one
abbrev pub taken_by : ℕ → Act → List Item
taken_by reader (Took taker item) = if taker == reader then item ∷ [] else []
taken_by reader act = []

-- the items that a log has taken for this reader, in order (stm)
abbrev pub taken : ℕ → List Entry → List Item
taken reader log = flat_map (λ entry. taken_by reader entry.act) log

-- a test: it was written and not put back
abbrev pub is_written : Origin → Bool
is_written (Written n) = true
is_written (Back n) = false

-- the items that were written and not put back
abbrev pub strike : List Item → List Item
strike items = filter (λ item. is_written item.origin) items

-- the start of each reader after a log and one more act; `began` gives the starts after that log (stm)
abbrev pub began_with : List Entry → (ℕ → ℕ) → Act → ℕ → ℕ
began_with log began (Begun new) reader =
    if reader == new then length (written log) else began reader
began_with log began (Cloned source new) reader =
    if reader == new then began source + length (strike (taken source log)) else began reader
began_with log began act reader = began reader

-- the start of each reader after a log, whose entries are given from the last to the first
abbrev pub began_back : List Entry → ℕ → ℕ
began_back [] reader = 0
began_back (entry ∷ before) reader = began_with (reverse before) (began_back before) entry.act reader

-- the start of a reader: how many of the items written it never had to read (stm)
abbrev pub began : List Entry → ℕ → ℕ
began log reader = began_back (reverse log) reader

-- what each reader took, and then its list, is what was written since its start, in order, without put-backs (stm)
abbrev pub IsInOrder : List Entry → List (List Item) → Type 0
IsInOrder log lists = (reader : ℕ) (list : List Item) → slice_get lists reader ≡ Some list
    → strike (taken reader log ++ list) ≡ drop (began log reader) (written log)
