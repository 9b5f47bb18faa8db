-- A reader of a broadcast list, and the effect of each call.
use Rattle.std.specs.Prelude.{◌≡◌, ℕ, ◌+◌, ◌-◌, ◌<◌, Bool, true, false, if◌then◌else◌, List, [], ◌∷◌, ◌++◌, length}
use Rattle.std.specs.Prelude.{take, drop, slice_get, IsSomeAnd, Any}
use Rattle.txc_base.specs.declared.item.Item.{Item}
use Rattle.txc_base.specs.declared.origin.Origin.{Origin}
use Rattle.txc_base.specs.declared.origin.Origin.TheVariants.{Written, Back}

-- a reader: the items that it has still to read, and how many of its takes of put-backs can be undone (stm)
pub record Reader : Type 0 where
  pub list : List Item
  pub undoable : ℕ

-- a test: the origin is that of a put-back
abbrev pub is_back_from : Origin → Bool
is_back_from (Written number) = false
is_back_from (Back number) = true

-- a test: the item was put back
abbrev pub is_back : Item → Bool
is_back item = is_back_from item.origin

-- the item was put back
abbrev pub IsBack : Item → Type 0
IsBack item = is_back item ≡ true

-- the item was written
abbrev pub IsWritten : Item → Type 0
IsWritten item = is_back item ≡ false

-- a new reader, with nothing to read and no take to undo (stm)
abbrev pub fresh : Reader
fresh = record { list = []; undoable = 0 }

-- by how much the take of an item raises the count
abbrev pub back_count : Item → ℕ
back_count item = if is_back item then 1 else 0

-- the reader after a take from this list; the take of a put-back counts (stm; the count is this project's)
abbrev pub after_take : List Item → ℕ → Reader
after_take [] undoable = record { list = []; undoable = undoable }
after_take (item ∷ rest) undoable = record { list = rest; undoable = undoable + back_count item }

-- the reader after a take: without its first item, if there is one (stm)
abbrev pub with_taken : Reader → Reader
with_taken reader = after_take reader.list reader.undoable

-- the reader with an item after all others (stm)
abbrev pub with_last : Item → Reader → Reader
with_last item reader = record { list = reader.list ++ item ∷ []; undoable = reader.undoable }

-- the reader with an item in front (stm)
abbrev pub with_front : Item → Reader → Reader
with_front item reader = record { list = item ∷ reader.list; undoable = reader.undoable }

-- a new clone of the reader (stm)
abbrev pub clone_of : Reader → Reader
clone_of reader = record { list = reader.list; undoable = 0 }

-- the reader after the undo of an append: without its last item
abbrev pub without_last_item : Reader → Reader
without_last_item reader = record { list = take (length reader.list - 1) reader.list; undoable = reader.undoable }

-- the reader after the undo of a put-back: without its first item
abbrev pub without_front : Reader → Reader
without_front reader = record { list = drop 1 reader.list; undoable = reader.undoable }

-- the reader after the undo of a take: with the item in front again
abbrev pub with_untaken : Item → Reader → Reader
with_untaken item reader = record { list = item ∷ reader.list; undoable = reader.undoable - back_count item }

-- the reader with no take of a put-back to undo
abbrev pub settled_reader : Reader → Reader
settled_reader reader = record { list = reader.list; undoable = 0 }

-- the reader's list has a written item
abbrev pub HasWritten : Reader → Type 0
HasWritten reader = Any IsWritten reader.list

-- the reader's list begins with a put-back
abbrev pub BeginsWithBack : Reader → Type 0
BeginsWithBack reader = IsSomeAnd (slice_get reader.list 0) IsBack

-- the list is a tail of the items
abbrev pub IsTail : List Item → List Item → Type 0
IsTail items list = (front : List Item) × (items ≡ front ++ list)

-- whether a take can be undone, by the origin of its item
abbrev pub CanUntakeFrom : Origin → List Item → Item → Reader → Type 0
CanUntakeFrom (Written number) items item reader = IsTail items (item ∷ reader.list)
CanUntakeFrom (Back number) items item reader = 0 < reader.undoable

-- the take can be undone: a written item is just before the reader's list, or for a put-back the count is at least 1
abbrev pub CanUntake : List Item → Item → Reader → Type 0
CanUntake items item reader = CanUntakeFrom item.origin items item reader
