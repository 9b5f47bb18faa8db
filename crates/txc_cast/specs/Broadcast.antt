-- A broadcast list, and the effect of each call.
use Rattle.std.specs.Prelude.{◌≡◌, ℕ, ◌-◌, ◌<◌, ◌≤◌, List, [], ◌∷◌, ◌++◌, length, map, take, replicate, slice_get}
use Rattle.std.specs.Prelude.{slice_set, slice_index_or, Option, Some, None, Result, Ok, Err, if◌then◌else◌, nat_le}
use Rattle.std.specs.Prelude.{nat_lt, IsSomeAnd, All}
use Rattle.boxcar.specs.Table.{Shelves}
use Rattle.txc_base.specs.declared.item.Item.{Item}
use Rattle.txc_base.specs.declared.limits.TheConstants.{MAX_READERS}
use Rattle.txc_cast.specs.declared.fault.CastFault.{CastFault}
use Rattle.txc_cast.specs.declared.fault.CastFault.TheVariants.{NoReader, TooManyReaders}
use Rattle.txc_cast.specs.Reader.{Reader, fresh, with_taken, with_last, with_front, with_untaken, without_last_item}
use Rattle.txc_cast.specs.Reader.{without_front, clone_of, settled_reader, HasWritten, BeginsWithBack, CanUntake}
use Rattle.txc_cast.specs.Reader.{IsBack, IsWritten, IsTail}

-- a broadcast list: the items written, their slots, its readers and its shelf (stm; slots and shelf are this project's)
pub record Broadcast : Type 0 where
  pub items : List Item
  pub slots : List ℕ
  pub readers : List Reader
  pub shelf : Shelves

-- a new list: nothing is written, and there are this many readers (stm)
abbrev pub unwritten : ℕ → Shelves → Broadcast
unwritten readers shelf = record { items = []; slots = []; readers = replicate readers fresh; shelf = shelf }

-- a reader by its number
abbrev pub reader_at : Broadcast → ℕ → Reader
reader_at cast reader = slice_index_or cast.readers reader fresh

-- the items that each reader has to read
abbrev pub read_of : Broadcast → List (List Item)
read_of cast = map (λ reader. reader.list) cast.readers

-- the list with one reader changed
abbrev pub with_reader_at : Broadcast → ℕ → Reader → Broadcast
with_reader_at cast reader changed = record cast { readers = slice_set cast.readers reader changed }

-- the list with one more reader, after the others (stm)
abbrev pub with_new_reader : Broadcast → Reader → Broadcast
with_new_reader cast reader = record cast { readers = cast.readers ++ reader ∷ [] }

-- the list after an append, with the item at this slot (stm)
abbrev pub appended : Broadcast → Item → ℕ → Broadcast
appended cast item slot = record cast {
  items = cast.items ++ item ∷ [];
  slots = cast.slots ++ slot ∷ [];
  readers = map (with_last item) cast.readers;
}

-- an item is appended, at some slot (stm)
abbrev pub Appends : Broadcast → Item → Broadcast → Type 0
Appends before item after = (slot : ℕ) × (after ≡ appended before item slot)

-- the first item of a reader, if there is one; an error if there is no such reader (stm)
abbrev pub first_in : Option Reader → Result (Option Item) CastFault
first_in None = Err NoReader
first_in (Some reader) = Ok (slice_get reader.list 0)

-- the item that a reader reads next, if there is one; an error if there is no such reader (stm)
abbrev pub first_of : Broadcast → ℕ → Result (Option Item) CastFault
first_of cast reader = first_in (slice_get cast.readers reader)

-- the list after a reader took its next item, if there is one (stm)
abbrev pub taken_at : Broadcast → ℕ → Broadcast
taken_at cast reader = with_reader_at cast reader (with_taken (reader_at cast reader))

-- the list after an item was put back in front of one reader's list (stm)
abbrev pub given_back : Broadcast → ℕ → Item → Broadcast
given_back cast reader item = with_reader_at cast reader (with_front item (reader_at cast reader))

-- the list with one more reader, which begins with all that this one has to read (stm)
abbrev pub cloned : Broadcast → ℕ → Broadcast
cloned cast reader = with_new_reader cast (clone_of (reader_at cast reader))

-- the list after the undo of the last append
abbrev pub unappended : Broadcast → Broadcast
unappended cast = record cast {
  items = take (length cast.items - 1) cast.items;
  slots = take (length cast.slots - 1) cast.slots;
  readers = map without_last_item cast.readers;
}

-- the list after the undo of a take: the item is in front again
abbrev pub untaken : Broadcast → ℕ → Item → Broadcast
untaken cast reader item = with_reader_at cast reader (with_untaken item (reader_at cast reader))

-- the list after the undo of a put-back
abbrev pub ungiven : Broadcast → ℕ → Broadcast
ungiven cast reader = with_reader_at cast reader (without_front (reader_at cast reader))

-- the list without its last reader
abbrev pub unbegun : Broadcast → Broadcast
unbegun cast = record cast { readers = take (length cast.readers - 1) cast.readers }

-- the list with no take of a put-back to undo
abbrev pub all_settled : Broadcast → Broadcast
all_settled cast = record cast { readers = map settled_reader cast.readers }

-- the error if there is no such reader
abbrev pub reader_refusal : Broadcast → ℕ → Option CastFault
reader_refusal cast reader = if nat_lt reader (length cast.readers) then None else Some NoReader

-- the error if there are `MAX_READERS` readers already
abbrev pub place_refusal : Broadcast → Option CastFault
place_refusal cast = if nat_lt (length cast.readers) MAX_READERS then None else Some TooManyReaders

-- the error if there is no such reader, or there are `MAX_READERS` readers already
abbrev pub clone_refusal : Broadcast → ℕ → Option CastFault
clone_refusal cast reader = if nat_lt reader (length cast.readers) then place_refusal cast else Some NoReader

-- the error if a new list would have more than `MAX_READERS` readers
abbrev pub opening_refusal : ℕ → Option CastFault
opening_refusal readers = if nat_le readers MAX_READERS then None else Some TooManyReaders

-- the last append can be undone: something is written, and each reader has a written item to read
abbrev pub CanUnappend : Broadcast → Type 0
CanUnappend cast = (0 < length cast.items) × All HasWritten cast.readers

-- this reader's take of this item can be undone
abbrev pub CanUntakeAt : Broadcast → ℕ → Item → Type 0
CanUntakeAt cast reader item = IsSomeAnd (slice_get cast.readers reader) (CanUntake cast.items item)

-- the last put-back to this reader can be undone
abbrev pub CanUngiveAt : Broadcast → ℕ → Type 0
CanUngiveAt cast reader = IsSomeAnd (slice_get cast.readers reader) BeginsWithBack

-- a reader of these items has put-backs, and after them a tail of the items
pub record IsReaderOf (items : List Item) (reader : Reader) : Type 0 where
  pub backs : List Item
  pub rest : List Item
  pub put : All IsBack backs
  pub end : IsTail items rest
  pub list : reader.list ≡ backs ++ rest

-- what is true of every broadcast list
pub record IsWell (cast : Broadcast) : Type 0 where
  pub written : All IsWritten cast.items
  pub slots : length cast.slots ≡ length cast.items
  pub readers : All (IsReaderOf cast.items) cast.readers
  pub few : length cast.readers ≤ MAX_READERS

-- the undo of an append gives the list from before it
abbrev pub UndoesAppend : Broadcast → Broadcast → Type 0
UndoesAppend old new = (before : Broadcast) (item : Item) (slot : ℕ) → old ≡ appended before item slot → new ≡ before

-- the undo of a take gives the list from before it
abbrev pub UndoesTake : Broadcast → ℕ → Item → Broadcast → Type 0
UndoesTake old reader item new = (before : Broadcast) → first_of before reader ≡ Ok (Some item)
    → old ≡ taken_at before reader → new ≡ before

-- the undo of a put-back gives the list from before it
abbrev pub UndoesPutBack : Broadcast → ℕ → Broadcast → Type 0
UndoesPutBack old reader new = (before : Broadcast) (item : Item) → reader < length before.readers
    → old ≡ given_back before reader item → new ≡ before

-- the undo of a new reader gives the list from before it
abbrev pub UndoesReader : Broadcast → Broadcast → Type 0
UndoesReader old new = (before : Broadcast) (reader : Reader) → old ≡ with_new_reader before reader → new ≡ before
