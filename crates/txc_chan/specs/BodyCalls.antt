-- What the calls on the items of a channel return.
use Rattle.std.specs.Prelude.{◌≡◌, ℕ, ◌+◌, ◌<◌, Bool, nat_le, Option, Some, None, List, [], ◌∷◌, length, slice_set}
use Rattle.std.specs.Prelude.{Result, Ok, Err, ◌≤◌, slice_get, slice_index_or, All}
use Rattle.txc_base.specs.declared.item.Item.{Item}
use Rattle.txc_base.specs.declared.stop.Stop.{Stop}
use Rattle.txc_base.specs.declared.stop.Stop.TheVariants as stop
use Rattle.txc_cast.specs.Broadcast.{CanUnappend, CanUntakeAt, CanUngiveAt}
use Rattle.txc_queue_fanout.specs.Fanout.{queue_at}
use Rattle.txc_cast.specs.declared.fault.CastFault.{CastFault}
use Rattle.txc_cast.specs.declared.fault.CastFault.TheVariants.{NoReader, TooManyReaders, NoMemory}
use Rattle.txc_chan.specs.declared.body.Body.{Body}
use Rattle.txc_base.specs.declared.act.Act.TheVariants.{Took}
use Rattle.txc_base.specs.declared.limits.TheConstants.{MAX_READERS}
use Rattle.txc_chan.specs.declared.body.Body.TheVariants.{Queue, Bounded, Shelved, Fanned}
use Rattle.txc_chan.specs.Body.{bound_of, is_shelved, lists_of, undoable_at, Keeps, SameUndoable, HasWrittenAll}
use Rattle.txc_chan.specs.Reserved.{needs_room, one_if}

-- the stop for an error of a broadcast list
abbrev pub stop_of : CastFault → Stop
stop_of NoReader = stop.NoReader
stop_of TooManyReaders = stop.TooManyReaders
stop_of NoMemory = stop.NoMemory

-- the first item of a reader's list, if any; `NoReader` if there is no such reader (stm)
abbrev pub front_in : Option (List Item) → Result (Option Item) Stop
front_in None = Err stop.NoReader
front_in (Some list) = Ok (slice_get list 0)

-- at its bound, or over it (stm)
abbrev pub is_at_bound : Body → Bool
is_at_bound body = nat_le (bound_of body) (length (slice_index_or (lists_of body) 0 []))

-- what a reader has to read; nothing if there is no such reader
abbrev pub list_at : Body → ℕ → List Item
list_at body reader = slice_index_or (lists_of body) reader []

-- there is a reader with this number, and its list
pub record HasReader (body : Body) (reader : ℕ) : Type 0 where
  pub there : reader < length (lists_of body)
  pub found : slice_get (lists_of body) reader ≡ Some (list_at body reader)

-- the number of the next reader, if one more is permitted
pub record IsNextReader (body : Body) (number : ℕ) : Type 0 where
  pub last : number ≡ length (lists_of body)
  pub few : length (lists_of body) < MAX_READERS

-- a change of what readers have to read, and of nothing else
pub record ChangesLists (old new : Body) : Type 0 where
  pub keeps : Keeps old new
  pub room : SameUndoable old new
  pub items : (items : List Item) → HasWrittenAll old items → HasWrittenAll new items

-- these lists, with another list for one reader
abbrev pub lists_with : Body → ℕ → List Item → List (List Item)
lists_with body reader list = slice_set (lists_of body) reader list

-- what a read of these lists gave: nothing from an empty list, otherwise its first item, which is removed (stm)
abbrev pub ReadsIn : Option Item → List (List Item) → ℕ → List (List Item) → Type 0
ReadsIn None old reader new = (slice_get old reader ≡ Some []) × (new ≡ old)
ReadsIn (Some item) old reader new = (slice_get old reader ≡ Some (item ∷ slice_index_or new reader []))
    × (new ≡ slice_set old reader (slice_index_or new reader []))

-- what a take gave: nothing from an empty list, otherwise its first item, which is removed (stm)
abbrev pub TakesFrom : Option Item → Body → ℕ → Body → Type 0
TakesFrom None old reader new = (slice_get (lists_of old) reader ≡ Some []) × (new ≡ old)
TakesFrom (Some item) old reader new =
    (slice_get (lists_of old) reader ≡ Some (item ∷ list_at new reader))
    × (lists_of new ≡ lists_with old reader (list_at new reader))

-- the room for its undo that a take of this item reserves, and that the undo frees
abbrev pub room_for : Body → ℕ → Item → ℕ → ℕ
room_for body taker item reader = one_if (needs_room (is_shelved body) reader (Took taker item))

-- a take of an item can be undone once more than before
abbrev pub MoreUndoable : Option Item → Body → ℕ → Body → Type 0
MoreUndoable None old taker new = Unit {0}
MoreUndoable (Some item) old taker new = (reader : ℕ)
    → undoable_at new reader ≡ undoable_at old reader + room_for old taker item reader

-- a take of an item was undone
abbrev pub LessUndoable : Item → Body → ℕ → Body → Type 0
LessUndoable item old taker new = (reader : ℕ)
    → undoable_at old reader ≡ undoable_at new reader + room_for old taker item reader

-- the last write can be undone
abbrev pub CanUndoWrite : Body → Type 0
CanUndoWrite (Queue queue) = 0 < length queue.items
CanUndoWrite (Bounded queue) = 0 < length queue.queue.items
CanUndoWrite (Shelved cast) = CanUnappend cast
CanUndoWrite (Fanned fanout) = All (λ queue. 0 < length queue.items) fanout

-- this take can be undone
abbrev pub CanUndoTake : Body → ℕ → Item → Type 0
CanUndoTake (Queue queue) reader item = (reader ≡ 0) × (0 < queue.undoable)
CanUndoTake (Bounded queue) reader item = (reader ≡ 0) × (0 < queue.queue.undoable)
CanUndoTake (Shelved cast) reader item = CanUntakeAt cast reader item
CanUndoTake (Fanned fanout) reader item = (reader < length fanout) × (0 < (queue_at fanout reader).undoable)

-- this put-back can be undone
abbrev pub CanUndoPutBack : Body → ℕ → Type 0
CanUndoPutBack (Queue queue) reader = (reader ≡ 0) × (0 < length queue.items)
CanUndoPutBack (Bounded queue) reader = (reader ≡ 0) × (0 < length queue.queue.items)
CanUndoPutBack (Shelved cast) reader = CanUngiveAt cast reader
CanUndoPutBack (Fanned fanout) reader = (reader < length fanout) × (0 < length (queue_at fanout reader).items)

-- why a clone is rejected: no such reader, or otherwise too many readers (stm; the limit is this project's)
abbrev pub CloneRefused : Stop → List (List Item) → ℕ → Type 0
CloneRefused stop.NoReader lists reader = slice_get lists reader ≡ None
CloneRefused stop.TooManyReaders lists reader = (reader < length lists) × (MAX_READERS ≤ length lists)
CloneRefused other lists reader = ⊥
