-- The items of a channel: a queue, a bounded queue, or a broadcast list.
use Rattle.std.specs.Prelude.{◌≡◌, ℕ, zero, suc, Bool, true, false, ◌-◌, ◌&&◌, Option, Some, None, is_some}
use Rattle.std.specs.Prelude.{List, [], ◌∷◌, length, map, drop, if◌then◌else◌}
use Rattle.std.specs.List.{count_by}
use Rattle.boxcar.specs.Table.{Shelves}
use Rattle.txc_base.specs.declared.entry.Entry.{Entry}
use Rattle.txc_base.specs.declared.item.Item.{Item}
use Rattle.txc_base.specs.declared.kind.Kind.{Kind}
use Rattle.txc_base.specs.Channel.{Channel}
use Rattle.txc_base.specs.Kinds.{is_bounded, is_broadcast}
use Rattle.txc_cast.specs.Broadcast.{reader_at, read_of}
use Rattle.txc_queue_fanout.specs.Fanout.{queue_at, unread_of}
use Rattle.txc_chan.specs.declared.body.Body.{Body}
use Rattle.txc_chan.specs.declared.body.Body.TheVariants.{Queue, Bounded, Shelved, Fanned}
use Rattle.txc_chan.specs.Reserved.{needs_room}

-- a test: they are a broadcast list
abbrev pub is_cast : Body → Bool
is_cast (Queue queue) = false
is_cast (Bounded queue) = false
is_cast (Shelved cast) = true
is_cast (Fanned fanout) = true

-- a test: they have a bound
abbrev pub is_limited : Body → Bool
is_limited (Queue queue) = false
is_limited (Bounded queue) = true
is_limited (Shelved cast) = false
is_limited (Fanned fanout) = false

-- their bound; 0 if they have none
abbrev pub bound_of : Body → ℕ
bound_of (Queue queue) = 0
bound_of (Bounded queue) = queue.bound
bound_of (Shelved cast) = 0
bound_of (Fanned fanout) = 0

-- one list for a queue, and one for each reader of a broadcast list
abbrev pub lists_of : Body → List (List Item)
lists_of (Queue queue) = queue.items ∷ []
lists_of (Bounded queue) = queue.queue.items ∷ []
lists_of (Shelved cast) = read_of cast
lists_of (Fanned fanout) = unread_of fanout

-- the slots of these written items: none for a queue, and each 0 for a broadcast list without a shelf
abbrev pub slots_of : Body → List Item → List ℕ
slots_of (Queue queue) items = []
slots_of (Bounded queue) items = []
slots_of (Shelved cast) items = cast.slots
slots_of (Fanned fanout) items = map (λ item. 0) items

-- how many slots these written items have; none for a queue
abbrev pub slots_for : Kind → List Item → ℕ
slots_for kind items = if is_broadcast kind then length items else 0

-- the shelf with the items, if there is one; none for a queue
abbrev pub shelf_of : Body → Option Shelves
shelf_of (Queue queue) = None
shelf_of (Bounded queue) = None
shelf_of (Shelved cast) = Some cast.shelf
shelf_of (Fanned fanout) = None

-- a shelf, if there is one, has these items
abbrev pub HasWrittenAll : Body → List Item → Type 0
HasWrittenAll (Queue queue) items = Unit {0}
HasWrittenAll (Bounded queue) items = Unit {0}
HasWrittenAll (Shelved cast) items = cast.items ≡ items
HasWrittenAll (Fanned fanout) items = Unit {0}

-- a count of the first and only reader; 0 for every other number
abbrev pub at_first : ℕ → ℕ → ℕ
at_first count zero = count
at_first count (suc reader) = 0

-- how many takes of a reader can be undone: on a shelf only those of put-backs, on a queue all
abbrev pub undoable_at : Body → ℕ → ℕ
undoable_at (Queue queue) reader = at_first queue.undoable reader
undoable_at (Bounded queue) reader = at_first queue.queue.undoable reader
undoable_at (Shelved cast) reader = (reader_at cast reader).undoable
undoable_at (Fanned fanout) reader = (queue_at fanout reader).undoable

-- whether the items are on a shelf
abbrev pub is_shelved : Body → Bool
is_shelved body = is_some (shelf_of body)

-- how many entries of a reader need room to undo them
abbrev pub needed : Bool → ℕ → List Entry → ℕ
needed shelved reader log = count_by (λ entry. needs_room shelved reader entry.act) log

-- there is room to undo exactly these entries
abbrev pub HasRoomFor : Body → List Entry → Type 0
HasRoomFor body log = (reader : ℕ) → needed (is_shelved body) reader log ≡ undoable_at body reader

-- no take can be undone, and no room is reserved for it
abbrev pub NothingUndoable : Body → Type 0
NothingUndoable body = (reader : ℕ) → undoable_at body reader ≡ 0

-- a new body: nothing is written, and there is no room to undo
pub record IsFresh (body : Body) : Type 0 where
  pub items : HasWrittenAll body []
  pub room : NothingUndoable body

-- the last entries of a log
abbrev pub last_entries : ℕ → List Entry → List Entry
last_entries count log = drop (length log - count) log

-- the channel of this kind with these items, with its flag and its counts
abbrev pub channel_of : Kind → Body → Bool → ℕ → ℕ → Channel
channel_of kind body closed written backs = record {
  kind = kind;
  bound = bound_of body;
  closed = closed;
  written = written;
  backs = backs;
  lists = lists_of body;
}

-- what no change of the items changes
pub record Keeps (old new : Body) : Type 0 where
  pub cast : is_cast new ≡ is_cast old
  pub limited : is_limited new ≡ is_limited old
  pub bound : bound_of new ≡ bound_of old
  pub shelf : shelf_of new ≡ shelf_of old

-- as many takes can be undone as before
abbrev pub SameUndoable : Body → Body → Type 0
SameUndoable old new = (reader : ℕ) → undoable_at new reader ≡ undoable_at old reader

-- the items of a channel of this kind; a broadcast list is on a shelf if the type of log uses shelves
pub record IsOfKind (shelves : Bool) (kind : Kind) (body : Body) : Type 0 where
  pub cast : is_cast body ≡ is_broadcast kind
  pub limited : is_limited body ≡ is_bounded kind
  pub shelved : is_shelved body ≡ (shelves && is_broadcast kind)
