-- A broadcast list with a queue for each reader, and the effect of each call.
use Rattle.std.specs.Prelude.{◌≡◌, ℕ, ◌+◌, ◌-◌, ◌<◌, List, [], ◌∷◌, ◌++◌, length, map, take, replicate, slice_get}
use Rattle.std.specs.Prelude.{slice_set, slice_index_or, Option, Some, None, Result, Ok, Err, if◌then◌else◌, nat_le}
use Rattle.std.specs.Prelude.{nat_lt}
use Rattle.txc_base.specs.declared.item.Item.{Item}
use Rattle.txc_base.specs.declared.limits.TheConstants.{MAX_READERS}
use Rattle.txc_base.specs.declared.stop.Stop.{Stop}
use Rattle.txc_base.specs.declared.stop.Stop.TheVariants.{NoReader, NothingRead, TooManyReaders, Worn, NoMemory}
use Rattle.txc_queue.specs.Queue.{Queue, empty, pushed_back, pushed_front, unpopped, with_nothing_undoable}
use Rattle.txc_queue.specs.Queue.{without_first_item, without_back}

-- a new list with this many readers, which have nothing to read (stm)
abbrev pub empty_queues : ℕ → List Queue
empty_queues readers = replicate readers empty

-- the queue of a reader, by the reader's number
abbrev pub queue_at : List Queue → ℕ → Queue
queue_at fanout reader = slice_index_or fanout reader empty

-- the list with one queue changed
abbrev pub with_queue_at : List Queue → ℕ → Queue → List Queue
with_queue_at fanout reader changed = slice_set fanout reader changed

-- the list with one more queue, after the others (stm)
abbrev pub with_queue : List Queue → Queue → List Queue
with_queue fanout queue = fanout ++ queue ∷ []

-- the items that each reader has to read
abbrev pub unread_of : List Queue → List (List Item)
unread_of fanout = map (λ queue. queue.items) fanout

-- the first item of a queue, if there is one; an error if there is no such queue (stm)
abbrev pub first_in_queue : Option Queue → Result (Option Item) Stop
first_in_queue None = Err NoReader
first_in_queue (Some queue) = Ok (slice_get queue.items 0)

-- the item that a reader reads next, if there is one; an error if there is no such reader (stm)
abbrev pub front_at : List Queue → ℕ → Result (Option Item) Stop
front_at fanout reader = first_in_queue (slice_get fanout reader)

-- the queue after a pop from these items: one item less, one pop more to undo (stm; the count is this project's)
abbrev pub after_pop : List Item → ℕ → Queue
after_pop [] undoable = record { items = []; undoable = undoable }
after_pop (item ∷ rest) undoable = record { items = rest; undoable = undoable + 1 }

-- the queue after a pop, if there is an item (stm; the count is this project's)
abbrev pub popped : Queue → Queue
popped queue = after_pop queue.items queue.undoable

-- the list after a reader took its next item, if there is one (stm)
abbrev pub popped_at : List Queue → ℕ → List Queue
popped_at fanout reader = with_queue_at fanout reader (popped (queue_at fanout reader))

-- the list after an append: every reader has the item as its last (stm)
abbrev pub appended_to_all : List Queue → Item → List Queue
appended_to_all fanout item = map (λ queue. pushed_back queue item) fanout

-- the list after an item was put back in front of one reader's queue (stm)
abbrev pub put_back_at : List Queue → ℕ → Item → List Queue
put_back_at fanout reader item = with_queue_at fanout reader (pushed_front (queue_at fanout reader) item)

-- the list with one more reader, which begins with all that this one has to read (stm)
abbrev pub with_clone_of : List Queue → ℕ → List Queue
with_clone_of fanout reader = with_queue fanout (with_nothing_undoable (queue_at fanout reader))

-- the list after the undo of an append: each queue is without its last item
abbrev pub without_backs : List Queue → List Queue
without_backs fanout = map without_back fanout

-- the list after the undo of a take: the item is in front again, with one pop less to undo
abbrev pub unpopped_at : List Queue → ℕ → Item → List Queue
unpopped_at fanout reader item = with_queue_at fanout reader (unpopped (queue_at fanout reader) item)

-- the list after the undo of a put-back
abbrev pub without_front_at : List Queue → ℕ → List Queue
without_front_at fanout reader = with_queue_at fanout reader (without_first_item (queue_at fanout reader))

-- the list without its last reader
abbrev pub without_last_queue : List Queue → List Queue
without_last_queue fanout = take (length fanout - 1) fanout

-- the list with no pop to undo
abbrev pub at_rest_all : List Queue → List Queue
at_rest_all fanout = map with_nothing_undoable fanout

-- the stop, unless it is `NoMemory`
abbrev pub but_memory : Stop → Option Stop
but_memory NoReader = Some NoReader
but_memory NothingRead = Some NothingRead
but_memory TooManyReaders = Some TooManyReaders
but_memory Worn = Some Worn
but_memory NoMemory = None

-- why a call failed, unless it was `NoMemory`
abbrev pub why_refused : {A : Type 0} → Result A Stop → Option Stop
why_refused (Ok answer) = None
why_refused (Err stop) = but_memory stop

-- the error if there is no such reader
abbrev pub no_queue : List Queue → ℕ → Option Stop
no_queue fanout reader = if nat_lt reader (length fanout) then None else Some NoReader

-- the error if there are `MAX_READERS` readers already
abbrev pub no_place : List Queue → Option Stop
no_place fanout = if nat_lt (length fanout) MAX_READERS then None else Some TooManyReaders

-- the error if there is no such reader, or there are `MAX_READERS` readers already
abbrev pub no_clone : List Queue → ℕ → Option Stop
no_clone fanout reader = if nat_lt reader (length fanout) then no_place fanout else Some NoReader

-- the error if a new list would have more than `MAX_READERS` readers
abbrev pub no_opening : ℕ → Option Stop
no_opening readers = if nat_le readers MAX_READERS then None else Some TooManyReaders

-- the undo of an append gives the list from before it
abbrev pub UndoesAppendToAll : List Queue → List Queue → Type 0
UndoesAppendToAll old new = (before : List Queue) (item : Item) → old ≡ appended_to_all before item → new ≡ before

-- the undo of a take gives the list from before it
abbrev pub UndoesPop : List Queue → ℕ → Item → List Queue → Type 0
UndoesPop old reader item new = (before : List Queue) → slice_get (queue_at before reader).items 0 ≡ Some item
    → old ≡ popped_at before reader → new ≡ before

-- the undo of a put-back gives the list from before it
abbrev pub UndoesPushFront : List Queue → ℕ → List Queue → Type 0
UndoesPushFront old reader new = (before : List Queue) (item : Item) → reader < length before
    → old ≡ put_back_at before reader item → new ≡ before

-- the undo of a new reader gives the list from before it
abbrev pub UndoesQueue : List Queue → List Queue → Type 0
UndoesQueue old new = (before : List Queue) (queue : Queue) → old ≡ with_queue before queue → new ≡ before
