-- A queue as a list, and the effect of each call.
use Rattle.std.specs.Prelude.{◌≡◌, ℕ, ◌+◌, ◌-◌, Option, Some, None, List, [], ◌∷◌, ◌++◌, length, take, drop}
use Rattle.txc_base.specs.declared.item.Item.{Item}

-- a queue: its items, the next one first, and how many pops can be undone (stm; the count is this project's)
pub record Queue : Type 0 where
  pub items : List Item
  pub undoable : ℕ

-- a new queue (stm)
abbrev pub empty : Queue
empty = record { items = []; undoable = 0 }

-- the queue with one more item, which is read last (stm)
abbrev pub pushed_back : Queue → Item → Queue
pushed_back queue item = record queue { items = queue.items ++ item ∷ [] }

-- the queue with one more item, which is read next (stm)
abbrev pub pushed_front : Queue → Item → Queue
pushed_front queue item = record queue { items = item ∷ queue.items }

-- a pop gives the first item, if there is one, and counts it (stm; the count is this project's)
abbrev pub Popped : Option Item → Queue → Queue → Type 0
Popped None old new = (old.items ≡ []) × (new ≡ old)
Popped (Some item) old new = (old.items ≡ item ∷ new.items) × (new.undoable ≡ old.undoable + 1)

-- the queue without its items, each counted as popped (stm; the count is this project's)
abbrev pub emptied : Queue → Queue
emptied queue = record { items = []; undoable = queue.undoable + length queue.items }

-- the queue without its last item
abbrev pub without_back : Queue → Queue
without_back queue = record queue { items = take (length queue.items - 1) queue.items }

-- the queue without its first item
abbrev pub without_first_item : Queue → Queue
without_first_item queue = record queue { items = drop 1 queue.items }

-- the queue with a popped item in front again, and one pop less to undo
abbrev pub unpopped : Queue → Item → Queue
unpopped queue item = record { items = item ∷ queue.items; undoable = queue.undoable - 1 }

-- the queue with no pop to undo
abbrev pub with_nothing_undoable : Queue → Queue
with_nothing_undoable queue = record queue { undoable = 0 }
