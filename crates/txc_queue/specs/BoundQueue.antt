-- A queue with a bound.
use Rattle.std.specs.Prelude.{ℕ, Bool, nat_le, length}
use Rattle.txc_queue.specs.Queue.{Queue, empty}

-- a queue, and the number of items from which on a write is rejected (stm)
pub record Bounded : Type 0 where
  pub queue : Queue
  pub bound : ℕ

-- a new queue with this bound (stm)
abbrev pub bounded : ℕ → Bounded
bounded bound = record { queue = empty; bound = bound }

-- a test: the queue is at its bound or over it (stm)
abbrev pub has_no_room : Bounded → Bool
has_no_room bounded = nat_le bounded.bound (length bounded.queue.items)

-- another queue, with the bound of this one
abbrev pub holding : Bounded → Queue → Bounded
holding bounded queue = record bounded { queue = queue }
