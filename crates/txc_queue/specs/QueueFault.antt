-- The errors of a queue.
use Rattle.std.specs.Prelude.{ℕ, Bool, true, false, Result, Ok, Err}
use Rattle.txc_queue.specs.declared.queue_fault.QueueFault.{QueueFault}
use Rattle.txc_queue.specs.declared.queue_fault.QueueFault.TheVariants.{Full, NoMemory}

-- the number of an error
abbrev pub queue_fault_code : QueueFault → ℕ
queue_fault_code Full = 1
queue_fault_code NoMemory = 2

-- whether a call returned that the queue is full
abbrev pub says_full : {T : Type 0} → Result T QueueFault → Bool
says_full (Ok value) = false
says_full (Err Full) = true
says_full (Err NoMemory) = false
