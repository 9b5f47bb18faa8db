-- The states of the seats of a wait queue, and their transitions.
use Rattle.std.specs.Prelude.{ℕ, Bool, true, false, List, map, slice_index_or, if◌then◌else◌}
use Rattle.std.specs.List.{list_all}
use Rattle.txc_table_wait.specs.declared.waiters.WaiterState.{WaiterState}
use Rattle.txc_table_wait.specs.declared.waiters.WaiterState.TheVariants.{Running, Notified, Waits, WaitsUntil, Stalled}
use Rattle.txc_table_wait.specs.declared.waiters.WaiterState.TheVariants.{Left}

-- the state of a seat; `Left` if the list has no such seat
abbrev pub state_at : List WaiterState → ℕ → WaiterState
state_at states seat = slice_index_or states seat Left

-- the state of a seat after it registers
abbrev pub registered : WaiterState → WaiterState
registered Running = Running
registered Notified = Running
registered Waits = Running
registered WaitsUntil = Running
registered Stalled = Running
registered Left = Left

-- the state of a seat after it was notified
abbrev pub notified : WaiterState → WaiterState
notified Running = Notified
notified Notified = Notified
notified Waits = Notified
notified WaitsUntil = Notified
notified Stalled = Stalled
notified Left = Left

-- the state of a seat after it began to wait with no deadline
abbrev pub waiting : WaiterState → WaiterState
waiting Running = Waits
waiting Notified = Notified
waiting Waits = Waits
waiting WaitsUntil = WaitsUntil
waiting Stalled = Stalled
waiting Left = Left

-- the state of a seat after it began to wait until a deadline
abbrev pub waiting_until : WaiterState → WaiterState
waiting_until Running = WaitsUntil
waiting_until Notified = Notified
waiting_until Waits = Waits
waiting_until WaitsUntil = WaitsUntil
waiting_until Stalled = Stalled
waiting_until Left = Left

-- the state of a seat after a stall; a seat with a deadline does not stall
abbrev pub stalled : WaiterState → WaiterState
stalled Running = Running
stalled Notified = Notified
stalled Waits = Stalled
stalled WaitsUntil = WaitsUntil
stalled Stalled = Stalled
stalled Left = Left

-- a test: the seat was notified or stalled since it registered
abbrev pub was_woken : WaiterState → Bool
was_woken Running = false
was_woken Notified = true
was_woken Waits = false
was_woken WaitsUntil = false
was_woken Stalled = true
was_woken Left = false

-- a test: the seat was notified since it registered
abbrev pub was_notified : WaiterState → Bool
was_notified Running = false
was_notified Notified = true
was_notified Waits = false
was_notified WaitsUntil = false
was_notified Stalled = false
was_notified Left = false

-- a test: the seat stalled since it registered
abbrev pub was_stalled : WaiterState → Bool
was_stalled Running = false
was_stalled Notified = false
was_stalled Waits = false
was_stalled WaitsUntil = false
was_stalled Stalled = true
was_stalled Left = false

-- a test: the seat waits, with a deadline or without
abbrev pub awaits : WaiterState → Bool
awaits Running = false
awaits Notified = false
awaits Waits = true
awaits WaitsUntil = true
awaits Stalled = false
awaits Left = false

-- a test: the seat waits with no deadline or has left, so it cannot proceed by itself
abbrev pub is_blocked : WaiterState → Bool
is_blocked Running = false
is_blocked Notified = false
is_blocked Waits = true
is_blocked WaitsUntil = false
is_blocked Stalled = false
is_blocked Left = true

-- if each seat waits with no deadline or has left, all waiting seats stall; otherwise nothing changes
abbrev pub after_check : List WaiterState → List WaiterState
after_check states = if list_all is_blocked states then map stalled states else states
