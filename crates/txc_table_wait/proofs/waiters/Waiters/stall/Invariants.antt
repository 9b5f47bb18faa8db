use Rattle.std.proofs.Common.{◌≡◌, ◌++◌, map, take, drop, length}
use Rattle.txc_table_wait.specs.Waiters.{stalled}
use Rattle.txc_table_wait.proofs.waiters.Waiters.stall.Given as goal

abbrev pub invariant-loop-seat : goal.invariant-loop-seat
invariant-loop-seat l = (length l.self-inside.states.items ≡ length l.initial.self-inside.states.items)
    × (l.self-inside.states.items ≡ map stalled (take l.seat l.initial.self-inside.states.items)
    ++ drop l.seat l.initial.self-inside.states.items)
