use Rattle.std.proofs.Common.{◌≡◌, ◌+◌, ◌-◌, ◌≤◌, vec_len, vec_capacity}
use Rattle.txc_queue_fanout.specs.Fanout.{empty_queues}
use Rattle.txc_queue_fanout.proofs.fanout.Fanout.new.Given as goal

abbrev pub invariant-loop : goal.invariant-loop
invariant-loop l =
    (l.queues.items ≡ empty_queues l.counter) × (vec_len l.queues + (l.readers - l.counter) ≤ vec_capacity l.queues)
