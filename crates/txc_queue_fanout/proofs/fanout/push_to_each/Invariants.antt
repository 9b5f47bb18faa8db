use Rattle.std.proofs.Common.{◌≡◌, ◌++◌, take, drop}
use Rattle.txc_queue_fanout.specs.Fanout.{appended_to_all}
use Rattle.txc_queue_fanout.proofs.fanout.push_to_each.Given as goal

abbrev pub invariant-loop-queue_index : goal.invariant-loop-queue_index
invariant-loop-queue_index l = l.queues ≡ appended_to_all (take l.queue_index l.initial.queues) l.item
    ++ drop l.queue_index l.initial.queues
