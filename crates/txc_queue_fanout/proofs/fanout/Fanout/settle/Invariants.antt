use Rattle.std.proofs.Common.{◌≡◌, ◌++◌, take, drop}
use Rattle.txc_queue_fanout.specs.Fanout.{at_rest_all}
use Rattle.txc_queue_fanout.proofs.fanout.Fanout.settle.Given as goal

abbrev pub invariant-loop-queue : goal.invariant-loop-queue
invariant-loop-queue l =
    l.queue-items ≡ at_rest_all (take l.queue-index l.initial.queue-items) ++ drop l.queue-index l.initial.queue-items
