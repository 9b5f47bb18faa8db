use Rattle.std.proofs.Common.{◌≡◌, ◌++◌, take, drop}
use Rattle.txc_queue_fanout.specs.Fanout.{without_backs}
use Rattle.txc_queue_fanout.proofs.fanout.take_back.Given as goal

abbrev pub invariant-loop-queue_index : goal.invariant-loop-queue_index
invariant-loop-queue_index l = l.queues ≡ without_backs (take l.queue_index l.initial.queues)
    ++ drop l.queue_index l.initial.queues
