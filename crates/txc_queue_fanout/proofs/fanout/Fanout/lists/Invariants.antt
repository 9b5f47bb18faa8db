use Rattle.std.proofs.Common.{◌≡◌, take}
use Rattle.txc_queue_fanout.specs.Fanout.{unread_of}
use Rattle.txc_queue_fanout.proofs.fanout.Fanout.lists.Given as goal

abbrev pub invariant-loop-queue : goal.invariant-loop-queue
invariant-loop-queue l = l.lists.items ≡ take l.queue-index (unread_of l.queue-items)
