use Rattle.std.proofs.Common.{◌≡◌, take}
use Rattle.txc_queue_fanout.proofs.fanout.clone_queue.Given as goal

abbrev pub invariant-loop-item : goal.invariant-loop-item
invariant-loop-item l = l.clone ≡ record { items = take l.item-index l.item-items; undoable = 0 }
