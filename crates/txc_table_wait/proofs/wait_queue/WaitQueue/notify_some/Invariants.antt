use Rattle.txc_table_wait.proofs.wait_queue.WaitQueue.notify_some.Given as goal

abbrev pub decreases-loop-seat : goal.decreases-loop-seat
decreases-loop-seat g l = l.notified.bits

abbrev pub decreases-loop-seat-2 : goal.decreases-loop-seat-2
decreases-loop-seat-2 g l = l.waited.bits
