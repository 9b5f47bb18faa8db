use Rattle.std.proofs.Common.{◌≡◌, vec_len}
use Rattle.txc_cmd_threads.proofs.run.run_threads.Given as goal

abbrev pub invariant-loop-seat : goal.invariant-loop-seat
invariant-loop-seat g l = vec_len l.gates ≡ l._seat-index
