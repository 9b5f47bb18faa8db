use Rattle.std.proofs.Common.{◌≡◌, drop}
use Rattle.yalwythen_work.specs.Ends.{first_error}
use Rattle.yalwythen_work.proofs.run_outcome.first_error.Given as goal

abbrev pub invariant-loop-worker : goal.invariant-loop-worker
invariant-loop-worker l = first_error l.with_stalls 0 l.ends ≡ first_error l.with_stalls l.worker (drop l.worker l.ends)
