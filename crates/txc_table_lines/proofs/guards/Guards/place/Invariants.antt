use Rattle.std.proofs.Common.{◌≢◌, ◌<◌, ℕ, slice_index_or}
use Rattle.txc_table_lines.proofs.guards.Guards.place.Given as goal

abbrev pub invariant-loop-at : goal.invariant-loop-at
invariant-loop-at g l = (k : ℕ) → k < l.at → slice_index_or l.self.declared k 0 ≢ l.number
