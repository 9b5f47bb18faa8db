use Rattle.std.proofs.Common.{◌≡◌, ℕ, ◌+◌, ◌<◌, slice_index_or, vec_len}
use Rattle.yalwythen_work.proofs.pool.leave_all.Given as goal

abbrev pub invariant-loop : goal.invariant-loop
invariant-loop g l = record {
  many : vec_len l.seats + l.counter ≡ l.end;
  of : (k : ℕ) (s : _) → k < vec_len l.seats → (slice_index_or l.seats.items k s).lines ≡ l.table.lines;
}
