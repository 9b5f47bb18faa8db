use Rattle.std.proofs.Common.{◌≡◌, ℕ, ◌<◌, ◌≤◌, drop, length, slice_index_or, vec_len}
use Rattle.std.specs.Vec.Iter.{into_iter_items, into_iter_len}
use Rattle.yalwythen_work.proofs.pool.unzip_results.Given as goal

abbrev pub invariant-loop-one : goal.invariant-loop-one
invariant-loop-one g l = record {
  rest : into_iter_items l.one-iterator ≡ drop (vec_len l.results.left) l.fn.served.items;
  left : into_iter_len l.one-iterator ≡ length (into_iter_items l.one-iterator);
  some : vec_len l.results.left ≤ vec_len l.fn.served;
  workers : vec_len l.results.workers ≡ vec_len l.results.left;
  ends : vec_len l.results.ends ≡ vec_len l.results.left;
  plans : vec_len l.results.plans ≡ vec_len l.results.left;
  each : (k : ℕ) (s : _) (x : _) (w : _) (p : _) (e : _) → k < vec_len l.results.left
      → (slice_index_or l.results.left.items k x ≡ (slice_index_or l.fn.served.items k s).left)
      × (slice_index_or l.results.workers.items k w ≡ (slice_index_or l.fn.served.items k s).worker)
      × (slice_index_or l.results.plans.items k p ≡ (slice_index_or l.fn.served.items k s).plans)
      × (slice_index_or l.results.ends.items k e ≡ (slice_index_or l.fn.served.items k s).end);
}
