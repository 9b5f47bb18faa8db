use Rattle.std.proofs.Common.{◌≡◌, ℕ, ◌<◌, ◌≤◌, drop, length, slice_index_or, vec_len}
use Rattle.std.specs.Prelude.{vec_capacity}
use Rattle.std.specs.Vec.Iter.{into_iter_items, into_iter_len}
use Rattle.txc_base_threads.proofs.threads.fn.run_all.scope.Given as goal

abbrev pub invariant-loop-task : goal.invariant-loop-task
invariant-loop-task g l = record {
  rest : into_iter_items l.task-iterator ≡ drop (vec_len l.threads) (into_iter_items l.initial.task-iterator);
  left : into_iter_len l.task-iterator ≡ length (into_iter_items l.task-iterator);
  some : vec_len l.threads ≤ length (into_iter_items l.initial.task-iterator);
  room : length (into_iter_items l.initial.task-iterator) ≤ vec_capacity l.threads;
  each : (k : ℕ) (t : _) (j : _) → k < vec_len l.threads
      → (slice_index_or l.threads.items k t).promise.0.value ≡ slice_index_or (into_iter_items l.initial.task-iterator)
      k j;
}
