use Rattle.std.proofs.Common.{◌≡◌, ℕ, ◌+◌, ◌<◌, ◌≤◌, Some, slice_index_or, vec_len}
use Rattle.std.specs.Prelude.{vec_capacity}
use Rattle.yalwythen_work.proofs.pool.make_jobs.Given as goal

abbrev pub invariant-loop : goal.invariant-loop
invariant-loop g l = record {
  seats : vec_len l.seats + l.counter ≡ l.end;
  workers : vec_len l.workers + l.counter ≡ l.end;
  seated : (k : ℕ) (s : _) → k < vec_len l.seats
      → slice_index_or l.seats.items k s ≡ slice_index_or l.initial.seats.items (l.counter + k) s;
  worked : (k : ℕ) (w : _) → k < vec_len l.workers
      → slice_index_or l.workers.items k w ≡ slice_index_or l.initial.workers.items (l.counter + k) w;
  room : l.end ≤ vec_capacity l.jobs;
  long : vec_len l.jobs ≡ l.counter;
  each : (k : ℕ) (j : _) (s : _) (w : _) → k < vec_len l.jobs
      → ((slice_index_or l.jobs.items k j).seat ≡ Some (slice_index_or l.initial.seats.items k s))
      × ((slice_index_or l.jobs.items k j).worker ≡ Some (slice_index_or l.initial.workers.items k w))
      × ((slice_index_or l.jobs.items k j).setup ≡ l.fn.pool.setup);
}
