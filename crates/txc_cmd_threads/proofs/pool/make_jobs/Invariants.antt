use Rattle.std.proofs.Common.{◌≡◌, ℕ, ◌+◌, ◌<◌, ◌≤◌, [], Some, length, map, slice_index_or, vec_len}
use Rattle.std.specs.Prelude.{vec_capacity}
use Rattle.txc_cmd_threads.proofs.pool.make_jobs.Given as goal

abbrev pub invariant-loop-number : goal.invariant-loop-number
invariant-loop-number g l = record {
  seats : vec_len l.seats + l.number ≡ length l.pool.plans.now;
  gates : vec_len l.gates + l.number ≡ length l.pool.plans.now;
  seated : (k : ℕ) (s : _) → k < vec_len l.seats
      → slice_index_or l.seats.items k s ≡ slice_index_or l.initial.seats.items (l.number + k) s;
  room : length l.pool.plans.now ≤ vec_capacity l.jobs;
  long : vec_len l.jobs ≡ l.number;
  each : (k : ℕ) (j : _) (s : _) → k < vec_len l.jobs
      → ((slice_index_or l.jobs.items k j).table.now ≡ l.pool.table.now)
      × ((slice_index_or l.jobs.items k j).plans.now ≡ slice_index_or (map (λ seat. seat.items) l.pool.plans.now) k [])
      × ((slice_index_or l.jobs.items k j).seat ≡ Some (slice_index_or l.initial.seats.items k s));
}
