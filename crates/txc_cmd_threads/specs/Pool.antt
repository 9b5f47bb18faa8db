-- The input of the threads of a table, and their results. Only the clauses of private functions use it.
use Rattle.std.specs.Prelude.{◌≡◌, ℕ, ◌<◌, Option, Some, List, [], All, length, slice_get, slice_index_or, vec_len}
use Rattle.txc_chan.specs.declared.decl.Decl.{Decl}
use Rattle.txc_txn_check.specs.Limits.{CheckedView}
use Rattle.txc_txn_check.specs.Steps.{Fits}
use Rattle.txc_table_seat.specs.Seated.{SeatCommits, no_commits}
use Rattle.txc_cmd_report.specs.declared.seat_end.SeatEnd.{SeatEnd}
use Rattle.txc_cmd_report.specs.declared.seat_end.SeatEnd.TheVariants.{Finished}
use Rattle.txc_table.specs.Seat.{SeatView, DepartedSeatView}
use Rattle.txc_table.specs.Table.{TableView, decls_of}
use Rattle.txc_cmd_threads.specs.declared.pool.Results.{Results}
use Rattle.txc_cmd_threads.specs.declared.job.JobResult.{JobResult}
use Rattle.txc_cmd_threads.specs.Serves.{Serves}

-- a seat of this table, which was like this before, ran these transactions, ended so and left
pub record HasServed (table : TableView) (plans : List CheckedView) (before : SeatCommits) (left : DepartedSeatView)
    (end : SeatEnd)
    : Type 0 where
  pub serves : Serves (decls_of table.lines) plans before left.commits end
  pub of : left.lines ≡ table.lines

-- a seat is there, and these transactions fit the kinds of this table
abbrev pub CanRun : TableView → List CheckedView → Option SeatView → Type 0
CanRun table plans seat = All (λ plan. Fits (slice_get table.kinds) plan.steps) plans
    × ((one : SeatView) × (seat ≡ Some one))

-- the seat that was there ran these transactions, ended so and left
abbrev pub SeatHasRun : TableView → List CheckedView → Option SeatView → DepartedSeatView → SeatEnd → Type 0
SeatHasRun table plans seat left end = (one : SeatView) → seat ≡ Some one → HasServed table plans one.commits left end

-- this number of seats are back, and each of them, with its number and its end, is in this relation
pub record AreAllResults {L : Type 0} (many : ℕ) (so : ℕ → L → SeatEnd → Type 0) (results : Results L) : Type 0 where
  pub left : vec_len results.left ≡ many
  pub ends : vec_len results.ends ≡ many
  pub each : (k : ℕ) (d : L) → k < many
      → so k (slice_index_or results.left.items k d) (slice_index_or results.ends.items k Finished)

-- these are the seats and the ends of these results
pub record AreUnzipped {L : Type 0} (served : List (JobResult L)) (results : Results L) : Type 0 where
  pub left : vec_len results.left ≡ length served
  pub ends : vec_len results.ends ≡ length served
  pub each : (k : ℕ) (s : JobResult L) (l : L) (e : SeatEnd) → k < length served
      → (slice_index_or results.left.items k l ≡ (slice_index_or served k s).left)
      × (slice_index_or results.ends.items k e ≡ (slice_index_or served k s).end)

-- each of these seats has run its transactions on these channels
abbrev pub HaveServed : List Decl → List (List CheckedView) → List DepartedSeatView → List SeatEnd → Type 0
HaveServed decls seats left ends = (k : ℕ) (d : DepartedSeatView) → k < length seats
    → Serves decls (slice_index_or seats k []) (no_commits k) (slice_index_or left k d).commits
    (slice_index_or ends k Finished)

-- these transactions fit this table, and each of these seats has run its own and ended so
pub record HaveRun (table : TableView) (plans : List (List CheckedView)) (left : List DepartedSeatView)
    (ends : List SeatEnd)
    : Type 0 where
  pub fits : All (All (λ plan. Fits (slice_get table.kinds) plan.steps)) plans
  pub back : HaveServed (decls_of table.lines) plans left ends
