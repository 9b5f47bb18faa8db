-- What a stalled seat cannot do at the end of a run.
use Rattle.std.specs.Prelude.{◌≡◌, ⊤, ℕ, ◌<◌, Some, List, [], slice_get, slice_index_or, length}
use Rattle.txc_chan.specs.declared.decl.Decl.{Decl}
use Rattle.txc_chan.specs.ChanView.{ChanView}
use Rattle.txc_txn_check.specs.Limits.{CheckedView}
use Rattle.txc_table_lines.specs.Accounted.{AreAccounts}
use Rattle.txc_table.specs.IdleTableView.{MustRetry}
use Rattle.txc_table.specs.Seat.{DepartedSeatView}
use Rattle.txc_cmd_report.specs.declared.seat_end.SeatEnd.{SeatEnd}
use Rattle.txc_cmd_threads.specs.Pool.{HaveServed}
use Rattle.txc_cmd_report.specs.declared.seat_end.SeatEnd.TheVariants.{Finished, Stalled, Stopped}
use Rattle.txc_table_seat.specs.Seated.{SeatCommits}
use Rattle.txc_txn.specs.declared.report.Report.{Report}

-- on these channels the next transaction of a seat that stalled must be retried, for the cause that the seat ended with
abbrev pub IsStuck : List ChanView → List CheckedView → SeatCommits → SeatEnd → Type 0
IsStuck helds plans seat Finished = Unit {0}
IsStuck helds plans seat (Stalled cause) = (plan : CheckedView) × (slice_get plans (length seat.receipts) ≡ Some plan)
    × MustRetry helds seat plan cause
IsStuck helds plans seat (Stopped stop) = Unit {0}

-- a seat stalled
abbrev pub IsStalled : SeatEnd → Type 0
IsStalled Finished = ⊥
IsStalled (Stalled cause) = ⊤
IsStalled (Stopped stop) = ⊥

-- each of the first seats is stuck, up to this number
abbrev pub AreStuck : ℕ → List ChanView → List (List CheckedView) → List DepartedSeatView → List SeatEnd → Type 0
AreStuck many helds seats left ends = (n : ℕ) (d : DepartedSeatView) → n < many
    → IsStuck helds (slice_index_or seats n []) (slice_index_or left n d).commits (slice_index_or ends n Finished)

-- the channels of a report on which each seat that stalled is stuck: each seat in this list is the one with that
-- number, has run the first of its transactions, one for each of its receipts, and ended so
pub record AreStuckAtEnd (decls : List Decl) (seats : List (List CheckedView)) (left : List DepartedSeatView)
    (report : Report)
    (ends : List SeatEnd) : Type 0 where
  pub helds : List ChanView
  pub accounts : AreAccounts decls helds (length decls) report.accounts
  pub back : HaveServed decls seats left ends
  pub stuck : AreStuck (length seats) helds seats left ends
