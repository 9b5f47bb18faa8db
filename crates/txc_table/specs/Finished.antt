-- The result of finishing a table.
use Rattle.std.specs.Prelude.{◌≡◌, ℕ, Some, List, length, map, slice_get}
use Rattle.txc_chan.specs.declared.summary.Summary.{Summary}
use Rattle.txc_chan.specs.declared.decl.Decl.{Decl}
use Rattle.txc_txn_check.specs.Limits.{CheckedView}
use Rattle.txc_txn_history.specs.Events.{Event}
use Rattle.txc_txn_history.specs.OneOrder.{IsOneOrder}
use Rattle.txc_txn_history.specs.Seats.{AreEven}
use Rattle.txc_table_report.specs.Finished.{IsReport}
use Rattle.txc_table_report.specs.Gathered.{IsGathered, logs_of}
use Rattle.txc_table_report.specs.Sorted.{AreTakenOnce, IsSummed}
use Rattle.txc_table_seat.specs.Seated.{SeatCommits}
use Rattle.txc_txn.specs.declared.report.Report.{Report}
use Rattle.txc_table_lines.specs.Accounted.{summary_in}
use Rattle.txc_table.specs.Seat.{DepartedSeatView, commits_of}
use Rattle.txc_table.specs.Table.{TableView, decls_of}

-- these are the transactions of the seat with this number, in the order in which it ran them
pub record IsRanBy (left : List SeatCommits) (number : ℕ) (plans : List CheckedView) : Type 0 where
  pub at : ℕ
  pub seat : SeatCommits
  pub here : slice_get left at ≡ Some seat
  pub its : seat.number ≡ number
  pub theirs : seat.plans ≡ plans

-- the transactions of each seat, by their numbers
abbrev pub AreRanBy : List SeatCommits → List (List CheckedView) → Type 0
AreRanBy left seats = (n : ℕ) (plans : List CheckedView) → slice_get seats n ≡ Some plans → IsRanBy left n plans

-- the report is one serial history of these transactions of each seat on these channels: each seat has a receipt for
-- each of its transactions and no other receipt, and in this order, by stamp, seat and serial, one thread would have got
-- each receipt exactly, and left the channels as the accounts show them
pub record IsSerialHistory (decls : List Decl) (plans : List (List CheckedView)) (report : Report) : Type 0 where
  pub even : AreEven plans report.receipts
  pub order : List Event
  pub one : IsOneOrder decls plans report order

-- the report is one serial history of the transactions that the seats ran on these channels
pub record IsOneHistory (decls : List Decl) (left : List SeatCommits) (report : Report) : Type 0 where
  pub plans : List (List CheckedView)
  pub ran : AreRanBy left plans
  pub serial : IsSerialHistory decls plans report

-- the report of this table, which these seats have left: each entry is in one receipt, each item of a queue was taken
-- by one seat or remains, and the report is one history of one thread
pub record IsFinished (table : TableView) (left : List DepartedSeatView) (report : Report) : Type 0 where
  pub its_report : IsReport (decls_of table.lines) (length table.kinds) table.seats (commits_of left) report
  pub gathered : IsGathered (logs_of report.accounts) report.receipts
  pub summed : IsSummed (logs_of report.accounts) report.receipts
  pub once : AreTakenOnce (decls_of table.lines) report
  pub history : IsOneHistory (decls_of table.lines) (commits_of left) report

-- such a report exists, and these are its summaries
pub record IsFinishedInSummary (table : TableView) (left : List DepartedSeatView) (summaries : List Summary) : Type 0
  where
    pub report : Report
    pub finished : IsFinished table left report
    pub summarized : summaries ≡ map summary_in report.accounts
