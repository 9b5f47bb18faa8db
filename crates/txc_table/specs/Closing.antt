-- What holds for a table that is closed, and for the parts of its report. Only the clauses of private functions use it.
use Rattle.std.specs.Prelude.{◌≡◌, ℕ, ◌<◌, ◌≤◌, All, List, [], length, map, replicate, vec_capacity}
use Rattle.txc_chan.specs.declared.summary.Summary.{Summary}
use Rattle.txc_txn_check.specs.Limits.{CheckedView}
use Rattle.txc_table_report.specs.Finished.{AreTheirs, IsReport}
use Rattle.txc_table_report.specs.Gathered.{SeatsAreInLogs, logs_of}
use Rattle.txc_txn_history.specs.Events.{events_from}
use Rattle.txc_txn_history.specs.Seats.{AreEven}
use Rattle.txc_table_line.specs.declared.mark.Mark.{Mark}
use Rattle.txc_table_seat.specs.Seated.{HistoryView, SeatCommits}
use Rattle.txc_txn.specs.declared.receipt.Receipt.{Receipt}
use Rattle.txc_txn.specs.declared.report.Report.{Report}
use Rattle.txc_txn.specs.InLog.{Logs}
use Rattle.txc_table_line.specs.LineChan.{LineChanView}
use Rattle.txc_table_line.specs.Line.{LineId, LedgerSharesView}
use Rattle.txc_table_lines.specs.Accounted.{AreAccounts, summary_in, with_logs}
use Rattle.txc_table_lines.specs.Locked.{AreClean, HaveParts, amounts_in, ledgers_in, ledgers_of, channel_at, helds_of}
use Rattle.txc_table_lines.specs.Locked.{lines_of, made_in}
use Rattle.txc_table.specs.declared.closing.ReportBuffers.{ReportBuffers}
use Rattle.txc_table.specs.Finished.{AreRanBy, IsOneHistory}
use Rattle.txc_table.specs.Refused.{AreAllSeats}
use Rattle.txc_table.specs.Seat.{ArePlacedEvents, DepartedSeatView, commits_of}
use Rattle.txc_table.specs.Table.{TableSeatsView, line_decls, table_lines}

-- a table with these seats can be closed, whose lines are locked and have these channels: nothing in the channels can
-- be undone, and all seats are in `left`
pub record CanClose (channels : List LineChanView) (table_seats : TableSeatsView) (left : List DepartedSeatView) : Type
    0 where
  pub seated : All (λ line. line.ledgers.seats ≡ table_seats.seats) (lines_of channels)
  pub clean : AreClean (helds_of channels)
  pub some : 0 < table_seats.seats
  pub back : AreAllSeats (table_lines table_seats (lines_of channels)) table_seats.seats left

-- these shares of the ledgers of these channels have no part and count nothing
pub record AreEmptyShares (channels : List LineChanView) (shares : List LedgerSharesView) : Type 0 where
  pub ledgers : ledgers_in shares ≡ ledgers_of (lines_of channels)
  pub parts : HaveParts 0 shares
  pub amounts : amounts_in shares ≡ replicate (length channels) 0
  pub made : made_in shares ≡ replicate (length channels) 0

-- the log of each of these channels
abbrev pub logs_in : List LineChanView → Logs
logs_in channels n = (channel_at channels n).held.logged.log

-- the marks of each of these channels
abbrev pub marks_in : List LineChanView → ℕ → List Mark
marks_in channels n = (channel_at channels n).marks

-- the receipts of each of these
abbrev pub receipts_of : List HistoryView → List (List Receipt)
receipts_of histories = map (λ one. one.commits.receipts) histories

-- the transactions of each of these
abbrev pub plans_of : List HistoryView → List (List CheckedView)
plans_of histories = map (λ one. one.commits.plans) histories

-- these buffers have the accounts of these channels, without their logs, shares that count nothing, and empty lists
-- with room for the histories of this number of seats and for their receipts
pub record AreBuffers (channels : List LineChanView) (many : ℕ) (buffers : ReportBuffers) : Type 0 where
  pub accounts : AreAccounts (line_decls (lines_of channels)) (helds_of channels) (length channels)
      (with_logs buffers.accounts.items (helds_of channels))
  pub shares : AreEmptyShares channels buffers.shares
  pub no_histories : buffers.histories.items ≡ []
  pub room_for_histories : many ≤ vec_capacity buffers.histories
  pub no_receipts : buffers.receipts.items ≡ []
  pub room_for_receipts : many ≤ vec_capacity buffers.receipts

-- the report of a table with these lines and this number of seats, which have left; each act of a receipt is the entry
-- at its place
pub record IsConsistentReport (lines : List LineId) (many : ℕ) (left : List DepartedSeatView) (report : Report) : Type 0
  where
    pub its_report : IsReport (line_decls lines) (length lines) many (commits_of left) report
    pub stand : SeatsAreInLogs (logs_of report.accounts) report.receipts
    pub history : IsOneHistory (line_decls lines) (commits_of left) report

-- such a report exists, and these are its summaries
pub record IsConsistentSummary (lines : List LineId) (many : ℕ) (left : List DepartedSeatView)
    (summaries : List Summary)
    : Type 0 where
  pub report : Report
  pub standing : IsConsistentReport lines many left report
  pub summarized : summaries ≡ map summary_in report.accounts

-- these are the receipts of this number of seats, which are all in `left`: each act is the entry at its place in the
-- log of its channel, and each transaction is placed in the histories of its channels
pub record AreOfAll (channels : List LineChanView) (left : List SeatCommits) (many : ℕ)
    (plans : List (List CheckedView))
    (receipts : List (List Receipt)) : Type 0 where
  pub theirs : AreTheirs left receipts
  pub stand : SeatsAreInLogs (logs_in channels) receipts
  pub seats : length receipts ≡ many
  pub all : length left ≡ many
  pub even : AreEven plans receipts
  pub ran : AreRanBy left plans
  pub placed : ArePlacedEvents (line_decls (lines_of channels)) (logs_in channels) (marks_in channels)
      (events_from 0 plans receipts)
