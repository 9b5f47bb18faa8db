-- The result of finishing the table of a run. Only the clauses of private functions use it.
use Rattle.std.specs.Prelude.{◌≡◌, ◌≢◌, List, All, length}
use Rattle.txc_base.specs.declared.stop.Stop.TheVariants.{NoMemory as WithoutMemory}
use Rattle.txc_chan.specs.ChanView.{ChanView}
use Rattle.txc_txn_check.specs.Limits.{CheckedView}
use Rattle.txc_table_lines.specs.Accounted.{AreAccounts}
use Rattle.txc_cmd_report.specs.declared.outcome.Outcome.{Outcome}
use Rattle.txc_cmd_report.specs.declared.seat_end.SeatEnd.TheVariants.{Stopped}
use Rattle.txc_table.specs.Finished.{IsFinished}
use Rattle.txc_table.specs.Seat.{DepartedSeatView}
use Rattle.txc_table.specs.Table.{TableView, decls_of}
use Rattle.txc_cmd_threads.specs.Pool.{HaveServed}
use Rattle.txc_cmd_threads.specs.Stuck.{AreStuck}

-- the outcome of a table that its seats have left and that ran these transactions: each seat that stalled is stuck on
-- the channels of the report
pub record IsClosed (table : TableView) (plans : List (List CheckedView)) (outcome : Outcome) : Type 0 where
  pub left : List DepartedSeatView
  pub many : length left ≡ length plans
  pub finished : IsFinished table left outcome.report
  pub counted : length outcome.ends ≡ length plans
  pub back : HaveServed (decls_of table.lines) plans left outcome.ends
  pub known : All (λ end. end ≢ Stopped WithoutMemory) outcome.ends
  pub helds : List ChanView
  pub accounts : AreAccounts (decls_of table.lines) helds (length table.kinds) outcome.report.accounts
  pub stuck : AreStuck (length plans) helds plans left outcome.ends
