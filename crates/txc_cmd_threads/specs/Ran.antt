-- The result of threads that run the transactions of a script.
use Rattle.std.specs.Prelude.{ℕ, List, length}
use Rattle.txc_chan.specs.declared.decl.Decl.{Decl}
use Rattle.txc_txn_check.specs.Limits.{CheckedView}
use Rattle.txc_table_report.specs.Finished.{IsReport}
use Rattle.txc_table_report.specs.Gathered.{IsGathered, logs_of}
use Rattle.txc_txn_history.specs.Events.{Event}
use Rattle.txc_txn_history.specs.OneOrder.{IsOneOrder}
use Rattle.txc_table_report.specs.Sorted.{AreTakenOnce, IsSummed}
use Rattle.txc_cmd_report.specs.declared.outcome.Outcome.{Outcome}
use Rattle.txc_cmd_report.specs.Outcome.{IsComplete}
use Rattle.txc_table.specs.Seat.{DepartedSeatView, commits_of}
use Rattle.txc_cmd_threads.specs.declared.run_fault.RunFault.{RunFault}
use Rattle.txc_cmd_threads.specs.declared.run_fault.RunFault.TheVariants.{NoThread, Torn, NoMemory}
use Rattle.txc_cmd_threads.specs.Serves.{AreServed}
use Rattle.txc_cmd_threads.specs.Stuck.{AreStuckAtEnd}

-- the outcome of threads that ran the transactions of these seats on these channels: the report is of a finished table,
-- every entry is in one receipt, every item of a queue was taken by one seat or is left, each seat's receipts and its
-- end are those of its transactions, the outcome is that of some order of these transactions in one thread, and the
-- next transaction of each seat that stalled must be retried on the channels of the report
pub record IsRan (decls : List Decl) (seats : List (List CheckedView)) (outcome : Outcome) : Type 0 where
  pub left : List DepartedSeatView
  pub report : IsReport decls (length decls) (length seats) (commits_of left) outcome.report
  pub gathered : IsGathered (logs_of outcome.report.accounts) outcome.report.receipts
  pub summed : IsSummed (logs_of outcome.report.accounts) outcome.report.receipts
  pub once : AreTakenOnce decls outcome.report
  pub served : AreServed decls seats outcome.report.receipts outcome.ends
  pub complete : IsComplete outcome
  pub history : (order : List Event) × IsOneOrder decls seats outcome.report order
  pub stuck : AreStuckAtEnd decls seats left outcome.report outcome.ends

-- why the threads have no outcome: a failed start of a thread and a failed allocation need no reason, and a torn
-- receipt never occurs
abbrev pub IsNotTorn : RunFault → Type 0
IsNotTorn NoThread = Unit {0}
IsNotTorn (Torn seat chan place report) = ⊥
IsNotTorn NoMemory = Unit {0}

-- the number of a fault
abbrev pub run_fault_code : RunFault → ℕ
run_fault_code NoThread = 1
run_fault_code (Torn seat chan place report) = 2
run_fault_code NoMemory = 3
