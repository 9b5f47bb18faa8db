-- The result of a run of workers.
use Rattle.std.specs.Prelude.{◌≡◌, ℕ, ◌<◌, List, length, map, slice_index_or, vec_len}
use Rattle.txc_base.specs.declared.limits.TheConstants.{MAX_SEATS}
use Rattle.txc_chan.specs.declared.summary.Summary.{Summary}
use Rattle.txc_chan.specs.declared.decl.Decl.{Decl}
use Rattle.txc_table_report.specs.Finished.{IsReport}
use Rattle.txc_table_report.specs.Gathered.{IsGathered, logs_of}
use Rattle.txc_table_report.specs.Refusal.{reason, refusal}
use Rattle.txc_table_report.specs.Sorted.{AreTakenOnce, IsSummed}
use Rattle.txc_txn_check.specs.Limits.{CheckedView}
use Rattle.txc_table_seat.specs.Seated.{SeatCommits}
use Rattle.txc_txn.specs.declared.report.Report.{Report}
use Rattle.txc_table_lines.specs.Accounted.{summary_in}
use Rattle.txc_table.specs.Finished.{IsOneHistory, IsSerialHistory}
use Rattle.yalwythen_work.specs.declared.service_outcome.ServiceOutcome.{ServiceOutcome}
use Rattle.yalwythen_work.specs.declared.pool.Results.{Results}
use Rattle.yalwythen_work.specs.declared.run_outcome.RunOutcome.{RunOutcome}
use Rattle.yalwythen_work.specs.declared.run_fault.RunFault.{RunFault}
use Rattle.yalwythen_work.specs.declared.run_fault.RunFault.TheVariants.{TooManyWorkers, Table, NoThread, Torn}
use Rattle.yalwythen_work.specs.declared.run_fault.RunFault.TheVariants.{NoMemory}
use Rattle.yalwythen_work.specs.Plans.{PlansView}

-- the report of this number of workers on these channels, whatever they did: it is of a finished table, every entry of
-- every channel is in one receipt, the counts of each channel add up, every item of a queue was taken by one seat or
-- remains, and it is one serial history of the transactions that the seats committed on these channels
pub record IsRun (decls : List Decl) (workers : ℕ) (report : Report) : Type 0 where
  pub left : List SeatCommits
  pub its_report : IsReport decls (length decls) workers left report
  pub gathered : IsGathered (logs_of report.accounts) report.receipts
  pub summed : IsSummed (logs_of report.accounts) report.receipts
  pub once : AreTakenOnce decls report
  pub history : IsOneHistory decls left report

-- the transactions that each of these workers noted
abbrev pub all_noted : List PlansView → List (List CheckedView)
all_noted all = map (λ plans. plans.kept) all

-- the run is one serial history of the transactions that its workers noted
abbrev pub IsSerial : {W : Type 0} → List Decl → RunOutcome W → Type 0
IsSerial decls done = IsSerialHistory decls (all_noted done.plans.items) done.report

-- the summaries of a service of this number of servers on these channels, whatever they did: a report of such a run
-- exists, and these are its summaries
pub record IsService (decls : List Decl) (servers : ℕ) (summaries : List Summary) : Type 0 where
  pub report : Report
  pub run : IsRun decls servers report
  pub summarized : summaries ≡ map summary_in report.accounts

-- why a run has no report: a failed start of a thread and a failed allocation need no reason, and a torn receipt never
-- occurs
abbrev pub IsRefused : List Decl → ℕ → RunFault → Type 0
IsRefused decls workers TooManyWorkers = MAX_SEATS < workers
IsRefused decls workers (Table fault) = refusal decls workers ≡ reason fault
IsRefused decls workers NoThread = Unit {0}
IsRefused decls workers (Torn seat chan place report) = ⊥
IsRefused decls workers NoMemory = Unit {0}

-- this number of workers are back, each with its results
abbrev pub IsOfAll : {L W : Type 0} → ℕ → Results L W → Type 0
IsOfAll many results = (vec_len results.left ≡ many) × (vec_len results.workers ≡ many) × (vec_len results.ends ≡ many)
    × (vec_len results.plans ≡ many)

-- each of these workers is in this relation with its final value and with what it returned
pub record AllEnded {W E : Type 0} (so : W → W → E → Type 0) (before after : List W) (ends : List E) : Type 0 where
  pub many : length after ≡ length before
  pub counted : length ends ≡ length before
  pub each : (k : ℕ) (b a : W) (e : E) → k < length before
      → so (slice_index_or before k b) (slice_index_or after k a) (slice_index_or ends k e)

-- a run has this number of workers, of results of workers, and of lists of noted transactions
abbrev pub IsOfEach : {W : Type 0} → ℕ → RunOutcome W → Type 0
IsOfEach many done = (vec_len done.workers ≡ many) × (vec_len done.ends ≡ many) × (vec_len done.plans ≡ many)

-- a service has this number of servers and of results of servers
abbrev pub IsOfEachServer : {W : Type 0} → ℕ → ServiceOutcome W → Type 0
IsOfEachServer many closed = (vec_len closed.servers ≡ many) × (vec_len closed.ends ≡ many)
