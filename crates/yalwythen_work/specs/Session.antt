-- A session in contracts.
use Rattle.std.specs.Prelude.{◌≡◌, Bool, List, All, slice_get}
use Rattle.txc_base.specs.declared.entry.Entry.{Entry}
use Rattle.txc_txn_check.specs.Limits.{CheckedView}
use Rattle.txc_txn_check.specs.Steps.{Fits}
use Rattle.yalwythen_work.specs.Plans.{PlansView}
use Rattle.yalwythen_work.specs.SeatWithPlans.{IsAfterSession, SeatWithPlansView}
use Rattle.txc_table_seat.specs.Seated.{SeatCommits}
use Rattle.txc_table.specs.Seat.{SeatView, log_at}
use Rattle.txc_table.specs.Table.{TableView}
use Rattle.txc_txn.specs.InLog.{Logs}

-- a session: the table, the seat with its receipts, what the seat has seen of the log of each channel, whether
-- committed transactions are noted, the noted ones in order, and the prepared ones
pub record SessionView : Type 0 where
  pub table : TableView
  pub seat : SeatCommits
  pub seen : List (List Entry)
  pub audited : Bool
  pub plans : List CheckedView
  pub prepared : List CheckedView

-- the session's seat
abbrev pub seat_of : SessionView → SeatView
seat_of session = record { commits = session.seat; lines = session.table.lines; seen = session.seen }

-- what the session's seat has seen of the log of each channel
abbrev pub logs_seen : SessionView → Logs
logs_seen session = log_at session.seen

-- a session whose seat has seen this of the logs, and which is otherwise the same
abbrev pub with_seen : SessionView → List (List Entry) → SessionView
with_seen session seen = record {
  table = session.table;
  seat = session.seat;
  seen = seen;
  audited = session.audited;
  plans = session.plans;
  prepared = session.prepared;
}

-- the invariant of a session that was made from this first seat and its plans: its seat is of the table, the prepared
-- transactions fit the table, and the seat and the transactions are what the first ones can become
pub record IsSession (first : SeatWithPlansView) (table : TableView) (seat : SeatView) (plans : PlansView) : Type 0
  where
    pub of : seat.lines ≡ table.lines
    pub fit : All (λ plan. Fits (slice_get table.kinds) plan.steps) plans.prepared
    pub back : IsAfterSession first (record { seat = seat; plans = plans })
