-- The model of a table that all its seats have left.
use Rattle.std.specs.Prelude.{◌≡◌, ◌≢◌, ℕ, Bool, List, length, slice_index_or}
use Rattle.txc_base.specs.declared.cause.Cause.{Cause}
use Rattle.txc_base.specs.declared.kind.Kind.{Kind}
use Rattle.txc_chan.specs.ChanView.{ChanView}
use Rattle.txc_txn_check.specs.Limits.{CheckedView}
use Rattle.txc_table_seat.specs.Seated.{SeatCommits, next_tag}
use Rattle.txc_txn.specs.Plain.{chan_in}
use Rattle.txc_txn.specs.Transaction.{Again, Kept, State, transaction}
use Rattle.txc_table_lines.specs.Locked.{AreClean}
use Rattle.txc_table.specs.Refused.{AreAllSeats}
use Rattle.txc_table.specs.Seat.{DepartedSeatView}
use Rattle.txc_table.specs.Table.{IsValidTable, TableLines, TableView}

-- the table, the seats that have left it, and its channels
pub record IdleTableView : Type 0 where
  pub table : TableView
  pub left : List DepartedSeatView
  pub helds : List ChanView

-- the invariant of such a table: nothing in the channels can be undone, and all seats are in `left`
pub record IsIdle (shelves : Bool) (lines : TableLines) (made : List ChanView) (kinds : List Kind)
    (helds : List ChanView)
    (left : List DepartedSeatView) : Type 0 where
  pub tabled : IsValidTable shelves lines.all made kinds lines.seats
  pub clean : AreClean helds
  pub back : AreAllSeats lines lines.seats left

-- on these channels the transaction of a seat must be retried, for this cause
abbrev pub MustRetry : List ChanView → SeatCommits → CheckedView → Cause → Type 0
MustRetry helds seat plan cause =
    transaction (chan_in helds) (next_tag seat) plan.declared plan.steps ≡ Again cause

-- on these channels the transaction of a seat would commit
abbrev pub WouldKeep : List ChanView → SeatCommits → CheckedView → Type 0
WouldKeep helds seat plan = (state : State)
    × (transaction (chan_in helds) (next_tag seat) plan.declared plan.steps ≡ Kept state)

-- these lists have the same length and differ at most at this index
pub record OthersStay (at : ℕ) (before after : List DepartedSeatView) : Type 0 where
  pub many : length after ≡ length before
  pub same : (k : ℕ) (seat : DepartedSeatView) → k ≢ at → slice_index_or after k seat ≡ slice_index_or before k seat
