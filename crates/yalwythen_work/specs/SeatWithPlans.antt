-- A seat with its transactions, in contracts.
use Rattle.std.specs.Prelude.{◌≡◌, IsTrue}
use Rattle.txc_table.specs.Seat.{SeatView}
use Rattle.yalwythen_work.specs.Plans.{PlansView}

-- a seat, and the transactions that were prepared and noted for it
pub record SeatWithPlansView : Type 0 where
  pub seat : SeatView
  pub plans : PlansView

-- the second seat is what the first one can become at a session: its seat has the same number and is of the same table,
-- commits are noted or not as before, and if they are noted, the noted ones are those that the seat committed
pub record IsAfterSession (before after : SeatWithPlansView) : Type 0 where
  pub number : after.seat.commits.number ≡ before.seat.commits.number
  pub lines : after.seat.lines ≡ before.seat.lines
  pub audited : after.plans.audited ≡ before.plans.audited
  pub noted : IsTrue after.plans.audited → after.plans.kept ≡ after.seat.commits.plans
