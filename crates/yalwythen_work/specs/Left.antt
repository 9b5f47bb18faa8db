-- What a worker leaves.
use Rattle.std.specs.Prelude.{◌≡◌, Bool, IsTrue}
use Rattle.txc_table.specs.Seat.{SeatView, DepartedSeatView}
use Rattle.yalwythen_work.specs.Plans.{PlansView}

-- a worker with this seat left this: the seat has the same number and is of the same table, and if commits are noted,
-- the noted ones are those that the seat committed
pub record IsLeftOf (audited : Bool) (seat : SeatView) (left : DepartedSeatView) (plans : PlansView) : Type 0 where
  pub number : left.commits.number ≡ seat.commits.number
  pub lines : left.lines ≡ seat.lines
  pub noted : IsTrue audited → plans.kept ≡ left.commits.plans
