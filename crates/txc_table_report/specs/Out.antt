-- Removing a seat from a list.
use Rattle.std.specs.Prelude.{◌≡◌, ℕ, ◌+◌, nat_eq, Some, List, length, slice_get}
use Rattle.txc_chan.specs.Reserved.{one_if}
use Rattle.txc_table_report.specs.Finished.{numbered}
use Rattle.txc_table_seat.specs.Seated.{SeatCommits}

-- `new` is `old` without `seat`, which has this number
pub record RemovesSeat (number : ℕ) (old : List SeatCommits) (seat : SeatCommits) (new : List SeatCommits) : Type 0
  where
    pub its : seat.number ≡ number
    pub at : ℕ
    pub was : slice_get old at ≡ Some seat
    pub others : (k : ℕ) → numbered k old ≡ one_if (nat_eq number k) + numbered k new
    pub few : length old ≡ length new + 1
    pub from : (i : ℕ) (other : SeatCommits) → slice_get new i ≡ Some other → (j : ℕ) × (slice_get old j ≡ Some other)
