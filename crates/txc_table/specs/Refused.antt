-- The result of failing to finish a table.
use Rattle.std.specs.Prelude.{◌≡◌, ⊤, ℕ, ◌<◌, List, ◌++◌, codes}
use Rattle.std.specs.Fmt.{decimal}
use Rattle.txc_table_report.specs.Finished.{numbered}
use Rattle.txc_table_seat.specs.Seated.{SeatCommits}
use Rattle.txc_table.specs.declared.finish_fault.FinishFault.{FinishFault}
use Rattle.txc_table.specs.declared.finish_fault.FinishFault.TheVariants.{SeatMissing, NoMemory, Torn}
use Rattle.txc_table.specs.Seat.{AreOf, DepartedSeatView, commits_of}
use Rattle.txc_table.specs.Table.{TableLines, TableView}

-- each number of a seat is the number of one of these
abbrev pub HaveAllNumbers : ℕ → List SeatCommits → Type 0
HaveAllNumbers seats left = (number : ℕ) → number < seats → 0 < numbered number left

-- these are all seats of the table with these lines and this number of seats
pub record AreAllSeats (lines : TableLines) (seats : ℕ) (left : List DepartedSeatView) : Type 0 where
  pub of : AreOf lines left
  pub all : HaveAllNumbers seats (commits_of left)

-- some number of a seat is the number of none of these
pub record IsMissing (seats : ℕ) (left : List SeatCommits) : Type 0 where
  pub number : ℕ
  pub below : number < seats
  pub none : numbered number left ≡ 0

-- why a table is not finished, and what the fault returns; never that an act of a receipt is not the entry at its place
abbrev pub Refused : {K S : Type 0} → TableView → List DepartedSeatView → FinishFault K S → Type 0
Refused table left (SeatMissing same seats) =
    (same ≡ table) × (seats.items ≡ left) × IsMissing table.seats (commits_of left)
Refused table left (NoMemory same seats) =
    (same ≡ table) × (seats.items ≡ left) × HaveAllNumbers table.seats (commits_of left)
Refused table left (Torn seat chan place report) = ⊥

-- the fault is that a seat is missing
abbrev pub IsSeatMissing : {K S : Type 0} → FinishFault K S → Type 0
IsSeatMissing (SeatMissing table left) = ⊤
IsSeatMissing (Torn seat chan place report) = ⊥
IsSeatMissing (NoMemory table left) = ⊥

-- the number of a fault
abbrev pub finish_fault_code : {K S : Type 0} → FinishFault K S → ℕ
finish_fault_code (SeatMissing table left) = 1
finish_fault_code (Torn seat chan place report) = 2
finish_fault_code (NoMemory table left) = 3

-- the text of a fault
abbrev pub finish_fault_text : {K S : Type 0} → FinishFault K S → List ℕ
finish_fault_text (SeatMissing table left) = codes "a seat is missing"
finish_fault_text (Torn seat chan place report) =
    codes "torn at seat " ++ decimal seat ++ codes " chan " ++ decimal chan ++ codes " place " ++ decimal place
finish_fault_text (NoMemory table left) = codes "no memory"
