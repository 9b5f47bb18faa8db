-- The report at the end of a table.
use Rattle.std.specs.Prelude.{◌≡◌, ℕ, ◌+◌, nat_eq, Some, List, [], ◌∷◌, length, slice_get}
use Rattle.txc_chan.specs.declared.account.Account.{Account}
use Rattle.txc_chan.specs.declared.decl.Decl.{Decl}
use Rattle.txc_txn.specs.declared.receipt.Receipt.{Receipt}
use Rattle.txc_txn.specs.declared.report.Report.{Report}
use Rattle.txc_chan.specs.Reserved.{one_if}
use Rattle.txc_table_line.specs.Account.{IsAccount}
use Rattle.txc_table_report.specs.Gathered.{AreReceiptsOfAll, count_all}
use Rattle.txc_table_seat.specs.Seated.{StampsRise, SeatCommits}
use Rattle.txc_table_line.specs.Line.{decl_at}

-- how many of these seats have this number
abbrev pub numbered : ℕ → List SeatCommits → ℕ
numbered n [] = 0
numbered n (seat ∷ seats) = one_if (nat_eq seat.number n) + numbered n seats

-- these are the receipts of the seat with this number, and their stamps rise
pub record IsSeatOf (left : List SeatCommits) (number : ℕ) (receipts : List Receipt) : Type 0 where
  pub at : ℕ
  pub seat : SeatCommits
  pub here : slice_get left at ≡ Some seat
  pub its : seat.number ≡ number
  pub theirs : seat.receipts ≡ receipts
  pub stamps : StampsRise 0 seat.stamp receipts

-- `seats` has the receipts of these seats, by their numbers
pub record AreTheirs (left : List SeatCommits) (seats : List (List Receipt)) : Type 0 where
  pub own : AreReceiptsOfAll 0 seats
  pub each : (n : ℕ) (receipts : List Receipt) → slice_get seats n ≡ Some receipts → IsSeatOf left n receipts

-- the report of a table with these lines, this number of channels and this number of seats, once all its seats have
-- left: an account of each channel, whose log is as long as all receipts have acts there, and the receipts of each seat
pub record IsReport (lines : List Decl) (channels seats : ℕ) (left : List SeatCommits) (report : Report) : Type 0 where
  pub many : length report.accounts ≡ channels
  pub accounts : (chan : ℕ) (account : Account) → slice_get report.accounts chan ≡ Some account
      → IsAccount (decl_at lines chan) (count_all chan report.receipts) account
      × (length account.log ≡ count_all chan report.receipts)
  pub seated : length report.receipts ≡ seats
  pub all : length left ≡ seats
  pub theirs : AreTheirs left report.receipts
