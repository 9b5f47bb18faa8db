-- The model of a seat.
use Rattle.std.specs.Prelude.{◌≡◌, ℕ, zero, suc, ◌+◌, ◌-◌, ◌<◌, ◌≤◌, Option, Some, List, [], ◌∷◌, ◌++◌}
use Rattle.std.specs.Prelude.{length, slice_get}
use Rattle.txc_base.specs.declared.limits.TheConstants.{GREATEST_NUMBER}
use Rattle.txc_base.specs.declared.tag.Tag.{Tag}
use Rattle.txc_txn_check.specs.Limits.{CheckedView}
use Rattle.txc_txn.specs.declared.receipt.Receipt.{Receipt}
use Rattle.txc_txn.specs.Run.{count_deeds, PlacesRise}
use Rattle.txc_table_seat.specs.declared.tally.Tally.{Tally}
use Rattle.txc_table_seat.specs.Tally.{AreTallied}

-- a seat: its number, the receipts of its transactions in commit order, the stamp of the last one, and these
-- transactions
pub record SeatCommits : Type 0 where
  pub number : ℕ
  pub receipts : List Receipt
  pub stamp : ℕ
  pub plans : List CheckedView

-- how many acts of these receipts are in a channel
abbrev pub count : ℕ → List Receipt → ℕ
count chan [] = 0
count chan (receipt ∷ receipts) = count_deeds chan receipt.acts + count chan receipts

-- how many acts of these receipts are in each of the given number of channels, from this channel on
abbrev pub counts_from : ℕ → ℕ → List Receipt → List ℕ
counts_from chan zero receipts = []
counts_from chan (suc n) receipts = count chan receipts ∷ counts_from (suc chan) n receipts

-- the receipts have this seat and serials from this one on, and in each of them places rise
abbrev pub AreReceiptsOf : ℕ → ℕ → List Receipt → Type 0
AreReceiptsOf seat serial [] = Unit {0}
AreReceiptsOf seat serial (receipt ∷ receipts) = (receipt.tag.seat ≡ seat) × (receipt.tag.serial ≡ serial)
    × PlacesRise receipt
    × AreReceiptsOf seat (suc serial) receipts

-- the tag of the seat's next transaction, with its last stamp
abbrev pub next_tag : SeatCommits → Tag
next_tag commits = record { seat = commits.number; serial = length commits.receipts; stamp = commits.stamp }

-- the stamps of these receipts rise, start above the first number and end at the second
abbrev pub StampsRise : ℕ → ℕ → List Receipt → Type 0
StampsRise least last [] = least ≡ last
StampsRise least last (receipt ∷ receipts) = (least < receipt.tag.stamp) × StampsRise receipt.tag.stamp last receipts

-- the last of these receipts, if there is one
abbrev pub last_receipt : List Receipt → Option Receipt
last_receipt receipts = slice_get receipts (length receipts - 1)

-- a seat with this number that has committed nothing
abbrev pub no_commits : ℕ → SeatCommits
no_commits number = record { number = number; receipts = []; stamp = 0; plans = [] }

-- a seat after one more transaction with this receipt
abbrev pub with_receipt : SeatCommits → CheckedView → Receipt → SeatCommits
with_receipt seat plan receipt = record {
  number = seat.number;
  receipts = seat.receipts ++ receipt ∷ [];
  stamp = receipt.tag.stamp;
  plans = seat.plans ++ plan ∷ [];
}

-- what a seat has committed, for how many more receipts there is room, and how many channels its table has
pub record HistoryView : Type 0 where
  pub commits : SeatCommits
  pub room : ℕ
  pub channels : ℕ

-- the invariant of a history: its receipts are the seat's own, their stamps rise, the tallies count their acts, and
-- there are as many transactions as receipts
pub record IsInHistory (number : ℕ) (receipts : List Receipt) (stamp : ℕ) (tallies : List Tally)
    (plans : List CheckedView)
    : Type 0 where
  pub own : AreReceiptsOf number 0 receipts
  pub stamped : StampsRise 0 stamp receipts
  pub tallied : AreTallied tallies receipts
  pub even : length plans ≡ length receipts

-- all receipts of a seat, and for how many more there is room
pub record ReceiptsView : Type 0 where
  pub all : List Receipt
  pub room : ℕ

-- the invariant of receipts that have only the last one in memory: there are `count` of them, a number can hold that
-- count, and if there is any, this is the last one
pub record IsLastOf (all : List Receipt) (last : Receipt) (count : ℕ) : Type 0 where
  pub counted : length all ≡ count
  pub few : count ≤ GREATEST_NUMBER
  pub final : 0 < count → last_receipt all ≡ Some last
