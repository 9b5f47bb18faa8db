-- Each entry is in one receipt, and each act of a receipt is an entry.
use Rattle.std.specs.Prelude.{◌≡◌, ℕ, zero, suc, ◌+◌, ◌<◌, ◌&&◌, nat_eq, Option, Some, None, List, [], ◌∷◌, length}
use Rattle.std.specs.Prelude.{slice_get}
use Rattle.txc_base.specs.declared.entry.Entry.{Entry}
use Rattle.txc_chan.specs.declared.account.Account.{Account}
use Rattle.txc_txn.specs.declared.deed.Deed.{Deed}
use Rattle.txc_txn.specs.declared.receipt.Receipt.{Receipt}
use Rattle.txc_txn.specs.InLog.{Logs, ReceiptIsInLog}
use Rattle.txc_chan.specs.Reserved.{one_if}
use Rattle.txc_table_seat.specs.Seated.{AreReceiptsOf, count}

-- each act of these receipts is the entry at its place
abbrev pub ReceiptsAreInLogs : Logs → List Receipt → Type 0
ReceiptsAreInLogs logs receipts = (n : ℕ) (receipt : Receipt) → slice_get receipts n ≡ Some receipt
    → ReceiptIsInLog logs receipt

-- each act of each receipt of each seat is the entry at its place
abbrev pub SeatsAreInLogs : Logs → List (List Receipt) → Type 0
SeatsAreInLogs logs seats = (s : ℕ) (receipts : List Receipt) → slice_get seats s ≡ Some receipts
    → ReceiptsAreInLogs logs receipts

-- the log of an account, if there is one
abbrev pub log_in : Option Account → List Entry
log_in None = []
log_in (Some account) = account.log

-- the logs of these accounts
abbrev pub logs_of : List Account → Logs
logs_of accounts chan = log_in (slice_get accounts chan)

-- how many of these acts are at a place of a channel
abbrev pub acts_at : ℕ → ℕ → List Deed → ℕ
acts_at chan place [] = 0
acts_at chan place (deed ∷ deeds) = one_if (nat_eq deed.chan chan && nat_eq deed.place place) + acts_at chan place deeds

-- how many acts of these receipts are at a place of a channel
abbrev pub receipts_at : ℕ → ℕ → List Receipt → ℕ
receipts_at chan place [] = 0
receipts_at chan place (receipt ∷ receipts) = acts_at chan place receipt.acts + receipts_at chan place receipts

-- how many acts of all seats are at a place of a channel
abbrev pub claims_at : ℕ → ℕ → List (List Receipt) → ℕ
claims_at chan place [] = 0
claims_at chan place (receipts ∷ seats) = receipts_at chan place receipts + claims_at chan place seats

-- each act of each receipt of each seat is the entry at its place, and each entry is at the place of exactly one of
-- them
pub record IsGathered (logs : Logs) (seats : List (List Receipt)) : Type 0 where
  pub stands : SeatsAreInLogs logs seats
  pub once : (chan place : ℕ) → place < length (logs chan) → claims_at chan place seats ≡ 1

-- the receipts belong to seats with numbers from this one on
abbrev pub AreReceiptsOfAll : ℕ → List (List Receipt) → Type 0
AreReceiptsOfAll seat [] = Unit {0}
AreReceiptsOfAll seat (receipts ∷ seats) = AreReceiptsOf seat 0 receipts × AreReceiptsOfAll (suc seat) seats

-- how many acts all seats have in a channel
abbrev pub count_all : ℕ → List (List Receipt) → ℕ
count_all chan [] = 0
count_all chan (receipts ∷ seats) = count chan receipts + count_all chan seats

-- how many acts all seats have in each of the given number of channels, from this channel on
abbrev pub totals_from : ℕ → ℕ → List (List Receipt) → List ℕ
totals_from chan zero seats = []
totals_from chan (suc n) seats = count_all chan seats ∷ totals_from (suc chan) n seats
