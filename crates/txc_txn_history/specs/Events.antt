-- The transactions of all seats with their receipts.
use Rattle.std.specs.Prelude.{◌≡◌, ℕ, suc, ◌+◌, ◌<◌, ◌≤◌, Some, List, [], ◌∷◌, ◌++◌, length, slice_get, All}
use Rattle.txc_base.specs.declared.tag.Tag.{Tag}
use Rattle.txc_txn.specs.declared.receipt.Receipt.{Receipt}
use Rattle.txc_txn_check.specs.Limits.{CheckedView}

-- a transaction of a seat, the stamp of the seat's receipt before it (0 before the first), and its receipt
pub record Event : Type 0 where
  pub seat : ℕ
  pub plan : CheckedView
  pub before : ℕ
  pub receipt : Receipt

-- the nth transaction of a seat with its nth receipt, in order, as long as there are receipts; `before` is the stamp
-- before the first
abbrev pub events_of : ℕ → ℕ → List CheckedView → List Receipt → List Event
events_of seat before [] receipts = []
events_of seat before (plan ∷ plans) [] = []
events_of seat before (plan ∷ plans) (receipt ∷ receipts) =
    record {
      seat = seat;
      plan = plan;
      before = before;
      receipt = receipt;
    } ∷ events_of seat receipt.tag.stamp plans receipts

-- the transactions of the seats from this one on that have receipts, seat by seat
abbrev pub events_from : ℕ → List (List CheckedView) → List (List Receipt) → List Event
events_from seat [] receipts = []
events_from seat (plans ∷ seats) [] = []
events_from seat (plans ∷ seats) (own ∷ receipts) = events_of seat 0 plans own ++ events_from (suc seat) seats receipts

-- the tag that the transaction is tried with: its seat, the receipt's serial, and the stamp before it
abbrev pub asked : Event → Tag
asked event = record { seat = event.seat; serial = event.receipt.tag.serial; stamp = event.before }

-- the receipts of a seat name it; their serials rise, and their stamps do not fall
pub record IsInTurn (seat : ℕ) (receipts : List Receipt) : Type 0 where
  pub own : All (λ receipt. receipt.tag.seat ≡ seat) receipts
  pub serials : (n : ℕ) (one next : Receipt) → slice_get receipts n ≡ Some one → slice_get receipts (n + 1) ≡ Some next
      → one.tag.serial < next.tag.serial
  pub stamps : (n : ℕ) (one next : Receipt) → slice_get receipts n ≡ Some one → slice_get receipts (n + 1) ≡ Some next
      → one.tag.stamp ≤ next.tag.stamp

-- each seat's receipts are in turn
abbrev pub AreInTurn : List (List Receipt) → Type 0
AreInTurn receipts = (seat : ℕ) (own : List Receipt) → slice_get receipts seat ≡ Some own → IsInTurn seat own

-- each seat has a list of receipts, which is at most as long as the list of its transactions
pub record HasBegun (receipts : List (List Receipt)) (seats : List (List CheckedView)) : Type 0 where
  pub each : length receipts ≡ length seats
  pub most : (seat : ℕ) (own : List Receipt) (plans : List CheckedView) → slice_get receipts seat ≡ Some own
      → slice_get seats seat ≡ Some plans
      → length own ≤ length plans
