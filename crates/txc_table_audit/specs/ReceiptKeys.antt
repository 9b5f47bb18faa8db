-- The sort keys of receipts.
use Rattle.std.specs.Prelude.{◌≡◌, ℕ, zero, suc, ◌<◌, List, [], ◌∷◌, ◌++◌, length, slice_index_or}
use Rattle.txc_txn.specs.declared.receipt.Receipt.{Receipt}
use Rattle.txc_txn_check.specs.Limits.{CheckedView}
use Rattle.txc_table_audit.specs.declared.key.ReceiptKey.{ReceiptKey}
use Rattle.txc_txn_history.specs.Events.{Event}

-- the keys of a seat's receipts, from this number on
abbrev pub keys_of : ℕ → ℕ → List Receipt → List ReceiptKey
keys_of seat nth [] = []
keys_of seat nth (receipt ∷ receipts) =
    record {
      stamp = receipt.tag.stamp;
      seat = seat;
      serial = receipt.tag.serial;
      nth = nth;
    } ∷ keys_of seat (suc nth) receipts

-- the keys of all receipts, from this seat on
abbrev pub keys_from : ℕ → List (List Receipt) → List ReceiptKey
keys_from seat [] = []
keys_from seat (own ∷ receipts) = keys_of seat 0 own ++ keys_from (suc seat) receipts

-- the stamp of the receipt before this one of a seat, or `before` if there is none
abbrev pub stamp_before : ℕ → List Receipt → ℕ → ℕ
stamp_before before receipts zero = before
stamp_before before [] (suc n) = before
stamp_before before (receipt ∷ receipts) (suc n) = stamp_before receipt.tag.stamp receipts n

-- the value for a transaction past the last of a seat
abbrev pub no_plan : CheckedView
no_plan = record { steps = []; declared = [] }

-- the value for a receipt past the last of a seat
abbrev pub no_receipt : Receipt
no_receipt = record { tag = record { seat = 0; serial = 0; stamp = 0 }; replies = []; acts = [] }

-- the receipts, or the plans, of a seat
abbrev pub at_seat : {X : Type 0} → List (List X) → ℕ → List X
at_seat lists seat = slice_index_or lists seat []

-- the event of a key
abbrev pub event_at : List (List CheckedView) → List (List Receipt) → ReceiptKey → Event
event_at seats receipts key = record {
  seat = key.seat;
  plan = slice_index_or (at_seat seats key.seat) key.nth no_plan;
  before = stamp_before 0 (at_seat receipts key.seat) key.nth;
  receipt = slice_index_or (at_seat receipts key.seat) key.nth no_receipt;
}

-- a key of a receipt
pub record IsKey (receipts : List (List Receipt)) (key : ReceiptKey) : Type 0 where
  pub seat : key.seat < length receipts
  pub nth : key.nth < length (at_seat receipts key.seat)
  pub stamp : key.stamp ≡ (slice_index_or (at_seat receipts key.seat) key.nth no_receipt).tag.stamp
  pub serial : key.serial ≡ (slice_index_or (at_seat receipts key.seat) key.nth no_receipt).tag.serial
