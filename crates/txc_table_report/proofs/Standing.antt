-- Receipts whose acts are the entries at their places.
use Rattle.std.proofs.Common.{◌≡◌, sym, ◌∙◌, ap, subst, inl, inr, ℕ, Some, List, [], ◌∷◌, ◌++◌, slice_get}
use mathlib.Core.List.{IsPrefix}
use Rattle.txc_txn.specs.declared.receipt.Receipt.{Receipt}
use Rattle.txc_txn.specs.InLog.{Logs, ReceiptIsInLog}
use Rattle.txc_txn.proofs.Placing.{get_front}
use Rattle.txc_table_line.proofs.Listing.{get_push}
use Rattle.txc_table_report.specs.Gathered.{ReceiptsAreInLogs, SeatsAreInLogs}

-- what stands in logs stands in those that they have grown to
stand_since : (logs after : Logs) → ((chan : ℕ) → IsPrefix (logs chan) (after chan)) → (receipt : Receipt)
    → ReceiptIsInLog logs receipt → ReceiptIsInLog after receipt
stand_since logs after since receipt stand i deed here =
    let more = since deed.chan in
    ap (λ log. slice_get log deed.place) (sym more.1)
    ∙ get_front (logs deed.chan) more.0 deed.place _ (stand i deed here)

-- .. of each receipt
pub all_since : (logs after : Logs) → ((chan : ℕ) → IsPrefix (logs chan) (after chan)) → (receipts : List Receipt)
    → ReceiptsAreInLogs logs receipts → ReceiptsAreInLogs after receipts
all_since logs after since receipts stand n receipt here = stand_since logs after since receipt (stand n receipt here)

-- what is true of each of a list, and of one more at its end
each_push : {X : Type 0} (Fact : X → Type 0) (xs xs' : List X) (x : X) → xs' ≡ xs ++ x ∷ []
    → ((n : ℕ) (y : X) → slice_get xs n ≡ Some y → Fact y) → Fact x
    → (n : ℕ) (y : X) → slice_get xs' n ≡ Some y → Fact y
each_push Fact xs xs' x push each one n y here =
    elim (get_push xs x n y (ap (λ ys. slice_get ys n) (sym push) ∙ here)) [
      | inl t ↦ each n y t
      | inr t ↦ subst Fact t.1 one
    ]

-- one receipt more
pub stand_more : (logs : Logs) (receipts receipts' : List Receipt) (receipt : Receipt)
    → receipts' ≡ receipts ++ receipt ∷ [] → ReceiptsAreInLogs logs receipts → ReceiptIsInLog logs receipt
    → ReceiptsAreInLogs logs receipts'
stand_more logs = each_push (ReceiptIsInLog logs)

-- .. and the receipts of one seat more
pub seats_more : (logs : Logs) (seats seats' : List (List Receipt)) (receipts : List Receipt)
    → seats' ≡ seats ++ receipts ∷ [] → SeatsAreInLogs logs seats → ReceiptsAreInLogs logs receipts
    → SeatsAreInLogs logs seats'
seats_more logs = each_push (ReceiptsAreInLogs logs)
