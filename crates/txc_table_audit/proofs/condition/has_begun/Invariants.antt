use Rattle.std.proofs.Common.{◌≡◌, ◌<◌, ◌≤◌, ℕ, Some, List, length, slice_get}
use Rattle.txc_txn_check.specs.Limits.{CheckedView}
use Rattle.txc_txn.specs.declared.receipt.Receipt.{Receipt}
use Rattle.txc_table_audit.proofs.condition.has_begun.Given as goal

abbrev pub invariant-loop-seat : goal.invariant-loop-seat
invariant-loop-seat g l = (n : ℕ) (own : List Receipt) (plans : List CheckedView) → n < l.seat
    → slice_get l.receipts n ≡ Some own
    → slice_get (g.T.Transactions.plans l.transactions) n ≡ Some plans → length own ≤ length plans
