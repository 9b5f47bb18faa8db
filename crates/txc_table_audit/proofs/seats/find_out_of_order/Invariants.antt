use Rattle.std.proofs.Common.{◌≡◌, ◌<◌, ℕ, Some, List, slice_get}
use Rattle.txc_txn.specs.declared.receipt.Receipt.{Receipt}
use Rattle.txc_txn_history.specs.Events.{IsInTurn}
use Rattle.txc_table_audit.proofs.seats.find_out_of_order.Given as goal

abbrev pub invariant-loop-seat : goal.invariant-loop-seat
invariant-loop-seat l = (n : ℕ) (own : List Receipt) → n < l.seat → slice_get l.receipts n ≡ Some own → IsInTurn n own
