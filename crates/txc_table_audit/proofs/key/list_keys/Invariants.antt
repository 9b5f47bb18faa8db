use Rattle.std.proofs.Common.{◌≡◌, ◌++◌, drop}
use Rattle.txc_table_audit.specs.ReceiptKeys.{keys_from}
use Rattle.txc_table_audit.proofs.key.list_keys.Given as goal

abbrev pub invariant-loop-seat : goal.invariant-loop-seat
invariant-loop-seat l = l.keys.items ++ keys_from l.seat (drop l.seat l.receipts) ≡ keys_from 0 l.receipts
