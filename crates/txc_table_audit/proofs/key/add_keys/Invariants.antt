use Rattle.std.proofs.Common.{◌≡◌, ◌++◌, drop}
use Rattle.txc_table_audit.specs.ReceiptKeys.{keys_of}
use Rattle.txc_table_audit.proofs.key.add_keys.Given as goal

abbrev pub invariant-loop-nth : goal.invariant-loop-nth
invariant-loop-nth l = l.keys.items ++ keys_of l.seat l.nth (drop l.nth l.receipts) ≡ l.fn.keys.items ++ keys_of
    l.seat 0 l.receipts
