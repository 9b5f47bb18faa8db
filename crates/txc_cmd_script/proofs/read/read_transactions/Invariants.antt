use Rattle.std.proofs.Common.{◌≡◌, map, drop, slice_get, All}
use Rattle.serde_json.specs.View.{view}
use Rattle.txc_txn_check.specs.Steps.{Fits}
use Rattle.txc_cmd_script.specs.Reading.{transactions_in}
use Rattle.txc_cmd_script.proofs.Orders.{onto}
use Rattle.txc_cmd_script.proofs.read.read_transactions.Given as goal

abbrev pub invariant-loop-txn : goal.invariant-loop-txn
invariant-loop-txn l = record {
  so_far : transactions_in l.kinds l.seat 0 (map view l.trees)
      ≡ onto l.transactions.items (transactions_in l.kinds l.seat l.txn (map view (drop l.txn l.trees)));
  fits : All (λ plan. Fits (slice_get l.kinds) plan.steps) l.transactions.items;
}
