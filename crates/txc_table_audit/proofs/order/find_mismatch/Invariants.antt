use Rattle.std.proofs.Common.{◌≡◌, map, take}
use Rattle.txc_txn.specs.Plain.{chan_in}
use Rattle.txc_txn_history.specs.OneOrder.{Runs}
use Rattle.txc_table_audit.specs.ReceiptKeys.{event_at}
use Rattle.txc_table_audit.proofs.order.find_mismatch.Given as goal

abbrev pub invariant-loop-rank : goal.invariant-loop-rank
invariant-loop-rank g l = record {
  kinds : l.rerun.kinds ≡ l.fn.rerun.kinds;
  runs : Runs (chan_in l.fn.rerun.held)
      (take l.rank (map (event_at (g.T.Transactions.plans l.transactions) l.receipts) l.keys)) (chan_in l.rerun.held);
}
