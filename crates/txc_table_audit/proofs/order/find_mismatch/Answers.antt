use Rattle.std.proofs.Common.{◌∙◌, map, slice_index_or}
use Rattle.txc_txn.specs.Plain.{chan_in}
use Rattle.txc_table_audit.specs.declared.key.ReceiptKey.{ReceiptKey}
use Rattle.txc_table_audit.specs.ReceiptKeys.{event_at}
use Rattle.txc_table_audit.proofs.Running.{runs_next}
use Rattle.txc_table_audit.proofs.Turning.{at_rank}
use Rattle.txc_table_audit.proofs.order.find_mismatch.Goals as goal

-- what stands where no place is read
abbrev no_turn : ReceiptKey
no_turn = record { stamp = 0; seat = 0; serial = 0; nth = 0 }

pub returns-then-not-branch-clause-ok : goal.returns-then-not-branch-clause-ok
returns-then-not-branch-clause-ok g c = record {
  here = chan_in c.loop-rank.rerun.held;
  runs = c.loop-rank.invariant.runs;
  event = event_at (g.T.Transactions.plans c.args.transactions.now) c.args.receipts.now
      (slice_index_or c.args.keys.now c.loop-rank.rank no_turn);
  there = at_rank (g.T.Transactions.plans c.args.transactions.now) c.args.receipts.now c.args.keys.now c.loop-rank.rank
      no_turn c.loop-rank-test.true;
  wrong = c.in_ok-run_receipt.ensures.wrong c.if-not-branch.true;
}

pub loop-rank-preserved : goal.loop-rank-preserved
loop-rank-preserved g c = record {
  kinds = c.run_receipt.ensures.kinds ∙ c.loop-rank.invariant.kinds;
  runs = runs_next (chan_in c.args.rerun.now.held)
      (map (event_at (g.T.Transactions.plans c.args.transactions.now) c.args.receipts.now) c.args.keys.now)
      c.loop-rank.rank
      (chan_in c.loop-rank.rerun.held)
      (event_at (g.T.Transactions.plans c.args.transactions.now) c.args.receipts.now
      (slice_index_or c.args.keys.now c.loop-rank.rank no_turn))
      (chan_in c.run_receipt.new.rerun.held)
      (at_rank (g.T.Transactions.plans c.args.transactions.now) c.args.receipts.now c.args.keys.now c.loop-rank.rank
      no_turn c.loop-rank-test.true)
      c.loop-rank.invariant.runs
      (c.in_ok-run_receipt.ensures.same c.if-not-branch.false);
}
