use Rattle.txc_table_audit.proofs.Positions.{keys_more}
use Rattle.txc_table_audit.proofs.key.add_keys.Goals as goal

pub loop-nth-preserved : goal.loop-nth-preserved
loop-nth-preserved c =
    keys_more c.loop-nth.keys.items c.push.new.self.items _ c.args.seat c.loop-nth.nth c.args.receipts.now
    c.index-receipts-nth.result c.loop-nth-test.true
    c.in_ok-push.ensures.items c.loop-nth.invariant
