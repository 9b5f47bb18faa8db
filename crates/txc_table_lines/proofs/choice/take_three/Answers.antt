use Rattle.std.proofs.Common.{◌≤◌}
use Rattle.txc_table_lines.proofs.choice.take_three.Goals as goal

pub take_line-target-requires-then-to-other-2-clause-rising : goal.take_line-target-requires-then-to-other-2-clause-rising
take_line-target-requires-then-to-other-2-clause-rising g c =
    c.take_both-first-then-to-other-2.ensures.next c.args.what.to c.if-to-one-2.true c.if-to-other-2.true
