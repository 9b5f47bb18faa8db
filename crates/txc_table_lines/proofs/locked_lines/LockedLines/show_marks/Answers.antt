use Rattle.std.proofs.Common.{arith, ap, length}
use Rattle.txc_table_lines.proofs.Collecting.{all_marked}
use Rattle.txc_table_lines.proofs.locked_lines.LockedLines.show_marks.Goals as goal

pub returns-clause-marks : goal.returns-clause-marks
returns-clause-marks g c = all_marked c.args.self.now c.loop-at.at
    (omega (arith, c.loop-at-test.false, c.len-at-end.ensures.value, ap length c.loop-at.invariant.same))
    c.loop-at.invariant.marks
