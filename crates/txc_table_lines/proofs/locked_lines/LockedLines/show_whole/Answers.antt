use Rattle.std.proofs.Common.{◌∙◌, sym, arith, ap, length}
use Rattle.txc_table_line.specs.LineChan.{LineChanView}
use Rattle.txc_table_lines.specs.Locked.{lines_of}
use Rattle.txc_table_lines.proofs.Collecting.{collected_many, logs_counted, marks_counted}
use Rattle.txc_table_lines.proofs.Sharing.{map_long}
use Rattle.txc_table_lines.proofs.locked_lines.LockedLines.show_whole.Goals as goal

pub returns-clause-whole : goal.returns-clause-whole
returns-clause-whole g c =
    logs_counted c.args.self.now c.args.shares.now c.loop-at.at
    (omega (arith, c.loop-at-test.false, c.len-at-end.ensures.value, ap length c.loop-at.invariant.same))
    (sym (collected_many c.args.shares.now (lines_of c.args.self.now) c.requires.of
    ∙ map_long (λ (x : LineChanView). x.line) c.args.self.now)) c.loop-at.invariant.counted

pub returns-clause-all : goal.returns-clause-all
returns-clause-all g c =
    marks_counted c.args.self.now c.args.shares.now c.loop-at.at
    (omega (arith, c.loop-at-test.false, c.len-at-end.ensures.value, ap length c.loop-at.invariant.same))
    (sym (collected_many c.args.shares.now (lines_of c.args.self.now) c.requires.of
    ∙ map_long (λ (x : LineChanView). x.line) c.args.self.now)) c.loop-at.invariant.counted
