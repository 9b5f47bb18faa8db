use Rattle.std.proofs.Common.{◌≡◌}
use Rattle.txc_table_line.specs.Line.{LineId}
use Rattle.txc_table_lines.proofs.Mapping.{decl_more, one_more}
use Rattle.txc_table_lines.proofs.Unlocking.{line_more}
use Rattle.txc_table_lines.proofs.opening.open.Goals as goal

pub loop-chan-preserved : goal.loop-chan-preserved
loop-chan-preserved g c = record {
  lines = decl_more (λ lock. lock.label.value.line) (λ held. held.logged.decl) _ _ c.in_ok-add_line.field-0 _
      c.in-Some.chan c.loop-chan.invariant.lines c.in_ok-push-2.ensures.items c.in_ok-add_line.ensures.decl;
  ledgers = line_more (λ lock. lock.label.value.line) (λ (line : LineId). line.ledgers.seats ≡ c.args.count) _ _
      c.in_ok-add_line.field-0 c.loop-chan.invariant.ledgers c.in_ok-push-2.ensures.items
      c.in_ok-add_line.ensures.ledgers;
  seats = one_more (λ lock. lock.label.value.line) _ _ c.in_ok-add_line.field-0 c.args.count _ _
      c.loop-chan.invariant.seats c.in_ok-push-2.ensures.items c.in_ok-add_line.ensures.seats;
}
