use Rattle.std.proofs.Common.{◌∙◌, refl, subst, arith, List}
use Rattle.txc_chan.specs.Chan.{summary_of}
use Rattle.txc_table_line.specs.LineChan.{LineChanView}
use Rattle.txc_table_lines.proofs.Accounting.{briefs_more, briefs_none}
use Rattle.txc_table_lines.specs.Accounted.{IsSnapshotAt}
use Rattle.txc_table_lines.specs.Locked.{line_decls_of, helds_of}
use Rattle.txc_table_lines.proofs.locked_lines.LockedLines.summaries.Goals as goal

pub loop-at-init : goal.loop-at-init
loop-at-init g c = record {
  room = omega (arith, c.in_ok-summaries.ensures.capacity, c.len.ensures.value);
  made = briefs_none (line_decls_of c.args.self.now) (helds_of c.args.self.now) c.in_ok-summaries.summaries.items
      c.in_ok-summaries.ensures.items;
  same = refl;
}

pub loop-at-preserved : goal.loop-at-preserved
loop-at-preserved g c = record {
  room = omega (arith, c.push_reserved.ensures.capacity, c.loop-at.invariant.room);
  made = briefs_more (line_decls_of c.args.self.now) (helds_of c.args.self.now) c.loop-at.at c.loop-at.summaries.items
      c.push_reserved.new.self.items c.in_ok-take_snapshot.field-0 c.loop-at.invariant.made
      c.push_reserved.ensures.items
      (subst (λ (now : List LineChanView). IsSnapshotAt summary_of (line_decls_of now) (helds_of now) c.loop-at.at
      c.in_ok-take_snapshot.field-0) c.loop-at.invariant.same c.in_ok-take_snapshot.ensures.ok);
  same = c.take_snapshot.ensures.same ∙ c.loop-at.invariant.same;
}
