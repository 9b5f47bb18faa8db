use Rattle.std.proofs.Common.{refl, ◌∙◌}
use Rattle.txc_txn.proofs.Restoring.{back_first, back_step, back_done}
use Rattle.txc_txn.proofs.undo.undo_all.Goals as goal

pub loop-i-init : goal.loop-i-init
loop-i-init g c = record {
  fixed = refl;
  held = λ n h. h;
  kinds = refl;
  back = λ tag m marked. back_first tag m (g.H.Hold.chans c.args.hold.now) c.args.declared.now c.args.marks.now marked;
}

pub loop-i-preserved : goal.loop-i-preserved
loop-i-preserved g c = record {
  fixed = c.undo_to.ensures.fixed ∙ c.loop-i.invariant.fixed;
  held = λ n h. c.undo_to.ensures.held n (c.loop-i.invariant.held n h);
  kinds = c.undo_to.ensures.kinds ∙ c.loop-i.invariant.kinds;
  back = λ tag m marked.
      back_step tag m (g.H.Hold.chans c.loop-i.hold) (g.H.Hold.chans c.undo_to.new.hold) c.args.declared.now
      c.args.marks.now c.loop-i.i (g.H.Hold.chans c.args.hold.now)
      c.loop-i-test.true c.requires.marks marked c.undo_to.ensures.others (c.undo_to.ensures.back tag)
      (c.loop-i.invariant.back tag m marked);
}

pub returns-clause-back : goal.returns-clause-back
returns-clause-back g c tag m marked = back_done tag m (g.H.Hold.chans c.loop-i.hold) c.args.declared.now c.loop-i.i
    c.loop-i-test.false (c.loop-i.invariant.back tag m marked)
