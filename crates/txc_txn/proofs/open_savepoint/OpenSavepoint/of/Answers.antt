use Rattle.std.proofs.Common.{rules, ◌≡◌, ◌∙◌, ◌++◌, ◌∷◌, []}
use Rattle.txc_txn.proofs.Marking.{marks_more, lawful_more}
use Rattle.txc_txn.proofs.open_savepoint.OpenSavepoint.of.Goals as goal

pub loop-chan-preserved : goal.loop-chan-preserved
loop-chan-preserved g c =
    let pushed : c.push.new.self.items ≡ c.loop-chan.marks.items ++ c.pending.result ∷ [] = search rules in
    record {
      same = c.pending.ensures.same ∙ c.loop-chan.invariant.same;
      marks = pushed ∙ marks_more (g.H.Hold.chans c.args.hold.now) c.args.touched.now c.loop-chan.chan-index 0
          c.loop-chan.marks.items c.pending.result c.loop-chan-test.true c.loop-chan.invariant.marks
          (rw (← c.loop-chan.invariant.same) c.pending.ensures.value);
      lawful = lawful_more (g.H.Hold.chans c.args.hold.now) c.args.touched.now c.loop-chan.chan-index 0
          c.loop-chan-test.true c.loop-chan.invariant.lawful
          (rw (← c.loop-chan.invariant.same) c.pending.ensures.lawful);
    }
