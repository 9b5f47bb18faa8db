use Rattle.std.proofs.Common.{◌≡◌, refl, ◌∙◌, sym, ap, arith, length, slice_index_or}
use Rattle.txc_txn.specs.OpenTransaction.{marks_since}
use Rattle.txc_txn.proofs.Restoring.{back_first, back_done}
use Rattle.txc_txn.proofs.Touching.{back_since, since_front, since_later}
use Rattle.txc_txn.proofs.open_transaction.OpenTransaction.roll_back_to.Goals.{then-i-saved, else-i-saved}
use Rattle.txc_txn.proofs.open_transaction.OpenTransaction.roll_back_to.Goals as goal

pub loop-i-init : goal.loop-i-init
loop-i-init g c = record {
  held = λ n h. h;
  kinds = refl;
  back = λ m k. back_first c.args.self.now.tag m (g.H.Hold.chans c.args.hold.now) c.as_slice-touched.result.now
      (marks_since c.as_slice-saved.result.now c.as_slice-marks.result.now) k;
  fixed = refl;
}

pub loop-i-preserved : goal.loop-i-preserved
loop-i-preserved g c =
    let saved = c.as_slice-saved.result.now in
    let marks = c.as_slice-marks.result.now in
    let touched = c.as_slice-touched.result.now in
    let long : length marks ≡ length touched =
    ap length c.as_slice-marks.ensures.value ∙ c.requires.marks ∙ sym (ap length c.as_slice-touched.ensures.value) in
    let is : slice_index_or (marks_since saved marks) c.loop-i.i 0 ≡ c.if-i-saved.mark =
    elim c.if-i-saved.branch [
      | then-i-saved w ↦ since_front saved marks c.loop-i.i w.if-i-saved.true ∙ sym w.mark-is
      | else-i-saved w ↦ since_later saved marks c.loop-i.i w.if-i-saved.false
          (omega (arith, long, c.loop-i-test.true)) ∙ sym w.mark-is
    ] in
    record {
      held = λ n h. c.undo_to.ensures.held n (c.loop-i.invariant.held n h);
      kinds = c.undo_to.ensures.kinds ∙ c.loop-i.invariant.kinds;
      back = λ m k. back_since c.args.self.now.tag m (g.H.Hold.chans c.loop-i.hold) (g.H.Hold.chans c.undo_to.new.hold)
          touched (marks_since saved marks) c.loop-i.i c.if-i-saved.mark (g.H.Hold.chans c.args.hold.now)
          c.loop-i-test.true k is c.undo_to.ensures.others (c.undo_to.ensures.back c.args.self.now.tag)
          (c.loop-i.invariant.back m k);
      fixed = c.undo_to.ensures.fixed ∙ c.loop-i.invariant.fixed;
    }

pub returns-clause-back : goal.returns-clause-back
returns-clause-back g c m k =
    back_done c.args.self.now.tag m (g.H.Hold.chans c.loop-i.hold) c.as_slice-touched.result.now c.loop-i.i
    c.loop-i-test.false (c.loop-i.invariant.back m
    (rw (c.as_slice-touched.ensures.value, c.as_slice-saved.ensures.value, c.as_slice-marks.ensures.value) k.1))
