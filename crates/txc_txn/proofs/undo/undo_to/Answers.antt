use Rattle.std.proofs.Common.{ap, sym, subst, arith, ◌≡◌, ◌<◌, ◌∙◌}
use Rattle.txc_txn.specs.Growth.{Grows}
use Rattle.txc_txn.specs.Maps.{kinds_of, put_at}
use Rattle.txc_txn.proofs.Growing.{grows_undone, restored, put_twice}
use Rattle.txc_txn.proofs.Restoring.{put_kinds}
use Rattle.txc_txn.proofs.undo.undo_to.Goals as goal

pub loop-hold-preserved : goal.loop-hold-preserved
loop-hold-preserved g c =
    let same = c.pending.ensures.same in
    let back = sym same in
    record {
      fixed = c.undo_last.ensures.fixed ∙ ap (λ hold. g.H.Hold.fixed hold) same ∙ c.loop-hold.invariant.fixed;
      held = λ n h. c.undo_last.ensures.held n
          (subst (λ hold. g.H.Hold.IsHeld hold n) back (c.loop-hold.invariant.held n h));
      others = put_twice _ _ _ _
          (subst (λ hold. g.H.Hold.chans hold
          ≡ put_at (g.H.Hold.chans c.args.hold.now) c.args.chan (g.H.Hold.chans hold c.args.chan)) back
          c.loop-hold.invariant.others) c.undo_last.ensures.others;
      kinds = put_kinds (g.H.Hold.chans c.pending.new.self) (g.H.Hold.chans c.undo_last.new.self) c.args.chan
          c.undo_last.ensures.others c.undo_last.ensures.undone.4
          ∙ ap (λ hold. kinds_of (g.H.Hold.chans hold)) same ∙ c.loop-hold.invariant.kinds;
      back = λ tag a mark grows.
          let lt : a.pending < (g.H.Hold.chans c.pending.new.self c.args.chan).pending =
          omega (arith, mark, c.pending.ensures.value, ap (λ hold. (g.H.Hold.chans hold c.args.chan).pending) same) in
          grows_undone tag a (g.H.Hold.chans c.pending.new.self c.args.chan)
          (g.H.Hold.chans c.undo_last.new.self c.args.chan)
          (subst (λ hold. Grows tag a (g.H.Hold.chans hold c.args.chan)) back
          (c.loop-hold.invariant.back tag a mark grows)) lt c.undo_last.ensures.undone;
    }

pub returns-clause-back : goal.returns-clause-back
returns-clause-back g c tag a lawful mark grows =
    ap (λ hold. g.H.Hold.chans hold c.args.chan) c.pending.ensures.same
    ∙ restored tag a (g.H.Hold.chans c.loop-hold.hold c.args.chan) lawful c.pending.ensures.lawful
    (c.loop-hold.invariant.back tag a mark grows) (omega (arith, mark, c.pending.ensures.value))
