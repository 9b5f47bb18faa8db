use Rattle.std.proofs.Common.{subst, ◌+◌, rules, ap, sym, ◌∙◌, ◌≡◌, ◌&&◌, [], ◌∷◌, ◌++◌, false, not, arith}
use Rattle.txc_base.specs.declared.act.Act.TheVariants.{Wrote}
use Rattle.txc_base.specs.InOrder.{written}
use Rattle.txc_base.specs.Kinds.{is_bounded}
use Rattle.txc_base.specs.Operation.{next_written}
use Rattle.txc_chan.proofs.ActLemmas.{entry, still_fits, writes}
use Rattle.txc_chan.proofs.KeptLemmas.{counts_within}
use Rattle.txc_chan.specs.Body.{channel_of}
use Rattle.txc_chan.specs.BodyCalls.{is_at_bound}
use Rattle.txc_chan.specs.Chan.{IsSoundChan}
use Rattle.txc_chan.proofs.chan.Chan.write.Goals as goal

pub overflow_add-self : goal.overflow_add-self
overflow_add-self g c =
    let now = c.self.inside in
    omega (
      arith,
      counts_within now.decl now.body now.closed now.written now.backs (g.K.Log.entries now.log)
          (g.K.Log.undoable now.log) c.self.invariant.sound,
      c.in_ok-reserve.ensures.few,
    )

pub invariant_of-self-2 : goal.invariant_of-self-2
invariant_of-self-2 g c =
    let now = c.self.inside in
    let item = next_written (channel_of now.decl.kind now.body now.closed now.written now.backs) c.args.tag.seat
    c.in-Some.body in
    let log : g.K.Log.entries c.push_reserved.new.self ≡ (g.K.Log.entries now.log) ++ entry c.args.tag
    (Wrote item) ∷ [] = search rules in
    let unshut : now.closed ≡ false = search rules in
    let full : c.is_full.result ≡ (is_bounded now.decl.kind && is_at_bound now.body) = c.is_full.ensures
    ∙ ap (λ b. b && is_at_bound now.body) c.self.invariant.fits.limited in
    let more : g.K.Log.undoable c.self.inside.log + 1 ≡ g.K.Log.undoable c.push_reserved.new.self = search rules in
    record {
      sound = subst (IsSoundChan _ _ _ _ _ _) more
          (writes now.decl now.body c.write.new.self now.closed now.written now.backs (g.K.Log.entries now.log) _
          (g.K.Log.undoable now.log) c.args.tag c.in-Some.body c.self.invariant.sound
          unshut (ap not (sym full ∙ c.if-is_full.false))
          (rw c.make_item-item.ensures at c.in_ok-write.ensures.lists) c.write.ensures.keeps c.write.ensures.room
          (rw c.make_item-item.ensures at
          (c.in_ok-write.ensures.items (written (g.K.Log.entries now.log)) c.self.invariant.sound.stocked)) log);
      fits = still_fits c.write.ensures.keeps c.self.invariant.fits;
    }
