use Rattle.std.proofs.Common.{subst, ◌+◌, rules, ap, sym, ◌∙◌, ◌≡◌, ◌&&◌, [], ◌∷◌, ◌++◌, Bool, false, not, arith}
use Rattle.std.specs.Prelude.{Result, Ok, Err, OnOk}
use Rattle.std.specs.Result.{is_err}
use Rattle.txc_base.specs.declared.act.Act.TheVariants.{Wrote}
use Rattle.txc_base.specs.InOrder.{written}
use Rattle.txc_base.specs.Kinds.{is_bounded}
use Rattle.txc_base.specs.Operation.{next_written}
use Rattle.txc_chan.proofs.ActLemmas.{entry, still_fits, writes}
use Rattle.txc_chan.proofs.KeptLemmas.{counts_within, no_room, settled_so}
use Rattle.txc_chan.specs.Body.{channel_of}
use Rattle.txc_chan.specs.BodyCalls.{is_at_bound}
use Rattle.txc_chan.specs.Chan.{IsSoundChan}
use Rattle.txc_chan.proofs.chan.Chan.commit_write.Goals as goal

-- what is so of a success, where there was no error
ok_so : {T E P : Type 0} (r : Result T E) (b : Bool) → b ≡ is_err r → b ≡ false → OnOk r P → P
ok_so (Ok x) b e f h = h
ok_so (Err x) b e f h = cc

pub overflow_add-self : goal.overflow_add-self
overflow_add-self g c =
    let now = c.self.inside in
    let few = ok_so c.reserve_settled.result c.is_err.result c.is_err.ensures.value c.if-is_err.false
    c.reserve_settled.ensures.few in
    omega (
      arith,
      counts_within now.decl now.body now.closed now.written now.backs (g.K.Log.entries now.log)
          (g.K.Log.undoable now.log) c.self.invariant.sound,
      few,
    )

pub invariant_of-self-2 : goal.invariant_of-self-2
invariant_of-self-2 g c =
    let now = c.self.inside in
    let item = next_written (channel_of now.decl.kind now.body now.closed now.written now.backs) c.args.tag.seat
    c.args.body in
    let log : g.K.Log.entries c.push_settled.new.self ≡ (g.K.Log.entries now.log) ++ entry c.args.tag
    (Wrote item) ∷ [] = search rules in
    let unshut : now.closed ≡ false = search rules in
    let full : c.is_full.result ≡ (is_bounded now.decl.kind && is_at_bound now.body) = c.is_full.ensures
    ∙ ap (λ b. b && is_at_bound now.body) c.self.invariant.fits.limited in
    let none : g.K.Log.undoable c.push_settled.new.self ≡ 0 = search rules in
    let clean : g.K.Log.undoable now.log ≡ 0 = search rules in
    let lists = ok_so c.write.result c.is_err-2.result c.is_err-2.ensures.value c.if-is_err-2.false
    c.write.ensures.lists in
    let items = ok_so c.write.result c.is_err-2.result c.is_err-2.ensures.value c.if-is_err-2.false
    (c.write.ensures.items (written (g.K.Log.entries now.log))) in
    record {
      sound = subst (IsSoundChan _ _ _ _ _ _) (sym none)
          (settled_so now.decl c.write.new.self now.closed (now.written + 1) now.backs _ _
          (writes now.decl now.body c.write.new.self now.closed now.written now.backs (g.K.Log.entries now.log) _
          (g.K.Log.undoable now.log) c.args.tag c.args.body c.self.invariant.sound
          unshut (ap not (sym full ∙ c.if-is_full.false))
          (rw c.make_item-item.ensures at lists) c.write.ensures.keeps c.write.ensures.room
          (rw c.make_item-item.ensures at (items c.self.invariant.sound.stocked)) log)
          (λ k. c.write.ensures.room k
          ∙ no_room now.decl now.body now.closed now.written now.backs (g.K.Log.entries now.log)
          (g.K.Log.undoable now.log) clean c.self.invariant.sound k));
      fits = still_fits c.write.ensures.keeps c.self.invariant.fits;
    }
