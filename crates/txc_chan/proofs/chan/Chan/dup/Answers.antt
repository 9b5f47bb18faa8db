use Rattle.std.proofs.Common.{subst, ◌+◌, rules, ◌≡◌, [], ◌∷◌, ◌++◌}
use Rattle.txc_base.specs.declared.act.Act.TheVariants.{Begun}
use Rattle.txc_base.specs.InOrder.{written}
use Rattle.txc_chan.proofs.ActLemmas.{begins, entry, still_fits}
use Rattle.txc_chan.specs.Chan.{IsSoundChan}
use Rattle.txc_chan.proofs.chan.Chan.dup.Goals as goal

pub invariant_of-self-2 : goal.invariant_of-self-2
invariant_of-self-2 g c =
    let now = c.self.inside in
    let log : g.K.Log.entries c.push_reserved.new.self ≡ (g.K.Log.entries now.log) ++ entry c.args.tag
    (Begun c.in_ok-number.number) ∷ [] = search rules in
    let done = c.in_ok-number.ensures in
    let more : g.K.Log.undoable c.self.inside.log + 1 ≡ g.K.Log.undoable c.push_reserved.new.self = search rules in
    record {
      sound = subst (IsSoundChan _ _ _ _ _ _) more
          (begins now.decl now.body c.dup.new.self now.closed now.written now.backs (g.K.Log.entries now.log) _
          (g.K.Log.undoable now.log) c.args.tag c.in_ok-number.number c.self.invariant.sound
          (search rules) done.number.last done.number.few done.lists done.only.keeps done.only.room
          (done.only.items (written (g.K.Log.entries now.log)) c.self.invariant.sound.stocked) log);
      fits = still_fits c.dup.ensures.only.keeps c.self.invariant.fits;
    }
