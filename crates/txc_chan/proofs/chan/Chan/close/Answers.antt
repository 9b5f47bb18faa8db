use Rattle.std.proofs.Common.{subst, ◌+◌, rules, ◌≡◌, [], ◌∷◌, ◌++◌}
use Rattle.txc_base.specs.declared.act.Act.TheVariants.{Closed}
use Rattle.txc_chan.proofs.ActLemmas.{closes, entry}
use Rattle.txc_chan.specs.Chan.{IsSoundChan}
use Rattle.txc_chan.proofs.chan.Chan.close.Goals as goal

pub invariant_of-self-2 : goal.invariant_of-self-2
invariant_of-self-2 g c =
    let now = c.self.inside in
    let log : g.K.Log.entries c.push_reserved.new.self ≡ (g.K.Log.entries now.log) ++ entry c.args.tag Closed ∷ [] =
    search rules in
    let more : g.K.Log.undoable c.self.inside.log + 1 ≡ g.K.Log.undoable c.push_reserved.new.self = search rules in
    record {
      sound = subst (IsSoundChan _ _ _ _ _ _) more
          (closes now.decl now.body now.closed now.written now.backs (g.K.Log.entries now.log) _
          (g.K.Log.undoable now.log) c.args.tag c.self.invariant.sound (search rules) (search rules) log);
      fits = c.self.invariant.fits;
    }
