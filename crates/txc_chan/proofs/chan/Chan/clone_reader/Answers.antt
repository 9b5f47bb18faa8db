use Rattle.std.proofs.Common.{subst, ◌+◌, rules, ◌≡◌, [], ◌∷◌, ◌++◌}
use Rattle.txc_base.specs.declared.act.Act.TheVariants.{Cloned}
use Rattle.txc_base.specs.InOrder.{written}
use Rattle.txc_chan.proofs.ActLemmas.{clones, entry, still_fits}
use Rattle.txc_chan.specs.Chan.{IsSoundChan}
use Rattle.txc_chan.proofs.chan.Chan.clone_reader.Goals as goal

pub invariant_of-self-2 : goal.invariant_of-self-2
invariant_of-self-2 g c =
    let now = c.self.inside in
    let log : g.K.Log.entries c.push_reserved.new.self ≡ (g.K.Log.entries now.log) ++ entry c.args.tag
    (Cloned c.args.source c.in_ok-number.number) ∷ [] = search rules in
    let done = c.in_ok-number.ensures in
    let more : g.K.Log.undoable c.self.inside.log + 1 ≡ g.K.Log.undoable c.push_reserved.new.self = search rules in
    record {
      sound = subst (IsSoundChan _ _ _ _ _ _) more
          (clones now.decl now.body c.clone_reader.new.self now.closed now.written now.backs (g.K.Log.entries now.log)
          _ (g.K.Log.undoable now.log) c.args.tag c.args.source c.in_ok-number.number c.self.invariant.sound
          (search rules) done.found.found done.number.last done.number.few done.lists done.only.keeps done.only.room
          (done.only.items (written (g.K.Log.entries now.log)) c.self.invariant.sound.stocked) log);
      fits = still_fits c.clone_reader.ensures.only.keeps c.self.invariant.fits;
    }
