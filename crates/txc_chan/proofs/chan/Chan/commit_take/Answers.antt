use Rattle.std.proofs.Common.{rules, subst, sym, ◌≡◌, [], ◌∷◌, ◌++◌}
use Rattle.txc_base.specs.declared.act.Act.TheVariants.{Took}
use Rattle.txc_base.specs.InOrder.{written}
use Rattle.txc_chan.proofs.ActLemmas.{entry, still_fits, takes_settled}
use Rattle.txc_chan.specs.Chan.{IsSoundChan}
use Rattle.txc_chan.proofs.chan.Chan.commit_take.Goals as goal

pub invariant_of-self-then-branch : goal.invariant_of-self-then-branch
invariant_of-self-then-branch g c =
    let now = c.self.inside in
    let log : g.K.Log.entries c.push_settled.new.self ≡ (g.K.Log.entries now.log) ++ entry c.args.tag
    (Took c.args.reader c.take_settled.new.to) ∷ [] = search rules in
    let none : g.K.Log.undoable c.push_settled.new.self ≡ 0 = search rules in
    record {
      sound = subst (IsSoundChan _ _ _ _ _ _) (sym none)
          (takes_settled now.decl now.body c.take_settled.new.self now.closed now.written now.backs
          (g.K.Log.entries now.log) _ (g.K.Log.undoable now.log) c.args.tag c.args.reader c.take_settled.new.to
          c.self.invariant.sound (search rules) c.take_settled.ensures.keeps
          (c.take_settled.ensures.items (written (g.K.Log.entries now.log)) c.self.invariant.sound.stocked)
          c.take_settled.ensures.room log);
      fits = still_fits c.take_settled.ensures.keeps c.self.invariant.fits;
    }
