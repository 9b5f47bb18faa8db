use Rattle.std.proofs.Common.{◌+◌, rules, subst, ◌≡◌, [], ◌∷◌, ◌++◌}
use Rattle.txc_base.specs.declared.act.Act.TheVariants.{Took}
use Rattle.txc_base.specs.InOrder.{written}
use Rattle.txc_chan.proofs.ActLemmas.{entry, still_fits, takes}
use Rattle.txc_chan.specs.BodyCalls.{TakesFrom, MoreUndoable}
use Rattle.txc_chan.specs.Chan.{IsSoundChan}
use Rattle.txc_chan.proofs.chan.Chan.take.Goals as goal

pub invariant_of-self-2 : goal.invariant_of-self-2
invariant_of-self-2 g c =
    let log : g.K.Log.entries c.push_reserved.new.self ≡ (g.K.Log.entries c.self.inside.log) ++ entry c.args.tag
    (Took c.args.reader c.in-Some.item) ∷ [] = search rules in
    let more : g.K.Log.undoable c.self.inside.log + 1 ≡ g.K.Log.undoable c.push_reserved.new.self = search rules in
    record {
      sound = subst (IsSoundChan _ _ _ _ _ _) more
          (takes c.self.inside.decl c.self.inside.body c.take.new.self c.self.inside.closed c.self.inside.written
          c.self.inside.backs (g.K.Log.entries c.self.inside.log) _
          (g.K.Log.undoable c.self.inside.log) c.args.tag c.args.reader c.in-Some.item c.self.invariant.sound
          (subst (λ t. TakesFrom t c.self.inside.body c.args.reader c.take.new.self) c.in-Some.is
          c.in_ok-item.ensures.ok) c.in_ok-item.ensures.keeps
          (subst (λ t. MoreUndoable t c.self.inside.body c.args.reader c.take.new.self) c.in-Some.is
          c.in_ok-item.ensures.room)
          (c.in_ok-item.ensures.items (written (g.K.Log.entries c.self.inside.log)) c.self.invariant.sound.stocked)
          log);
      fits = still_fits c.in_ok-item.ensures.keeps c.self.invariant.fits;
    }
