-- Each act is taken back: the same facts of the last entry, and then the lemma of the act.
use Rattle.std.proofs.Common.{rules, ap, ℕ, ◌-◌, ◌≡◌, ◌∙◌, subst, arith}
use Rattle.txc_chan.proofs.ActLemmas.{still_fits}
use Rattle.txc_chan.proofs.UndoLemmas as undo
use Rattle.txc_chan.proofs.UndoLemmas.{last_known}
use Rattle.txc_chan.specs.Chan.{IsSoundChan}
use Rattle.txc_chan.specs.ChanView.{ChanView}
use Rattle.txc_chan.proofs.chan.Chan.take_back.Goals as goal

-- how many entries can be undone
abbrev pending_of : ChanView → ℕ
pending_of held = held.logged.pending

pub undo_write-requires : goal.undo_write-requires
undo_write-requires g c =
    undo.can_back_write _ _ _ _ _ _ _ _ _ _
    (last_known _ _ _ _ _ (g.K.Log.entries c.self.inside.log) (g.K.Log.entries c.pop.new.self) _ _ c.in-Some.entry
    c.self.invariant.sound (ap pending_of c.self.view_is) c.requires (search rules))
    c.in-Wrote.field-0 c.in-Wrote.is

pub overflow_sub-self : goal.overflow_sub-self
overflow_sub-self g c =
    undo.one_written _ _ _ _ _ _ _ _ _ _
    (last_known _ _ _ _ _ (g.K.Log.entries c.self.inside.log) (g.K.Log.entries c.pop.new.self) _ _ c.in-Some.entry
    c.self.invariant.sound (ap pending_of c.self.view_is) c.requires (search rules))
    c.in-Wrote.field-0 c.in-Wrote.is

pub invariant_of-self : goal.invariant_of-self
invariant_of-self g c =
    let less : g.K.Log.undoable c.self.inside.log - 1 ≡ g.K.Log.undoable c.pop.new.self =
    omega (arith, c.pop.ensures.undoable) in
    record {
      sound = subst (IsSoundChan _ _ _ _ _ _) less (undo.back_write _ _ _ _ _ _ _ _ _ _
          (last_known _ _ _ _ _ (g.K.Log.entries c.self.inside.log) (g.K.Log.entries c.pop.new.self) _ _
          c.in-Some.entry c.self.invariant.sound (ap pending_of c.self.view_is) c.requires (search rules))
          c.in-Wrote.field-0 c.undo_write.new.self c.in-Wrote.is c.undo_write.ensures.lists c.undo_write.ensures.keeps
          c.undo_write.ensures.room c.undo_write.ensures.items);
      fits = still_fits c.undo_write.ensures.keeps c.self.invariant.fits;
    }

pub undo_take-requires : goal.undo_take-requires
undo_take-requires g c =
    undo.can_back_take _ _ _ _ _ _ _ _ _ _
    (last_known _ _ _ _ _ (g.K.Log.entries c.self.inside.log) (g.K.Log.entries c.pop.new.self) _ _ c.in-Some.entry
    c.self.invariant.sound (ap pending_of c.self.view_is) c.requires (search rules))
    c.in-Took.reader c.in-Took.item c.in-Took.is

pub invariant_of-self-in-Took : goal.invariant_of-self-in-Took
invariant_of-self-in-Took g c =
    let less : g.K.Log.undoable c.self.inside.log - 1 ≡ g.K.Log.undoable c.pop.new.self =
    omega (arith, c.pop.ensures.undoable) in
    record {
      sound = subst (IsSoundChan _ _ _ _ _ _) less (undo.back_take _ _ _ _ _ _ _ _ _ _
          (last_known _ _ _ _ _ (g.K.Log.entries c.self.inside.log) (g.K.Log.entries c.pop.new.self) _ _
          c.in-Some.entry c.self.invariant.sound (ap pending_of c.self.view_is) c.requires (search rules))
          c.in-Took.reader c.in-Took.item c.undo_take.new.self c.in-Took.is c.undo_take.ensures.lists
          c.undo_take.ensures.keeps c.undo_take.ensures.room c.undo_take.ensures.items);
      fits = still_fits c.undo_take.ensures.keeps c.self.invariant.fits;
    }

pub undo_put_back-requires : goal.undo_put_back-requires
undo_put_back-requires g c =
    undo.can_back_put _ _ _ _ _ _ _ _ _ _
    (last_known _ _ _ _ _ (g.K.Log.entries c.self.inside.log) (g.K.Log.entries c.pop.new.self) _ _ c.in-Some.entry
    c.self.invariant.sound (ap pending_of c.self.view_is) c.requires (search rules))
    c.in-PutBack.reader c.in-PutBack.field-1 c.in-PutBack.is

pub overflow_sub-self-in-PutBack : goal.overflow_sub-self-in-PutBack
overflow_sub-self-in-PutBack g c =
    undo.one_back _ _ _ _ _ _ _ _ _ _
    (last_known _ _ _ _ _ (g.K.Log.entries c.self.inside.log) (g.K.Log.entries c.pop.new.self) _ _ c.in-Some.entry
    c.self.invariant.sound (ap pending_of c.self.view_is) c.requires (search rules))
    c.in-PutBack.reader c.in-PutBack.field-1 c.in-PutBack.is

pub invariant_of-self-in-PutBack : goal.invariant_of-self-in-PutBack
invariant_of-self-in-PutBack g c =
    let less : g.K.Log.undoable c.self.inside.log - 1 ≡ g.K.Log.undoable c.pop.new.self =
    omega (arith, c.pop.ensures.undoable) in
    record {
      sound = subst (IsSoundChan _ _ _ _ _ _) less (undo.back_put _ _ _ _ _ _ _ _ _ _
          (last_known _ _ _ _ _ (g.K.Log.entries c.self.inside.log) (g.K.Log.entries c.pop.new.self) _ _
          c.in-Some.entry c.self.invariant.sound (ap pending_of c.self.view_is) c.requires (search rules))
          c.in-PutBack.reader c.in-PutBack.field-1 c.undo_put_back.new.self c.in-PutBack.is
          c.undo_put_back.ensures.lists c.undo_put_back.ensures.only.keeps c.undo_put_back.ensures.only.room
          c.undo_put_back.ensures.only.items);
      fits = still_fits c.undo_put_back.ensures.only.keeps c.self.invariant.fits;
    }

pub invariant_of-self-in-Closed : goal.invariant_of-self-in-Closed
invariant_of-self-in-Closed g c =
    let less : g.K.Log.undoable c.self.inside.log - 1 ≡ g.K.Log.undoable c.pop.new.self =
    omega (arith, c.pop.ensures.undoable) in
    record {
      sound = subst (IsSoundChan _ _ _ _ _ _) less (undo.back_close _ _ _ _ _ _ _ _ _ _
          (last_known _ _ _ _ _ (g.K.Log.entries c.self.inside.log) (g.K.Log.entries c.pop.new.self) _ _
          c.in-Some.entry c.self.invariant.sound (ap pending_of c.self.view_is) c.requires (search rules))
          c.in-Closed.is);
      fits = c.self.invariant.fits;
    }

pub undo_reader-requires-clause-broadcast : goal.undo_reader-requires-clause-broadcast
undo_reader-requires-clause-broadcast g c =
    c.self.invariant.fits.cast ∙ (undo.begun_there _ _ _ _ _ _ _ _ _ _
    (last_known _ _ _ _ _ (g.K.Log.entries c.self.inside.log) (g.K.Log.entries c.pop.new.self) _ _ c.in-Some.entry
    c.self.invariant.sound (ap pending_of c.self.view_is) c.requires (search rules))
    c.in-Begun.field-0 c.in-Begun.is).0

pub undo_reader-requires-clause-there : goal.undo_reader-requires-clause-there
undo_reader-requires-clause-there g c =
    (undo.begun_there _ _ _ _ _ _ _ _ _ _
    (last_known _ _ _ _ _ (g.K.Log.entries c.self.inside.log) (g.K.Log.entries c.pop.new.self) _ _ c.in-Some.entry
    c.self.invariant.sound (ap pending_of c.self.view_is) c.requires (search rules))
    c.in-Begun.field-0 c.in-Begun.is).1

pub invariant_of-self-in-Begun : goal.invariant_of-self-in-Begun
invariant_of-self-in-Begun g c =
    let less : g.K.Log.undoable c.self.inside.log - 1 ≡ g.K.Log.undoable c.pop.new.self =
    omega (arith, c.pop.ensures.undoable) in
    record {
      sound = subst (IsSoundChan _ _ _ _ _ _) less (undo.back_begun _ _ _ _ _ _ _ _ _ _
          (last_known _ _ _ _ _ (g.K.Log.entries c.self.inside.log) (g.K.Log.entries c.pop.new.self) _ _
          c.in-Some.entry c.self.invariant.sound (ap pending_of c.self.view_is) c.requires (search rules))
          c.in-Begun.field-0 c.undo_reader.new.self c.in-Begun.is c.undo_reader.ensures.lists
          c.undo_reader.ensures.keeps c.undo_reader.ensures.room c.undo_reader.ensures.items);
      fits = still_fits c.undo_reader.ensures.keeps c.self.invariant.fits;
    }

pub undo_reader-requires-in-Cloned-clause-broadcast : goal.undo_reader-requires-in-Cloned-clause-broadcast
undo_reader-requires-in-Cloned-clause-broadcast g c =
    c.self.invariant.fits.cast ∙ (undo.cloned_there _ _ _ _ _ _ _ _ _ _
    (last_known _ _ _ _ _ (g.K.Log.entries c.self.inside.log) (g.K.Log.entries c.pop.new.self) _ _ c.in-Some.entry
    c.self.invariant.sound (ap pending_of c.self.view_is) c.requires (search rules))
    c.in-Cloned.field-0 c.in-Cloned.field-1 c.in-Cloned.is).0

pub undo_reader-requires-in-Cloned-clause-there : goal.undo_reader-requires-in-Cloned-clause-there
undo_reader-requires-in-Cloned-clause-there g c =
    (undo.cloned_there _ _ _ _ _ _ _ _ _ _
    (last_known _ _ _ _ _ (g.K.Log.entries c.self.inside.log) (g.K.Log.entries c.pop.new.self) _ _ c.in-Some.entry
    c.self.invariant.sound (ap pending_of c.self.view_is) c.requires (search rules))
    c.in-Cloned.field-0 c.in-Cloned.field-1 c.in-Cloned.is).1

pub invariant_of-self-in-Cloned : goal.invariant_of-self-in-Cloned
invariant_of-self-in-Cloned g c =
    let less : g.K.Log.undoable c.self.inside.log - 1 ≡ g.K.Log.undoable c.pop.new.self =
    omega (arith, c.pop.ensures.undoable) in
    record {
      sound = subst (IsSoundChan _ _ _ _ _ _) less (undo.back_cloned _ _ _ _ _ _ _ _ _ _
          (last_known _ _ _ _ _ (g.K.Log.entries c.self.inside.log) (g.K.Log.entries c.pop.new.self) _ _
          c.in-Some.entry c.self.invariant.sound (ap pending_of c.self.view_is) c.requires (search rules))
          c.in-Cloned.field-0 c.in-Cloned.field-1 c.undo_reader-in-Cloned.new.self c.in-Cloned.is
          c.undo_reader-in-Cloned.ensures.lists c.undo_reader-in-Cloned.ensures.keeps
          c.undo_reader-in-Cloned.ensures.room c.undo_reader-in-Cloned.ensures.items);
      fits = still_fits c.undo_reader-in-Cloned.ensures.keeps c.self.invariant.fits;
    }
