use Rattle.std.proofs.Common.{◌<◌, subst, arith}
use Rattle.txc_chan.specs.Logged.{Logged, Undone}
use Rattle.txc_table_lines.proofs.Placing.{guarded, guarded_others, guarded_step, locked_changed, never_none, within}
use Rattle.txc_table_lines.proofs.hold.GuardsHold.undo_last.Goals as goal

pub bounds-deref_mut-at : goal.bounds-deref_mut-at
bounds-deref_mut-at g c = within _ _ _ _ _ _ c.self.view_is c.self.invariant c.place-at.ensures.there
    c.deref_mut.ensures.value

pub offset_bounds-deref_mut-at : goal.offset_bounds-deref_mut-at
offset_bounds-deref_mut-at g c = omega (arith, bounds-deref_mut-at g c, c.deref_mut.type_inv.1)

pub unreachable-requires : goal.unreachable-requires
unreachable-requires g c = absurd (never_none _ _ _ _ _ _ _ c.self.view_is c.self.invariant c.place-at.ensures.there
    c.deref_mut.ensures.value c.in-None.is)

pub undo_last-requires : goal.undo_last-requires
undo_last-requires g c = subst (λ (l : Logged). 0 < l.pending) (guarded _ _ _ _ _ _ _ _ _ c.self.view_is
    c.self.invariant
    c.place-at.ensures.place c.place-at.ensures.there c.deref_mut.ensures.value c.in-Some.is) c.requires.pending

pub invariant_of-self : goal.invariant_of-self
invariant_of-self g c = locked_changed _ _ _ _ _ _ _ _ _ c.self.view_is c.self.invariant c.place-at.ensures.there
    c.deref_mut.ensures.value c.in-Some.is c.undo_last.ensures.line

pub returns-clause-others : goal.returns-clause-others
returns-clause-others g c = guarded_others _ _ _ _ _ _ _ c.undo_last.new.self c.self.view_is c.self.invariant
    c.place-at.ensures.place c.place-at.ensures.there c.deref_mut.ensures.value

pub returns-clause-undone : goal.returns-clause-undone
returns-clause-undone g c = guarded_step Undone _ _ _ _ _ _ _ _ _ c.undo_last.new.self c.self.view_is c.self.invariant
    c.place-at.ensures.place
    c.place-at.ensures.there c.deref_mut.ensures.value c.in-Some.is
    c.undo_last.ensures.undone
