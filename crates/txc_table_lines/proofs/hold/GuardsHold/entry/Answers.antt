use Rattle.std.proofs.Common.{◌∙◌, sym, ap, ◌≤◌, ◌+◌, subst, length, slice_get, arith}
use Rattle.txc_chan.specs.Logged.{Logged}
use Rattle.txc_table_lines.proofs.Placing.{guarded, never_none, within}
use Rattle.txc_table_lines.proofs.hold.GuardsHold.entry.Goals as goal

pub bounds-deref_mut-at : goal.bounds-deref_mut-at
bounds-deref_mut-at g c = within _ _ _ _ _ _ c.self.view_is c.self.invariant c.place-at.ensures.there
    c.deref_mut.ensures.value

pub offset_bounds-deref_mut-at : goal.offset_bounds-deref_mut-at
offset_bounds-deref_mut-at g c = omega (arith, bounds-deref_mut-at g c, c.deref_mut.type_inv.1)

pub unreachable-requires : goal.unreachable-requires
unreachable-requires g c = absurd (never_none _ _ _ _ _ _ _ c.self.view_is c.self.invariant c.place-at.ensures.there
    c.deref_mut.ensures.value c.in-None.is)

pub returns-clause-value : goal.returns-clause-value
returns-clause-value g c = c.entry.ensures.value ∙ sym (ap (λ (l : Logged). slice_get l.log c.args.place) (guarded _ _
    _ _ _ _ _ _ _ c.self.view_is c.self.invariant
    c.place-at.ensures.place c.place-at.ensures.there c.deref_mut.ensures.value c.in-Some.is))

pub entry-requires : goal.entry-requires
entry-requires g c = subst (λ (l : Logged). length l.log ≤ c.args.place + l.pending) (guarded _ _ _ _ _ _ _ _ _
    c.self.view_is c.self.invariant
    c.place-at.ensures.place c.place-at.ensures.there c.deref_mut.ensures.value c.in-Some.is) c.requires.pending
