use Rattle.std.proofs.Common.{◌∙◌, sym, ap, subst, arith}
use Rattle.txc_chan.specs.Logged.{MatchesLog, Logged}
use Rattle.txc_table_lines.proofs.Placing.{guarded, never_none, within}
use Rattle.txc_table_lines.proofs.hold.GuardsHold.pending.Goals as goal

pub bounds-deref_mut-at : goal.bounds-deref_mut-at
bounds-deref_mut-at g c = within _ _ _ _ _ _ c.self.view_is c.self.invariant c.place-at.ensures.there
    c.deref_mut.ensures.value

pub offset_bounds-deref_mut-at : goal.offset_bounds-deref_mut-at
offset_bounds-deref_mut-at g c = omega (arith, bounds-deref_mut-at g c, c.deref_mut.type_inv.1)

pub unreachable-requires : goal.unreachable-requires
unreachable-requires g c = absurd (never_none _ _ _ _ _ _ _ c.self.view_is c.self.invariant c.place-at.ensures.there
    c.deref_mut.ensures.value c.in-None.is)

pub returns-clause-value : goal.returns-clause-value
returns-clause-value g c = c.pending.ensures.value ∙ sym (ap (λ (l : Logged). l.pending) (guarded _ _ _ _ _ _ _ _ _
    c.self.view_is c.self.invariant
    c.place-at.ensures.place c.place-at.ensures.there c.deref_mut.ensures.value c.in-Some.is))

pub returns-clause-lawful : goal.returns-clause-lawful
returns-clause-lawful g c = subst MatchesLog (sym (guarded _ _ _ _ _ _ _ _ _ c.self.view_is c.self.invariant
    c.place-at.ensures.place c.place-at.ensures.there c.deref_mut.ensures.value c.in-Some.is)) c.pending.ensures.lawful
