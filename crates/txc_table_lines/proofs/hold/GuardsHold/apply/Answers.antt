use Rattle.std.proofs.Common.{◌≡◌, ◌≢◌, true, subst, IfOk, IfErr, OnErr, arith}
use Rattle.txc_base.specs.Kinds.{supports}
use Rattle.txc_base.specs.declared.stop.Stop.TheVariants.{NoMemory}
use Rattle.txc_chan.specs.Logged.{Logged, Stopped, UnlessReplied, did, op_on}
use Rattle.txc_table_lines.proofs.Placing.{guarded, guarded_others, guarded_step, locked_changed, never_none, within}
use Rattle.txc_table_lines.proofs.hold.GuardsHold.apply.Goals as goal

pub bounds-deref_mut-at : goal.bounds-deref_mut-at
bounds-deref_mut-at g c = within _ _ _ _ _ _ c.self.view_is c.self.invariant c.place-at.ensures.there
    c.deref_mut.ensures.value

pub offset_bounds-deref_mut-at : goal.offset_bounds-deref_mut-at
offset_bounds-deref_mut-at g c = omega (arith, bounds-deref_mut-at g c, c.deref_mut.type_inv.1)

pub unreachable-requires : goal.unreachable-requires
unreachable-requires g c = absurd (never_none _ _ _ _ _ _ _ c.self.view_is c.self.invariant c.place-at.ensures.there
    c.deref_mut.ensures.value c.in-None.is)

pub apply-requires : goal.apply-requires
apply-requires g c = subst (λ (l : Logged). supports l.decl.kind c.args.op.now ≡ true) (guarded _ _ _ _ _ _ _ _ _
    c.self.view_is c.self.invariant
    c.place-at.ensures.place c.place-at.ensures.there c.deref_mut.ensures.value c.in-Some.is) c.requires.supports

pub invariant_of-self : goal.invariant_of-self
invariant_of-self g c = locked_changed _ _ _ _ _ _ _ _ _ c.self.view_is c.self.invariant c.place-at.ensures.there
    c.deref_mut.ensures.value c.in-Some.is c.apply.ensures.line

pub returns-clause-others : goal.returns-clause-others
returns-clause-others g c = guarded_others _ _ _ _ _ _ _ c.apply.new.self c.self.view_is c.self.invariant
    c.place-at.ensures.place c.place-at.ensures.there c.deref_mut.ensures.value

pub returns-clause-ok : goal.returns-clause-ok
returns-clause-ok g c = guarded_step (λ l l'. IfOk c.apply.result (λ answer. op_on l c.args.tag c.args.last
    c.args.op.now ≡ did answer l')) _ _ _ _ _ _ _ _ _ c.apply.new.self c.self.view_is c.self.invariant
    c.place-at.ensures.place
    c.place-at.ensures.there c.deref_mut.ensures.value c.in-Some.is c.apply.ensures.ok

pub returns-clause-err : goal.returns-clause-err
returns-clause-err g c = guarded_step (λ l l'. IfErr c.apply.result (λ stop. stop ≢ NoMemory
    → op_on l c.args.tag c.args.last c.args.op.now ≡ Stopped stop)) _ _ _ _ _ _ _ _ _ c.apply.new.self c.self.view_is
    c.self.invariant c.place-at.ensures.place
    c.place-at.ensures.there c.deref_mut.ensures.value c.in-Some.is
    c.apply.ensures.err

pub returns-clause-retry : goal.returns-clause-retry
returns-clause-retry g c = guarded_step (λ l l'. IfOk c.apply.result (λ answer. UnlessReplied answer (l' ≡ l)))
    _ _ _ _ _ _ _ _ _ c.apply.new.self c.self.view_is c.self.invariant c.place-at.ensures.place
    c.place-at.ensures.there c.deref_mut.ensures.value c.in-Some.is c.apply.ensures.retry

pub returns-clause-unchanged : goal.returns-clause-unchanged
returns-clause-unchanged g c = guarded_step (λ l l'. OnErr c.apply.result (l' ≡ l)) _ _ _ _ _ _ _ _ _ c.apply.new.self
    c.self.view_is c.self.invariant c.place-at.ensures.place
    c.place-at.ensures.there c.deref_mut.ensures.value c.in-Some.is
    c.apply.ensures.unchanged
