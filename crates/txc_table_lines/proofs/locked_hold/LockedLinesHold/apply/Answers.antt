use Rattle.std.proofs.Common.{◌≡◌, ◌≢◌, true, subst, IfOk, IfErr, OnErr, arith}
use Rattle.txc_base.specs.Kinds.{supports}
use Rattle.txc_base.specs.declared.stop.Stop.TheVariants.{NoMemory}
use Rattle.txc_chan.specs.Logged.{Logged, Stopped, UnlessReplied, did, op_on}
use Rattle.txc_table_lines.proofs.Locking.{chan_is, chan_others, chan_step, lines_written, there_written}
use Rattle.txc_table_lines.proofs.locked_hold.LockedLinesHold.apply.Goals as goal

pub apply-requires : goal.apply-requires
apply-requires g c = subst (λ (l : Logged). supports l.decl.kind c.args.op.now ≡ true) (chan_is _ _ _ _ _ _ _
    c.self.view_is c.as_mut_slice.ensures.value c.from.ensures c.requires.held c.in-Some.is) c.requires.supports

pub invariant_of-self : goal.invariant_of-self
invariant_of-self g c =
    let there = there_written _ _ _ _ c.apply.new.self c.self.inside.lines.ok.0 c.self.invariant.0 c.self.invariant.2
    c.as_mut_slice.ensures.value in
    (there.0, c.self.invariant.1, there.1)

pub returns-clause-others : goal.returns-clause-others
returns-clause-others g c = chan_others _ _ _ _ _ c.apply.new.self c.self.inside.lines.ok.0 c.self.view_is
    c.as_mut_slice.ensures.value
    c.from.ensures c.requires.held

pub returns-clause-ok : goal.returns-clause-ok
returns-clause-ok g c = chan_step (λ l l'. IfOk c.apply.result (λ answer. op_on l c.args.tag c.args.last c.args.op.now
    ≡ did answer l')) _ _ _ _ _ _ _ c.apply.new.self c.self.inside.lines.ok.0 c.self.view_is
    c.as_mut_slice.ensures.value c.from.ensures
    c.requires.held c.in-Some.is c.apply.ensures.ok

pub returns-clause-err : goal.returns-clause-err
returns-clause-err g c = chan_step (λ l l'. IfErr c.apply.result (λ stop. stop ≢ NoMemory
    → op_on l c.args.tag c.args.last c.args.op.now ≡ Stopped stop)) _ _ _ _ _ _ _ c.apply.new.self
    c.self.inside.lines.ok.0 c.self.view_is
    c.as_mut_slice.ensures.value c.from.ensures c.requires.held c.in-Some.is c.apply.ensures.err

pub returns-clause-retry : goal.returns-clause-retry
returns-clause-retry g c = chan_step (λ l l'. IfOk c.apply.result (λ answer. UnlessReplied answer (l' ≡ l)))
    _ _ _ _ _ _ _ c.apply.new.self c.self.inside.lines.ok.0 c.self.view_is c.as_mut_slice.ensures.value c.from.ensures
    c.requires.held
    c.in-Some.is c.apply.ensures.retry

pub returns-clause-unchanged : goal.returns-clause-unchanged
returns-clause-unchanged g c = chan_step (λ l l'. OnErr c.apply.result (l' ≡ l)) _ _ _ _ _ _ _ c.apply.new.self
    c.self.inside.lines.ok.0 c.self.view_is c.as_mut_slice.ensures.value c.from.ensures c.requires.held c.in-Some.is
    c.apply.ensures.unchanged

pub returns-clause-fixed : goal.returns-clause-fixed
returns-clause-fixed g c = lines_written _ _ _ _ _ _ c.apply.new.self c.self.inside.lines.ok.0 c.self.view_is
    c.as_mut_slice.ensures.value
    (omega (arith, c.requires.held, c.from.ensures)) c.in-Some.is c.apply.ensures.line
