use Rattle.std.proofs.Common.{◌∙◌}
use Rattle.std.proofs.lemmas.Result.{err_from_is_err_and}
use Rattle.yalwythen_work.specs.Plans.{noted}
use Rattle.yalwythen_work.proofs.Asking.{asks, stalls, stops}
use Rattle.yalwythen_work.proofs.Unready.{unready}
use Rattle.txc_table.specs.declared.tried.Tried.{Tried}
use Rattle.yalwythen_work.proofs.session.Session.transact.Goals as goal

pub returns-in_err-plan-clause-failed : goal.returns-in_err-plan-clause-failed
returns-in_err-plan-clause-failed g c = let p = err_from_is_err_and c.from_residual.result c.from_residual.ensures.1 in
    rw (p.1, p.2) (unready c.self.inside.table.now c.self.inside.seat c.self.inside.plans c.args.steps.items
    c.kinds.result.now c.in_err-plan.field-0.0 c.args.self.now c.self.view_is c.kinds.ensures c.in_err-plan.ensures.err)

pub returns-in_err-number-clause-failed : goal.returns-in_err-number-clause-failed
returns-in_err-number-clause-failed g c =
    let p = err_from_is_err_and c.from_residual-in_err-number.result c.from_residual-in_err-number.ensures.1 in
    rw (p.1, p.2) (stops c.self.inside.table.now c.self.inside.seat c.self.inside.plans c.args.steps.items
    c.in_ok-plan.plan c.in_err-number.field-0.0 c.args.self.now c.self.view_is c.in_ok-plan.ensures.steps
    c.in_ok-plan.ensures.checked c.in_err-number.ensures.outcome.stopped)

pub returns-in-Stalled-clause-failed : goal.returns-in-Stalled-clause-failed
returns-in-Stalled-clause-failed g c =
    let table = c.self.inside.table.now in let seat = c.self.inside.seat in let after = c.transact.new.seat in
    let found = rw c.in-Stalled.is at c.in_ok-number.ensures.outcome.returned in
    stalls table seat after c.self.inside.plans c.args.steps.items c.in_ok-plan.plan c.in-Stalled.cause
    c.args.self.now c.self.view_is c.in_ok-plan.ensures.steps c.in_ok-plan.ensures.checked found

pub returns-in-Kept-clause-committed : goal.returns-in-Kept-clause-committed
returns-in-Kept-clause-committed g c =
    let table = c.self.inside.table.now in let seat = c.self.inside.seat in let after = c.transact.new.seat in
    let found = rw c.in-Kept.is at c.in_ok-number.ensures.outcome.returned in
    asks table seat after c.self.inside.plans c.note.new.self c.args.steps.items c.in_ok-plan.plan
    (Tried.Kept c.in-Kept.number) c.args.self.now c.self.view_is c.in_ok-plan.ensures.steps
    c.in_ok-plan.ensures.checked
    (c.note.ensures.kept ∙ (λ i. noted (c.ready.ensures.same.audited i) (c.ready.ensures.same.kept i)
    c.in_ok-plan.plan))
    (c.note.ensures.audited ∙ c.ready.ensures.same.audited) (c.note.ensures.prepared ∙ c.ready.ensures.same.prepared)
    found (rw c.in-Kept.is at c.in_ok-number.ensures.outcome.sees)
