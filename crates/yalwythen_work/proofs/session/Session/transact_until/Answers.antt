use Rattle.std.proofs.Common.{◌∙◌}
use Rattle.std.proofs.lemmas.Result.{err_from_is_err_and}
use Rattle.yalwythen_work.specs.Committed.{kept_after}
use Rattle.yalwythen_work.proofs.Asking.{asks, stops}
use Rattle.yalwythen_work.proofs.Unready.{unready}
use Rattle.yalwythen_work.proofs.session.Session.transact_until.Goals as goal

pub returns-in_err-plan-clause-failed : goal.returns-in_err-plan-clause-failed
returns-in_err-plan-clause-failed g c = let p = err_from_is_err_and c.from_residual.result c.from_residual.ensures.1 in
    rw (p.1, p.2) (unready c.self.inside.table.now c.self.inside.seat c.self.inside.plans c.args.steps.items
    c.kinds.result.now c.in_err-plan.field-0.0 c.args.self.now c.self.view_is c.kinds.ensures c.in_err-plan.ensures.err)

pub returns-in_err-tried-clause-failed : goal.returns-in_err-tried-clause-failed
returns-in_err-tried-clause-failed g c =
    let p = err_from_is_err_and c.from_residual-in_err-tried.result c.from_residual-in_err-tried.ensures.1 in
    rw (p.1, p.2) (stops c.self.inside.table.now c.self.inside.seat c.self.inside.plans c.args.steps.items
    c.in_ok-plan.plan c.in_err-tried.field-0.0 c.args.self.now c.self.view_is c.in_ok-plan.ensures.steps
    c.in_ok-plan.ensures.checked c.in_err-tried.ensures.outcome.stopped)

pub returns-clause-tried : goal.returns-clause-tried
returns-clause-tried g c =
    asks c.self.inside.table.now c.self.inside.seat c.transact_until.new.seat c.self.inside.plans
    c.note_if_kept.new.plans c.args.steps.items c.in_ok-plan.plan c.in_ok-tried.tried c.args.self.now c.self.view_is
    c.in_ok-plan.ensures.steps c.in_ok-plan.ensures.checked
    (c.note_if_kept.ensures.kept ∙ (λ i. kept_after (c.ready.ensures.same.audited i) (c.ready.ensures.same.kept i)
    c.in_ok-plan.plan c.in_ok-tried.tried))
    (c.note_if_kept.ensures.audited ∙ c.ready.ensures.same.audited)
    (c.note_if_kept.ensures.prepared ∙ c.ready.ensures.same.prepared) c.in_ok-tried.ensures.outcome.returned
    c.in_ok-tried.ensures.outcome.sees
