use Rattle.std.proofs.Common.{◌∙◌, subst, sym, List, slice_get}
use Rattle.std.proofs.lemmas.Result.{err_from_is_err_and}
use Rattle.txc_base.specs.declared.kind.Kind.{Kind}
use Rattle.txc_txn_check.specs.Limits.{CheckedView}
use Rattle.txc_txn_check.specs.Steps.{Fits}
use Rattle.yalwythen_work.proofs.Asking.{unfits}
use Rattle.yalwythen_work.proofs.Noting.{all_after}
use Rattle.yalwythen_work.proofs.session.Session.prepare_list.Goals as goal

pub returns-in_err-plan-clause-failed : goal.returns-in_err-plan-clause-failed
returns-in_err-plan-clause-failed g c = let p = err_from_is_err_and c.from_residual.result c.from_residual.ensures.1 in
    rw (p.1, p.2) (unfits c.self.inside.table.now c.self.inside.seat c.self.inside.plans c.args.steps.items
    c.kinds.result.now c.in_err-plan.field-0.0 c.args.self.now c.self.view_is c.kinds.ensures c.in_err-plan.ensures.err)

pub invariant_of-self-2 : goal.invariant_of-self-2
invariant_of-self-2 g c = record {
  of = c.self.invariant.of;
  fit = all_after (λ (plan : CheckedView). Fits (slice_get c.self.inside.table.now.kinds) plan.steps) c.prepare.result
      c.self.inside.plans.prepared c.prepare.new.self.prepared c.in_ok-plan.plan c.prepare.ensures.prepared
      c.prepare.ensures.same c.self.invariant.fit
      (subst (λ (ks : List Kind). Fits (slice_get ks) c.in_ok-plan.plan.steps) c.kinds.ensures
      c.in_ok-plan.ensures.fits);
  back = record {
    number = c.self.invariant.back.number;
    lines = c.self.invariant.back.lines;
    audited = c.prepare.ensures.audited ∙ c.self.invariant.back.audited;
    noted = λ is.
        c.prepare.ensures.kept ∙ c.self.invariant.back.noted (sym c.prepare.ensures.audited ∙ is);
  };
}
