use Rattle.std.proofs.Common.{◌∙◌, ap, List, [], ◌∷◌, ◌++◌, map}
use Rattle.txc_txn_check.specs.Limits.{CheckedView}
use Rattle.yalwythen_work.proofs.Noting.{one_more_prepared}
use Rattle.yalwythen_work.specs.Plans.{PlansView, plan_of}
use Rattle.yalwythen_work.proofs.plans.Plans.prepare.Goals as goal

pub returns-clause-kept : goal.returns-clause-kept
returns-clause-kept c =
    ap (λ (ps : List CheckedView). map (plan_of ps c.self.inside.once.items) c.self.inside.kept.items)
    (c.push_reserved.ensures.items
    ∙ ap (λ (ps : List CheckedView). ps ++ c.args.plan ∷ []) c.in_ok-reserve.ensures.items)
    ∙ one_more_prepared c.self.inside.prepared.items c.self.inside.once.items c.args.plan c.self.inside.kept.items
    c.self.invariant ∙ ap (λ (p : PlansView). p.kept) c.self.view_is
