use Rattle.std.proofs.Common.{rules, length, ◌≡◌, ◌∙◌, ap, sym, ℕ, Bool, true, List, [], ◌∷◌, ◌++◌, map}
use Rattle.txc_txn_check.specs.Limits.{CheckedView}
use Rattle.yalwythen_work.proofs.Noting.{one_more_once}
use Rattle.yalwythen_work.specs.Plans.{PlansView, noted, plan_of}
use Rattle.yalwythen_work.specs.declared.plans.PlanIndex.TheVariants.{Once}
use Rattle.yalwythen_work.proofs.plans.Plans.note.Goals as goal

pub returns-then-self-clause-kept : goal.returns-then-self-clause-kept
returns-then-self-clause-kept c =
    let audited : c.args.self.now.audited ≡ true = sym (ap (λ (p : PlansView). p.audited) c.self.view_is)
    ∙ c.if-self.true in
    let number : c.len-number.result ≡ length c.self.inside.once.items = search rules in
    (λ j. map (plan_of c.self.inside.prepared.items (c.push_reserved.ensures.items j))
    (c.push_reserved-then-self.ensures.items j))
    ∙ ap (λ (n : ℕ). map (plan_of c.self.inside.prepared.items (c.self.inside.once.items ++ c.args.plan ∷ []))
    (c.self.inside.kept.items ++ Once n ∷ [])) number
    ∙ one_more_once c.self.inside.prepared.items c.self.inside.once.items c.args.plan c.self.inside.kept.items
    c.self.invariant
    ∙ ap (λ (ps : List CheckedView). ps ++ c.args.plan ∷ []) (ap (λ (p : PlansView). p.kept) c.self.view_is)
    ∙ ap (λ (b : Bool). noted b c.args.self.now.kept c.args.plan) (sym audited)
