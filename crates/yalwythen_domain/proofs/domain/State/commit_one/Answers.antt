use Rattle.std.proofs.Common.{◌≡◌, ◌∙◌, ap, sym, subst, Some, Ok, [], ◌∷◌, slice_get, IsTrue}
use Rattle.std.proofs.lemmas.Option.{get_or_from_slice_get}
use Rattle.txc_base.specs.declared.tag.Tag.{Tag}
use Rattle.txc_txn_check.specs.declared.step.Step.TheVariants.{Do}
use Rattle.txc_txn_check.specs.Walk.{Fine, walk}
use Rattle.txc_txn.specs.declared.ran.Ran.TheVariants.{Kept as RanKept}
use Rattle.txc_txn.specs.AtOnce.{IsImmediate}
use Rattle.txc_txn.specs.Plain.{chan_in}
use Rattle.yalwythen_domain.specs.Domain.{DomainState}
use Rattle.yalwythen_domain.specs.Ending.{ComesOfSteps}
use Rattle.yalwythen_domain.proofs.domain.State.commit_one.Goals as goal

pub returns-clause-comes : goal.returns-clause-comes
returns-clause-comes g c tag at is =
    let seen : slice_get c.self.inside.tags.items c.args.seat ≡ Some tag =
    ap (λ (s : DomainState). slice_get s.tags c.args.seat) c.self.view_is ∙ at in
    let same = c.index-before.ensures
    ∙ get_or_from_slice_get c.self.inside.tags.items c.args.seat tag c.index-before.result.now seen in
    rw (sym c.self.view_is, c.note_tag-2.ensures.rest.0, c.note_tag-2.ensures.rest.2)
    (subst (λ (t : Tag). ComesOfSteps (walk (slice_get c.self.inside.channels.kinds) (Do c.args.op.now ∷ [])) t
    (Do c.args.op.now ∷ []) (Ok (RanKept c.commit_one.new.last)) (chan_in c.self.inside.channels.held)
    (chan_in c.commit_one.new.self.held)) same (c.in_ok-commit_one.ensures.comes c.if-not-branch.false))

pub returns-then-not-branch-clause-once : goal.returns-then-not-branch-clause-once
returns-then-not-branch-clause-once g c tag tally at fine immediate =
    let seen : slice_get c.self.inside.tags.items c.args.seat ≡ Some tag =
    ap (λ (s : DomainState). slice_get s.tags c.args.seat) c.self.view_is ∙ at in
    let same : c.index-before.result.now ≡ tag = c.index-before.ensures
    ∙ get_or_from_slice_get c.self.inside.tags.items c.args.seat tag c.index-before.result.now seen in
    subst IsTrue c.if-not-branch.true (c.in_ok-commit_one.ensures.once tally
    (subst (λ (s : DomainState). walk (slice_get s.channels.kinds) (Do c.args.op.now ∷ []) ≡ Fine tally)
    (sym c.self.view_is) fine)
    (subst (λ (t : Tag). IsImmediate (chan_in c.self.inside.channels.held) t c.args.op.now) (sym same)
    (subst (λ (s : DomainState). IsImmediate (chan_in s.channels.held) tag c.args.op.now) (sym c.self.view_is)
    immediate)))
