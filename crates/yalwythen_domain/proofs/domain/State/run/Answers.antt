use Rattle.std.proofs.lemmas.Option.{get_or_from_slice_get}
use Rattle.std.proofs.Common.{◌≡◌, ◌≢◌, sym, ◌∙◌, ap, subst, refl, Ok, Err, IfOk, Some, slice_get}
use Rattle.txc_base.specs.declared.tag.Tag.{Tag}
use Rattle.txc_txn_check.specs.Walk.{walk}
use Rattle.txc_txn.specs.Plain.{chan_in}
use Rattle.yalwythen_domain.specs.declared.call_result.CallResult.{CallResult}
use Rattle.yalwythen_domain.specs.Domain.{DomainState}
use Rattle.yalwythen_domain.specs.Ending.{RanInDomain}
use Rattle.yalwythen_domain.specs.Single.{list_of_steps}
use Rattle.yalwythen_domain.proofs.Coming.{as_before, ran_in_domain}
use Rattle.yalwythen_domain.proofs.Going.{both_ok}
use Rattle.yalwythen_domain.proofs.domain.State.run.Given.{Over}
use Rattle.yalwythen_domain.proofs.domain.State.run.Goals as goal

pub returns-in-Ok-run-clause-failed : goal.returns-in-Ok-run-clause-failed
returns-in-Ok-run-clause-failed g c failed =
    let same = c.note.ensures.retried failed in
    rw (sym c.self.view_is) (
      ap (λ (s : DomainState). chan_in s.channels.held) same
          ∙ as_before (walk (slice_get c.self.inside.channels.kinds) (list_of_steps c.in-Ok.steps))
          c.index-tag.result.now (list_of_steps c.in-Ok.steps) (Ok c.in-Ok-run.ran) _ _ c.in-Ok-run.ensures.comes
          (subst (λ (s : CallResult). s.code ≢ 0) c.note.ensures.response failed),
      ap (λ (s : DomainState). s.tags) same,
      ap (λ (s : DomainState). s.clock) same,
      ap (λ (s : DomainState). s.last) same,
    )

came : (g : Over) (c : goal.After-response_of_error g) (tag : Tag) → slice_get c.args.self.now.tags c.args.seat
    ≡ Some tag
    → IfOk c.response_of_error.result (λ response. RanInDomain tag c.args.raw_steps.now c.args.self.now.channels
    c.run.new.self
    c.args.self.now.last c.self.inside.last response)
came g c tag at =
    let seen : slice_get c.self.inside.tags.items c.args.seat ≡ Some tag =
    ap (λ (s : DomainState). slice_get s.tags c.args.seat) c.self.view_is ∙ at in
    both_ok c.response_of_error.result _ _ _ c.response_of_error.ensures.response
    c.response_of_error.ensures.code (λ response answered code. rw (sym c.self.view_is)
    (ran_in_domain tag c.index-tag.result.now c.args.raw_steps.now (list_of_steps c.in-Ok.steps)
    (Err c.in-Err-run.error)
    c.self.inside.channels c.self.inside.channels c.run.new.self c.self.inside.last c.self.inside.last response
    (c.index-tag.ensures ∙ get_or_from_slice_get c.self.inside.tags.items c.args.seat tag c.index-tag.result.now seen)
    refl c.in-Ok.ensures.written c.in-Err-run.ensures.comes c.in-Err-run.ensures.kinds refl answered))

pub returns-in-Err-run-clause-ran : goal.returns-in-Err-run-clause-ran
returns-in-Err-run-clause-ran g c tag at plain = came g c tag at

pub returns-in-Err-run-clause-ran_any : goal.returns-in-Err-run-clause-ran_any
returns-in-Err-run-clause-ran_any g c tag at = both_ok c.response_of_error.result _ _ _ (came g c tag at)
    c.response_of_error.ensures.code (λ response ran code low. ran)

kept : (g : Over) (c : goal.After-note g) (tag : Tag) → slice_get c.args.self.now.tags c.args.seat ≡ Some tag
    → RanInDomain tag c.args.raw_steps.now c.args.self.now.channels c.note.new.self.channels c.args.self.now.last
    c.note.new.self.last c.note.result
kept g c tag at =
    let seen : slice_get c.self.inside.tags.items c.args.seat ≡ Some tag =
    ap (λ (s : DomainState). slice_get s.tags c.args.seat) c.self.view_is ∙ at in
    rw (sym c.self.view_is, c.note.ensures.channels)
    (ran_in_domain tag c.index-tag.result.now c.args.raw_steps.now (list_of_steps c.in-Ok.steps) (Ok c.in-Ok-run.ran)
    c.self.inside.channels c.self.inside.channels c.run.new.self c.self.inside.last c.note.new.self.last c.note.result
    (c.index-tag.ensures ∙ get_or_from_slice_get c.self.inside.tags.items c.args.seat tag c.index-tag.result.now seen)
    refl c.in-Ok.ensures.written c.in-Ok-run.ensures.comes c.in-Ok-run.ensures.kinds c.note.ensures.last
    c.note.ensures.response)

pub returns-in-Ok-run-clause-ran : goal.returns-in-Ok-run-clause-ran
returns-in-Ok-run-clause-ran g c tag at plain = kept g c tag at

pub returns-in-Ok-run-clause-ran_any : goal.returns-in-Ok-run-clause-ran_any
returns-in-Ok-run-clause-ran_any g c tag at low = kept g c tag at
