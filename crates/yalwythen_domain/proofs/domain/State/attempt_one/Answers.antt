use Rattle.std.proofs.Common.{rules, arith, ◌≡◌, ◌∙◌, refl, ap, subst, Some, Ok, ◌<◌, false, length, [], ◌∷◌}
use Rattle.std.proofs.Common.{List, map, min, take, slice_get}
use Rattle.txc_base.specs.declared.reply.Reply.{Reply}
use Rattle.yalwythen_domain.specs.RawSteps.{response_of}
use Rattle.txc_base.specs.declared.tag.Tag.{Tag}
use Rattle.txc_txn_check.specs.declared.step.Step.TheVariants.{Do}
use Rattle.txc_txn.specs.declared.ran.Ran.TheVariants.{Kept as RanKept}
use Rattle.yalwythen_domain.specs.Domain.{DomainState}
use Rattle.yalwythen_domain.specs.Ending.{RanInDomain}
use Rattle.yalwythen_domain.specs.Opening.{is_open}
use Rattle.yalwythen_domain.proofs.Transacting.{not_missing, still_transacted, true_or_false}
use Rattle.yalwythen_domain.proofs.domain.State.attempt_one.Given.{Over}
use Rattle.yalwythen_domain.proofs.domain.State.attempt_one.Goals as goal

pub returns-in-Ok-false : goal.returns-in-Ok-false
returns-in-Ok-false g c =
    let there : c.args.seat < length c.args.self.now.tags = search rules in
    let closed : is_open c.args.self.now.status ≡ false = search rules in
    still_transacted c.args.seat c.args.raw_steps.now c.args.self.now c.commit_one.new.self
    c.attempt_all-in-Ok-false.new.self c.args.replies.now c.attempt_all-in-Ok-false.new.replies
    c.attempt_all-in-Ok-false.result there closed (c.in-Ok-false.ensures.left c.in-Ok-false.field-0-test)
    c.commit_one.ensures.rest c.attempt_all-in-Ok-false.ensures

pub returns-in-Err : goal.returns-in-Err
returns-in-Err g c =
    let there : c.args.seat < length c.args.self.now.tags = search rules in
    let closed : is_open c.args.self.now.status ≡ false = search rules in
    let five = c.call_result-in-Err.ensures.code in
    record {
      ran = λ tag at shut plain code. absurd (code five);
      ran_any = λ tag at shut low. absurd (omega (arith, five, low));
      replies = λ zero. absurd (omega (arith, five, zero));
      tags = λ zero. absurd (omega (arith, five, zero));
      clock = λ zero. absurd (omega (arith, five, zero));
      failed = λ fails. (c.in-Err.ensures.unchanged, refl);
      unknown = λ none. absurd (not_missing c.args.self.now.tags c.args.seat there none);
      refused = λ tag at opens. true_or_false (is_open c.args.self.now.status) closed opens;
      rest = let r = c.commit_one.ensures.rest in
          (r.0, r.1, r.2, r.3, refl);
    }

ran : (g : Over) (c : goal.After-call_result g) (tag : Tag) → slice_get c.args.self.now.tags c.args.seat ≡ Some tag
    → RanInDomain tag c.args.raw_steps.now c.args.self.now.channels c.commit_one.new.self.channels c.args.self.now.last
    c.commit_one.new.self.last c.call_result.result
ran g c tag at = record {
  steps = Do c.args.op.now ∷ [];
  came = Ok (RanKept c.commit_one.new.self.last);
  are = c.requires;
  comes = c.in-Ok-true.ensures.comes tag at c.in-Ok-true.field-0-test;
  kinds = c.commit_one.ensures.rest.0;
  last = refl;
  answered = λ j. record {
    code = c.call_result.ensures.code j;
    value = (c.call_result.ensures.value ∙ c.len-in-Ok-true.ensures
        ∙ ap (λ (s : DomainState). length s.last.replies) c.self-in-Ok-true.view_is) j;
  };
}

pub returns-in-Ok-true : goal.returns-in-Ok-true
returns-in-Ok-true g c =
    let there : c.args.seat < length c.args.self.now.tags = search rules in
    let closed : is_open c.args.self.now.status ≡ false = search rules in
    record {
      ran = λ tag at shut plain code. ran g c tag at;
      ran_any = λ tag at shut low. ran g c tag at;
      replies = λ zero. subst (λ (rs : List Reply). let count = min (length rs) (length c.args.replies.now) in
          take count c.copy_replies.new.out ≡ map response_of (take count rs))
          (c.as_slice.ensures ∙ ap (λ (s : DomainState). s.last.replies) c.self-in-Ok-true.view_is)
          c.copy_replies.ensures.replies;
      tags = λ zero. c.in-Ok-true.ensures.tags c.in-Ok-true.field-0-test;
      clock = λ zero. c.in-Ok-true.ensures.clock c.in-Ok-true.field-0-test;
      failed = λ fails. absurd (fails c.call_result.ensures.code);
      unknown = λ none. absurd (not_missing c.args.self.now.tags c.args.seat there none);
      refused = λ tag at opens. true_or_false (is_open c.args.self.now.status) closed opens;
      rest = let r = c.commit_one.ensures.rest in
          (r.0, r.1, r.2, r.3, c.copy_replies.ensures.length);
    }
