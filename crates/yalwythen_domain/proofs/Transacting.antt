-- A transaction that follows an attempt that changed nothing.
use Rattle.std.proofs.Common.{◌≡◌, refl, sym, ◌∙◌, ap, inl, inr, ℕ, ◌<◌, Bool, true, false, max, arith}
use Rattle.std.proofs.Common.{None, Some, List, length, slice_get, slice_set}
use Rattle.std.proofs.lemmas.Option.{slice_get_cases}
use Rattle.txc_base.specs.declared.tag.Tag.{Tag}
use Rattle.txc_txn.specs.declared.receipt.Receipt.{Receipt}
use Rattle.txc_txn.specs.Plain.{chan_in}
use Rattle.yalwythen_domain.specs.declared.raw_steps.RawStep.{RawStep}
use Rattle.yalwythen_domain.specs.declared.call_result.CallResult.{CallResult}
use Rattle.yalwythen_domain.specs.Channels.{DomainChannels}
use Rattle.yalwythen_domain.specs.Domain.{DomainState}
use Rattle.yalwythen_domain.specs.Ending.{RanInDomain, last_after_came, seat_tag_after}
use Rattle.yalwythen_domain.specs.Opening.{is_open}
use Rattle.yalwythen_domain.specs.Requests.{HasTransacted, IsUnchanged}
use Rattle.yalwythen_domain.proofs.Coming.{comes_so}

-- a seat that is there is not missing
pub not_missing : {X : Type 0} (xs : List X) (i : ℕ) → i < length xs → ¬ (slice_get xs i ≡ None)
not_missing xs i lt none = elim ((slice_get_cases xs i).1) [
  | inl h ↦ let some : None ≡ Some h.0 = sym none ∙ h.2 in
      cc
  | inr h ↦ absurd (omega (arith, lt, h.0))
]

pub true_or_false : {P : Type 0} (b : Bool) → b ≡ false → b ≡ true → P
true_or_false b shut opens = let both : false ≡ true = sym shut ∙ opens in
    cc

-- what ran after channels and a receipt that are the same ran after these
ran_after : (tag : Tag) (raw_steps : List RawStep) (old mid new : DomainChannels)
    (before between after : Receipt) (response : CallResult)
    → mid.kinds ≡ old.kinds → chan_in mid.held ≡ chan_in old.held → between ≡ before
    → RanInDomain tag raw_steps mid new between after response → RanInDomain tag raw_steps old new before after response
ran_after tag raw_steps old mid new before between after response kinds held last r = record {
  steps = r.steps;
  came = r.came;
  are = r.are;
  comes = comes_so mid.kinds old.kinds tag r.steps r.came r.came (chan_in mid.held) (chan_in old.held)
      (chan_in new.held) (chan_in new.held) kinds refl held refl r.comes;
  kinds = r.kinds ∙ kinds;
  last = r.last ∙ ap (last_after_came r.came) last;
  answered = r.answered;
}

-- what was done after nothing was changed was done
pub still_transacted : (seat : ℕ) (raw_steps : List RawStep) (old mid new : DomainState)
    (out out' : List CallResult) (response : CallResult)
    → seat < length old.tags → is_open old.status ≡ false → IsUnchanged old mid
    → (mid.channels.kinds ≡ old.channels.kinds) × (mid.channels.txn ≡ old.channels.txn)
    × (mid.channels.savepoints ≡ old.channels.savepoints) × (mid.status ≡ old.status)
    → HasTransacted seat raw_steps mid new out out' response → HasTransacted seat raw_steps old new out out' response
still_transacted seat raw_steps old mid new out out' response there closed same rest h = record {
  ran = λ tag at shut plain code. ran_after tag raw_steps old.channels mid.channels new.channels old.last mid.last
      new.last
      response rest.0 same.0 same.3
      (h.ran tag (ap (λ ts. slice_get ts seat) same.1 ∙ at) (ap is_open rest.3 ∙ shut) plain code);
  ran_any = λ tag at shut low. ran_after tag raw_steps old.channels mid.channels new.channels old.last mid.last new.last
      response rest.0 same.0 same.3
      (h.ran_any tag (ap (λ ts. slice_get ts seat) same.1 ∙ at) (ap is_open rest.3 ∙ shut) low);
  replies = h.replies;
  tags = λ done. h.tags done ∙ ap (λ ts. slice_set ts seat (seat_tag_after new.last.tag)) same.1;
  clock = λ done. h.clock done ∙ ap (λ k. max k new.last.tag.stamp) same.2;
  failed = λ fails. let f = h.failed fails in
      ((f.0.0 ∙ same.0, f.0.1 ∙ same.1, f.0.2 ∙ same.2, f.0.3 ∙ same.3), f.1);
  unknown = λ none. absurd (not_missing old.tags seat there none);
  refused = λ tag at open'. true_or_false (is_open old.status) closed open';
  rest = let r = h.rest in
      (r.0 ∙ rest.0, r.1 ∙ rest.1, r.2 ∙ rest.2, r.3 ∙ rest.3, r.4);
}
