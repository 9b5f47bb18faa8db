-- What comes of steps, from what comes of their transaction.
use Rattle.std.proofs.Common.{◌≡◌, ◌≢◌, refl, sym, ◌∙◌, ap, subst, ℕ, Result, Ok, Err, List, slice_get}
use Rattle.txc_base.specs.declared.kind.Kind.{Kind}
use Rattle.txc_base.specs.declared.tag.Tag.{Tag}
use Rattle.txc_txn_check.specs.declared.step.Step.{Step}
use Rattle.txc_txn_check.specs.Walk.{Tally, Walked, Fine, Faulty, walk}
use Rattle.txc_base.specs.declared.cause.Cause.{Cause}
use Rattle.txc_txn.specs.declared.ran.Ran.{Ran}
use Rattle.txc_txn.specs.declared.ran.Ran.TheVariants.{Kept, Retry}
use Rattle.txc_txn.specs.declared.receipt.Receipt.{Receipt}
use Rattle.txc_txn.specs.Maps.{Map}
use Rattle.txc_txn.specs.Plain.{chan_in}
use Rattle.txc_txn.specs.Run.{RanSettled}
use Rattle.txc_txn.specs.Transaction.{Ending, Kept as EndingKept, Again, Aborted, kept_tag, transaction}
use Rattle.yalwythen_domain.specs.declared.channels.RunError.{RunError}
use Rattle.yalwythen_domain.specs.declared.channels.RunError.TheVariants.{Faulty as HaltedFaulty, Stopped}
use Rattle.yalwythen_domain.specs.declared.raw_steps.RawStep.{RawStep}
use Rattle.yalwythen_domain.specs.declared.call_result.CallResult.{CallResult}
use Rattle.yalwythen_domain.specs.Channels.{DomainChannels}
use Rattle.yalwythen_domain.specs.Ending.{ComesOfSteps, ComesTo, RanInDomain, last_after_came, response_of_run}
use Rattle.yalwythen_domain.specs.Written.{AreSteps}

-- of steps in which a walk finds no fault comes what their transaction comes to
pub comes : (kinds : List Kind) (kinds' : List Kind) (steps : List Step) (tally : Tally) (tag : Tag)
    (result : Result Ran RunError) (before : Map) (before' : Map) (after : Map)
    → kinds ≡ kinds' → before ≡ before' → walk (slice_get kinds) steps ≡ Fine tally
    → ComesTo (transaction before tag tally.channels steps) (kept_tag before tag tally.channels) tally.channels result
    before after
    → ComesOfSteps (walk (slice_get kinds') steps) tag steps result before' after
comes kinds kinds' steps tally tag result before before' after same_kinds same fine to =
    subst (λ w. ComesOfSteps w tag steps result before' after)
    (sym fine ∙ ap (λ (ks : List Kind). walk (slice_get ks) steps) same_kinds)
    (subst (λ (m : Map). ComesOfSteps (Fine tally) tag steps result m after) same to)

-- a seat had steps run, where its tag and the channels are those that are named
pub ran_in_domain : (tag : Tag) (tag' : Tag) (raw_steps : List RawStep) (steps : List Step) (came : Result Ran RunError)
    (now : DomainChannels) (before : DomainChannels) (after : DomainChannels)
    (old : Receipt) (new : Receipt) (response : CallResult) → tag' ≡ tag → now ≡ before → AreSteps raw_steps steps
    → ComesOfSteps (walk (slice_get now.kinds) steps) tag' steps came (chan_in now.held) (chan_in after.held)
    → after.kinds ≡ now.kinds
    → new ≡ last_after_came came old → response ≡ response_of_run came
    → RanInDomain tag raw_steps before after old new response
ran_in_domain tag tag' raw_steps steps came now before after old new response same_tag same are came_of kinds last
    answered =
    subst (λ (t : Tag). RanInDomain t raw_steps before after old new response) same_tag
    (subst (λ (b : DomainChannels). RanInDomain tag' raw_steps b after old new response) same
    (record {
      steps = steps;
      came = came;
      are = are;
      comes = came_of;
      kinds = kinds;
      last = last;
      answered = answered;
    }))

-- what comes of steps comes of them also by other names of the kinds, the channels and the result
pub comes_so : (kinds : List Kind) (kinds' : List Kind) (tag : Tag) (steps : List Step) (result : Result Ran RunError)
    (result' : Result Ran RunError) (before : Map) (before' : Map) (after : Map) (after' : Map)
    → kinds ≡ kinds' → result ≡ result' → before ≡ before' → after ≡ after'
    → ComesOfSteps (walk (slice_get kinds) steps) tag steps result before after
    → ComesOfSteps (walk (slice_get kinds') steps) tag steps result' before' after'
comes_so kinds kinds' tag steps result result' before before' after after' same_kinds same_result same_before same_after
    came =
    subst (λ (ks : List Kind). ComesOfSteps (walk (slice_get ks) steps) tag steps result' before' after') same_kinds
    (subst (λ (r : Result Ran RunError). ComesOfSteps (walk (slice_get kinds) steps) tag steps r before' after')
    same_result
    (subst (λ (m : Map). ComesOfSteps (walk (slice_get kinds) steps) tag steps result m after') same_before
    (subst (λ (m : Map). ComesOfSteps (walk (slice_get kinds) steps) tag steps result before m) same_after came)))

retried : (outcome : Ending) (tag : Tag) (declared : List ℕ) (cause : Cause) (before after : Map)
    → RanSettled tag declared outcome (Retry cause) before after → after ≡ before
retried (EndingKept state) tag declared cause before after ran = absurd ran
retried (Again why) tag declared cause before after ran = ran.1
retried (Aborted stop) tag declared cause before after ran = absurd ran

-- steps that were not kept leave the channels as they were
pub as_before : (walked : Walked) (tag : Tag) (steps : List Step) (result : Result Ran RunError) (before after : Map)
    → ComesOfSteps walked tag steps result before after → (response_of_run result).code ≢ 0 → after ≡ before
as_before (Faulty fault) tag steps result before after came failed = came.1
as_before (Fine tally) tag steps (Ok (Retry cause)) before after came failed =
    retried (transaction before tag tally.channels steps) (kept_tag before tag tally.channels) tally.channels cause
    before after came
as_before (Fine tally) tag steps (Ok (Kept receipt)) before after came failed = absurd (failed refl)
as_before (Fine tally) tag steps (Err (Stopped stop)) before after came failed = came.1
as_before (Fine tally) tag steps (Err (HaltedFaulty fault)) before after came failed = absurd came
