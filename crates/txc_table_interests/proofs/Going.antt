-- Steps that can't wait never retry.
use Rattle.std.proofs.Common.{◌≡◌, refl, sym, ◌∙◌, ap, subst, inl, inr, ◌⊎◌, ℕ, true, false, Option, Some, None}
use Rattle.std.proofs.Common.{is_some, List, [], ◌∷◌, map, Contains}
use Rattle.std.specs.List.{list_any}
use Rattle.std.proofs.lemmas.Bool.{and_parts, eqb-true, or_parts}
use Rattle.std.proofs.lemmas.Map.Views.{Contains-from_any}
use Rattle.txc_base.specs.declared.cause.Cause.{Cause}
use Rattle.txc_base.specs.declared.kind.Kind.{Kind}
use Rattle.txc_base.specs.declared.op.Op.{Op}
use Rattle.txc_base.specs.declared.tag.Tag.{Tag}
use Rattle.txc_base.specs.Op.{chan_of}
use Rattle.txc_base.specs.Operation.{Did, Replies, Waits, Stops, operate}
use Rattle.txc_table_wait.specs.declared.change.Interest.{Interest}
use Rattle.txc_txn_check.specs.declared.step.Step.{Step}
use Rattle.txc_txn_check.specs.declared.step.Step.TheOpen as Open
use Rattle.txc_txn_check.specs.declared.step.Step.TheVariants.{Do, Or, Retry, rolls-Do, rolls-Or, rolls-Retry}
use Rattle.txc_txn_check.specs.declared.step.Step.TheViews.{out-Step, out-roll-Step}
use Rattle.txc_txn_check.specs.Steps.{all_true, every, is_on}
use Rattle.txc_txn_check.proofs.Folds.{every-Do}
use Rattle.txc_txn_check.proofs.Induction.{by_steps}
use Rattle.txc_txn.proofs.Running.{step_in-Do}
use Rattle.txc_txn.specs.Transaction.{State, Ending, Kept, Again, Aborted, after_did, step_in, steps_in, and_then}
use Rattle.txc_table_interests.specs.Missed.{KindsAre}
use Rattle.txc_table_interests.specs.Interests.{awaited, can_wait, can_wait_layer}
use Rattle.txc_table_interests.proofs.Keeping.{SameKinds, keeps}
use Rattle.txc_table_interests.proofs.Waiting.{only_those_wait}

-- a step, opened
pub out-Do : (op : Op) → out-Step (Do op) ≡ Open.Do op
out-Do op = ap out-Step (sym (rolls-Do op)) ∙ out-roll-Step (Open.Do op)

pub out-Or : (bs : List (List Step)) → out-Step (Or bs) ≡ Open.Or bs
out-Or bs = ap out-Step (sym (rolls-Or bs)) ∙ out-roll-Step (Open.Or bs)

pub out-Retry : out-Step Retry ≡ Open.Retry
out-Retry = ap out-Step (sym rolls-Retry) ∙ out-roll-Step Open.Retry

-- an operation that makes a transaction retry waits
pub did_wait : (s : State) (chan : ℕ) (tag : Tag) (did : Did) (cause : Cause) → after_did s chan tag did ≡ Again cause
    → did ≡ Waits cause
did_wait s chan tag (Replies answer acts left) cause e = cc
did_wait s chan tag (Waits why) cause e = let is : why ≡ cause = cc in ap Waits is
did_wait s chan tag (Stops stop) cause e = cc

-- the channel of an operation that names a declared one
pub on_declared : (declared : List ℕ) (op : Op) → every (is_on declared) (Do op) ≡ true → Contains declared (chan_of op)
on_declared declared op on = Contains-from_any eqb-true (chan_of op) declared (sym (every-Do (is_on declared) op) ∙ on)

-- nothing is awaited
none_awaited : (o : Option Interest) → is_some o ≡ false → o ≡ None
none_awaited None e = refl
none_awaited (Some interest) e = cc

-- of two, one after another, the first retries, or the second after it
pub then_again : (o : Ending) (next : State → Ending) (cause : Cause) → and_then o next ≡ Again cause
    → (o ≡ Again cause) ⊎ ((s : State) × ((o ≡ Kept s) × (next s ≡ Again cause)))
then_again (Kept s) next cause e = inr (s, (refl, e))
then_again (Again why) next cause e = inl e
then_again (Aborted stop) next cause e = cc

-- after a step the channels have the kinds that they had
pub kinds_after : (kinds : ℕ → Option Kind) (declared : List ℕ) (step : Step) (tag : Tag) (s t : State)
    → KindsAre kinds declared s.chans → step_in tag step s ≡ Kept t
    → KindsAre kinds declared t.chans
kinds_after kinds declared step tag s t are is n on =
    let same : SameKinds s.chans (Kept t) = subst (SameKinds s.chans) is (keeps step tag s) in are n on
    ∙ ap Some (sym (same n))

module _ (kinds : ℕ → Option Kind) (declared : List ℕ) where
  -- a step that can't wait doesn't retry
  abbrev GoesOn : Step → Type 0
  GoesOn step = can_wait kinds step ≡ false → every (is_on declared) step ≡ true
      → (tag : Tag) (s : State) (cause : Cause) → KindsAre kinds declared s.chans
      → step_in tag step s ≡ Again cause → ⊥

  goes : (step : Step) → GoesOn step
  goes = by_steps GoesOn
      (λ op can on tag s cause are again.
      only_those_wait kinds (s.chans (chan_of op)).channel tag.seat s.last op cause
      (are (chan_of op) (on_declared declared op on))
      (none_awaited (awaited kinds op) (sym (ap (can_wait_layer kinds) (out-Do op)) ∙ can))
      (did_wait s (chan_of op) tag (operate (s.chans (chan_of op)).channel tag.seat s.last op) cause
      (sym (step_in-Do tag op s) ∙ again)))
      (λ bs each can on tag s cause are again. never (sym (ap (can_wait_layer kinds) (out-Or bs)) ∙ can))
      (λ can on tag s cause are again. never (sym (ap (can_wait_layer kinds) out-Retry) ∙ can))
    where
      never : true ≡ false → ⊥
      never e = cc

  -- .. and steps that can't wait don't
  pub go_on : (steps : List Step) → list_any (can_wait kinds) steps ≡ false
      → all_true (map (every (is_on declared)) steps) ≡ true
      → (tag : Tag) (s : State) (cause : Cause) → KindsAre kinds declared s.chans → steps_in tag steps s ≡ Again cause
      → ⊥
  go_on [] can on tag s cause are again = cc
  go_on (step ∷ steps) can on tag s cause are again =
      let cans = or_parts (can_wait kinds step) (list_any (can_wait kinds) steps) can in
      let ons = and_parts (every (is_on declared) step) (all_true (map (every (is_on declared)) steps)) on in
      elim (then_again (step_in tag step s) (steps_in tag steps) cause again) [
        | inl now ↦ goes step cans.0 ons.0 tag s cause are now
        | inr later ↦ go_on steps cans.1 ons.1 tag later.0 cause
            (kinds_after kinds declared step tag s later.0 are later.1.0) later.1.1
      ]
