-- Where no declared channel changed, a transaction ends as before.
use Rattle.std.proofs.Common.{◌≡◌, refl, sym, ◌∙◌, ap, subst, inl, inr, ℕ, Bool, true, false, ◌&&◌, ◌||◌, Some, List}
use Rattle.std.proofs.Common.{[], ◌∷◌, map, Contains, if◌then◌else◌}
use Rattle.std.specs.List.{list_all, list_any}
use Rattle.std.proofs.lemmas.Bool.{and_parts, both_ways, eqb-true, or_parts}
use Rattle.std.proofs.lemmas.Bool.Decides.{eqb_tells}
use Rattle.std.proofs.lemmas.Map.Views.{Contains-from_any}
use Rattle.std.proofs.lemmas.Option.{same_Some}
use Rattle.txc_base.specs.declared.act.Act.{Act}
use Rattle.txc_base.specs.declared.cause.Cause.{Cause}
use Rattle.txc_base.specs.declared.cause.Cause.TheVariants.{Asked}
use Rattle.txc_base.specs.declared.entry.Entry.{Entry}
use Rattle.txc_base.specs.declared.op.Op.{Op}
use Rattle.txc_base.specs.declared.tag.Tag.{Tag}
use Rattle.txc_base.specs.Channel.{Channel}
use Rattle.txc_base.specs.Log.{state}
use Rattle.txc_base.specs.Op.{chan_of}
use Rattle.txc_base.specs.Operation.{Did, Replies, Waits, Stops, operate}
use Rattle.txc_base.specs.Reply.{last_read_after}
use Rattle.txc_chan.specs.Logged.{grown}
use Rattle.txc_txn_check.specs.declared.step.Step.{Step}
use Rattle.txc_txn_check.specs.declared.step.Step.TheVariants.{Do, Or, Retry}
use Rattle.txc_txn_check.specs.Steps.{all_true, every, is_on}
use Rattle.txc_txn_check.proofs.Containing.{contains_none, contains_tail}
use Rattle.txc_txn_check.proofs.Folds.{every-Do, every-Or}
use Rattle.txc_txn_check.proofs.Induction.{EachStep, EachBranch, each_of, by_steps}
use Rattle.txc_txn.proofs.Running.{step_in-Do, step_in-Or, step_in-Retry}
use Rattle.txc_txn.specs.Maps.{Map}
use Rattle.txc_txn.specs.Run.{alternatives}
use Rattle.txc_txn.specs.Transaction.{State, Ending, Kept, Again, Aborted, after_did, op_in, step_in, steps_in, start}
use Rattle.txc_txn.specs.Transaction.{and_then, or_else}
use Rattle.txc_table_interests.specs.Missed.{AllUnaffected, is_awaited, names}
use Rattle.txc_table_interests.specs.Interests.{any_of, any_of_all}

-- two states are alike in what was read last and in the declared channels
record Alike (declared : List ℕ) (s t : State) : Type 0 where
  last : s.last ≡ t.last
  chans : (n : ℕ) → Contains declared n → (s.chans n).channel ≡ (t.chans n).channel

-- two ends are alike
abbrev AlikeEnds : List ℕ → Ending → Ending → Type 0
AlikeEnds declared (Kept s) (Kept t) = Alike declared s t
AlikeEnds declared (Again cause) (Again why) = cause ≡ why
AlikeEnds declared (Aborted stop) (Aborted other) = Unit {0}
AlikeEnds declared o p = ⊥

-- .. and so are what equals them
equal_ends : (declared : List ℕ) (o o' p p' : Ending) → o ≡ o' → p ≡ p' → AlikeEnds declared o' p'
    → AlikeEnds declared o p
equal_ends declared o o' p p' e f h =
    subst (λ x. AlikeEnds declared x p) (sym e) (subst (λ x. AlikeEnds declared o' x) (sym f) h)

-- the same was done to the same channel
did_alike : (declared : List ℕ) (s t : State) (chan : ℕ) (a b : Tag) (did : Did) → Alike declared s t
    → AlikeEnds declared (after_did s chan a did) (after_did t chan b did)
did_alike declared s t chan a b (Replies answer acts left) h = record {
  last = ap (last_read_after answer) h.last;
  chans = λ n on.
      elim (eqb_tells n chan) [
        | inl k ↦ ap (λ (x : Bool). (if x then grown (s.chans chan) a acts left else s.chans n).channel) k.0
            ∙ sym (ap (λ (x : Bool). (if x then grown (t.chans chan) b acts left else t.chans n).channel) k.0)
        | inr k ↦ ap (λ (x : Bool). (if x then grown (s.chans chan) a acts left else s.chans n).channel) k.0
            ∙ h.chans n on
            ∙ sym (ap (λ (x : Bool). (if x then grown (t.chans chan) b acts left else t.chans n).channel) k.0)
      ];
}
did_alike declared s t chan a b (Waits cause) h = refl
did_alike declared s t chan a b (Stops stop) h = tt

-- one after another
then_alike : (declared : List ℕ) (o p : Ending) (next also : State → Ending) → AlikeEnds declared o p
    → ((s t : State) → Alike declared s t → AlikeEnds declared (next s) (also t))
    → AlikeEnds declared (and_then o next) (and_then p also)
then_alike declared (Kept s) (Kept t) next also h k = k s t h
then_alike declared (Again cause) (Again why) next also h k = h
then_alike declared (Aborted stop) (Aborted other) next also h k = tt
then_alike declared o p next also h k = absurd h

-- one or another
else_alike : (declared : List ℕ) (o p : Ending) (next also : Cause → Ending) → AlikeEnds declared o p
    → ((c d : Cause) → c ≡ d → AlikeEnds declared (next c) (also d))
    → AlikeEnds declared (or_else o next) (or_else p also)
else_alike declared (Kept s) (Kept t) next also h k = h
else_alike declared (Again cause) (Again why) next also h k = k cause why h
else_alike declared (Aborted stop) (Aborted other) next also h k = tt
else_alike declared o p next also h k = absurd h

-- what ends alike ends with a retry for the same cause
alike_again : (declared : List ℕ) (o p : Ending) (cause : Cause) → AlikeEnds declared o p → o ≡ Again cause
    → p ≡ Again cause
alike_again declared (Kept s) (Kept t) cause h e = cc
alike_again declared (Again why) (Again other) cause h e = ap Again (sym h) ∙ e
alike_again declared (Aborted stop) (Aborted other) cause h e = cc
alike_again declared o p cause h e = absurd h

module _ (declared : List ℕ) (a b : Tag) (seats : a.seat ≡ b.seat) where
  -- an operation on a declared channel
  op_alike : (op : Op) (s t : State) → Contains declared (chan_of op) → Alike declared s t
      → AlikeEnds declared (op_in a op s) (op_in b op t)
  op_alike op s t on h =
      let same : operate (s.chans (chan_of op)).channel a.seat s.last op ≡ operate (t.chans (chan_of op)).channel b.seat
      t.last op =
      λ j. operate (h.chans (chan_of op) on j) (seats j) (h.last j) op in
      subst (λ d. AlikeEnds declared (op_in a op s) (after_did t (chan_of op) b d)) same
      (did_alike declared s t (chan_of op) a b (operate (s.chans (chan_of op)).channel a.seat s.last op) h)

  -- a step on declared channels
  abbrev EndsAlike : Step → Type 0
  EndsAlike step = every (is_on declared) step ≡ true → (s t : State) → Alike declared s t
      → AlikeEnds declared (step_in a step s) (step_in b step t)

  steps_alike : (steps : List Step) → EachStep EndsAlike steps → all_true (map (every (is_on declared)) steps) ≡ true
      → (s t : State) → Alike declared s t → AlikeEnds declared (steps_in a steps s) (steps_in b steps t)
  steps_alike [] each on s t h = h
  steps_alike (step ∷ steps) each on s t h =
      let parts = and_parts (every (is_on declared) step) (all_true (map (every (is_on declared)) steps)) on in
      then_alike declared (step_in a step s) (step_in b step t) (steps_in a steps) (steps_in b steps)
      (each.0 parts.0 s t h)
      (λ s' t' h'. steps_alike steps each.1 parts.1 s' t' h')

  branches_alike : (bs : List (List Step)) → EachBranch EndsAlike bs
      → list_all all_true (map (map (every (is_on declared))) bs) ≡ true
      → (c d : Cause) → c ≡ d → (s t : State) → Alike declared s t
      → AlikeEnds declared (alternatives a c bs s) (alternatives b d bs t)
  branches_alike [] each on c d why s t h = why
  branches_alike (x ∷ xs) each on c d why s t h =
      let parts = and_parts (all_true (map (every (is_on declared)) x))
      (list_all all_true (map (map (every (is_on declared))) xs)) on in
      else_alike declared (steps_in a x s) (steps_in b x t) (λ w. alternatives a w xs s) (λ w. alternatives b w xs t)
      (steps_alike x each.0 parts.0 s t h)
      (λ c' d' why'. branches_alike xs each.1 parts.1 c' d' why' s t h)

  alike : (step : Step) → EndsAlike step
  alike = by_steps EndsAlike
      (λ op on s t h. equal_ends declared (step_in a (Do op) s) (op_in a op s) (step_in b (Do op) t) (op_in b op t)
      (step_in-Do a op s) (step_in-Do b op t)
      (op_alike op s t (Contains-from_any eqb-true (chan_of op) declared (sym (every-Do (is_on declared) op) ∙ on)) h))
      (λ bs each on s t h. equal_ends declared (step_in a (Or bs) s) (alternatives a Asked bs s) (step_in b (Or bs) t)
      (alternatives b Asked bs t) (step_in-Or a bs s) (step_in-Or b bs t)
      (branches_alike bs each (sym (every-Or (is_on declared) bs) ∙ on) Asked Asked refl s t h))
      (λ on s t h. equal_ends declared (step_in a Retry s) (Again Asked) (step_in b Retry t) (Again Asked)
      (step_in-Retry a s) (step_in-Retry b t) refl)

-- where any change of a declared channel is of interest, so is each
any_is_wished : (declared : List ℕ) (n : ℕ) (a : Act) → Contains declared n
    → is_awaited (any_of_all declared) n a ≡ true
any_is_wished [] n a on = absurd (contains_none n on)
any_is_wished (d ∷ ds) n a on =
    elim (eqb_tells d n) [
      | inl t ↦ ap (λ (x : Bool). (x && true) || is_awaited (any_of_all ds) n a) t.0
      | inr t ↦ second_holds (names n a (any_of d)) (is_awaited (any_of_all ds) n a)
          (any_is_wished ds n a (contains_tail n d ds (λ e. t.1 (sym e)) on))
    ]
  where
    second_holds : (x y : Bool) → y ≡ true → (x || y) ≡ true
    second_holds true y e = refl
    second_holds false y e = e

-- .. so nothing came to one to which nothing came that was of interest
nothing_came : (declared : List ℕ) (n : ℕ) (c c' : Channel) (entries : List Entry) → Contains declared n
    → state (Some c) entries ≡ Some c'
    → list_any (λ (e : Entry). is_awaited (any_of_all declared) n e.act) entries ≡ false → c ≡ c'
nothing_came declared n c c' [] on is unaffected = same_Some c c' is
nothing_came declared n c c' (entry ∷ entries) on is unaffected =
    absurd (both_ways (is_awaited (any_of_all declared) n entry.act)
    (or_parts (is_awaited (any_of_all declared) n entry.act)
    (list_any (λ (e : Entry). is_awaited (any_of_all declared) n e.act) entries) unaffected).0
    (any_is_wished declared n entry.act on))

-- a seat that has an interest in any change has to try again still where nothing came
pub all_still : (declared : List ℕ) (m m' : Map) (a b : Tag) → a.seat ≡ b.seat → (steps : List Step) (cause : Cause)
    → all_true (map (every (is_on declared)) steps) ≡ true
    → AllUnaffected (any_of_all declared) declared m m' → steps_in a steps (start m) ≡ Again cause
    → steps_in b steps (start m') ≡ Again cause
all_still declared m m' a b seats steps cause on all again =
    alike_again declared (steps_in a steps (start m)) (steps_in b steps (start m')) cause
    (steps_alike declared a b seats steps (each_of (EndsAlike declared a b seats) (alike declared a b seats) steps) on
    (start m) (start m')
    (record {
      last = refl;
      chans = λ n has. let u = all n has in
          nothing_came declared n (m n).channel (m' n).channel u.entries has u.lawful u.unaffected;
    }))
    again
