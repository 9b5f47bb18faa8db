-- No change is missed that would let a transaction go on.
use Rattle.std.proofs.Common.{◌≡◌, refl, sym, ◌∙◌, ap, subst, inl, inr, ◌⊎◌, ℕ, Bool, true, false, ◌||◌, Option, Some}
use Rattle.std.proofs.Common.{None, unwrap_or, option_map, List, [], ◌∷◌, length, map, nat_le, Contains, if◌then◌else◌}
use Rattle.std.specs.List.{list_all, list_any}
use Rattle.std.specs.Option.{option_and_then}
use Rattle.std.proofs.lemmas.Bool.{and_parts, or_from, or_parts}
use Rattle.std.proofs.lemmas.Option.{cond_some, same_Some}
use Rattle.txc_base.specs.declared.cause.Cause.{Cause}
use Rattle.txc_base.specs.declared.cause.Cause.TheVariants.{Asked}
use Rattle.txc_base.specs.declared.entry.Entry.{Entry}
use Rattle.txc_base.specs.declared.kind.Kind.{Kind}
use Rattle.txc_base.specs.declared.op.Op.{Op}
use Rattle.txc_base.specs.declared.stop.Stop.TheVariants.{Worn}
use Rattle.txc_base.specs.declared.tag.Tag.{Tag}
use Rattle.txc_base.specs.Channel.{Channel}
use Rattle.txc_base.specs.Log.{after, state}
use Rattle.txc_base.specs.Op.{chan_of}
use Rattle.txc_base.specs.Operation.{Waits, operate}
use Rattle.txc_table_wait.specs.declared.change.Interest.{Interest}
use Rattle.txc_txn_check.specs.declared.step.Step.{Step}
use Rattle.txc_txn_check.specs.declared.step.Step.TheViews.{out-Step}
use Rattle.txc_txn_check.specs.Limits.{max_declared}
use Rattle.txc_txn_check.specs.Steps.{all_true, every, is_on}
use Rattle.txc_txn_check.proofs.Checking.{all_to}
use Rattle.txc_txn_check.proofs.Folds.{every-Or}
use Rattle.txc_txn_check.proofs.Induction.{by_steps}
use Rattle.txc_base_laws.proofs.Acts.{leads}
use Rattle.txc_base_laws.proofs.Truth.{started}
use Rattle.txc_txn.proofs.Running.{step_in-Do, step_in-Or}
use Rattle.txc_txn.specs.Maps.{Map}
use Rattle.txc_txn.specs.Run.{alternatives}
use Rattle.txc_txn.specs.Transaction.{Ending, Kept, Again, Aborted, after_did, op_in, step_in, steps_in, start}
use Rattle.txc_txn.specs.Transaction.{and_then}
use Rattle.txc_txn.specs.Transaction.{or_else, greatest, is_worn, kept_tag}
use Rattle.txc_table_interests.specs.Missed.{AllUnaffected, KindsAre, NoLostWakeup, is_awaited, names}
use Rattle.txc_table_interests.specs.Interests.{any_of_all, awaited, branch_interests, can_wait, few, first_awaited}
use Rattle.txc_table_interests.specs.Interests.{first_interests}
use Rattle.txc_table_interests.specs.Interests.{step_awaited, step_interests, with_interest}
use Rattle.txc_table_interests.proofs.Going.{did_wait, go_on, kinds_after, on_declared, out-Do, out-Or, out-Retry}
use Rattle.txc_table_interests.proofs.Going.{then_again}
use Rattle.txc_table_interests.proofs.Keeping.{act_keeps}
use Rattle.txc_table_interests.proofs.Same.{all_still}
use Rattle.txc_table_interests.proofs.Waiting.{still_waits}

-- what waits waits still after any entries that it doesn't await
waits_after : (kinds : ℕ → Option Kind) (seat : ℕ) (last : Option ℕ) (op : Op) (cause : Cause) (interest : Interest)
    → awaited kinds op ≡ Some interest
    → (entries : List Entry) (c c' : Channel) → kinds (chan_of op) ≡ Some c.kind → operate c seat last op ≡ Waits cause
    → state (Some c) entries ≡ Some c'
    → list_any (λ (e : Entry). is_awaited (interest ∷ []) (chan_of op) e.act) entries ≡ false
    → operate c' seat last op ≡ Waits cause
waits_after kinds seat last op cause interest awaits [] c c' kind waits is unaffected =
    ap (λ (x : Channel). operate x seat last op) (sym (same_Some c c' is)) ∙ waits
waits_after kinds seat last op cause interest awaits (entry ∷ entries) c c' kind waits is unaffected =
    let m = started (after c entry) entries c' is in
    let parts = or_parts (is_awaited (interest ∷ []) (chan_of op) entry.act)
    (list_any (λ (e : Entry). is_awaited (interest ∷ []) (chan_of op) e.act) entries) unaffected in
    let unnamed = (or_parts (names (chan_of op) entry.act interest) false parts.0).0 in
    waits_after kinds seat last op cause interest awaits entries m.0 c'
    (kind ∙ ap Some (sym (act_keeps c entry.tag.seat entry.act m.0 (leads c entry.tag.seat entry.act m.0 m.1.0))))
    (still_waits kinds c m.0 seat last op cause interest entry kind awaits waits m.1.0 unnamed) m.1.1 parts.1

-- what none of these interests names isn't named by the first, nor by the others
unwished_parts : (interest : Interest) (interests : List Interest) (n : ℕ) (entries : List Entry)
    → list_any (λ (e : Entry). is_awaited (interest ∷ interests) n e.act) entries ≡ false
    → (list_any (λ (e : Entry). is_awaited (interest ∷ []) n e.act) entries ≡ false)
    × (list_any (λ (e : Entry). is_awaited interests n e.act) entries ≡ false)
unwished_parts interest interests n [] h = (refl, refl)
unwished_parts interest interests n (entry ∷ entries) h =
    let parts = or_parts (is_awaited (interest ∷ interests) n entry.act)
    (list_any (λ (e : Entry). is_awaited (interest ∷ interests) n e.act) entries) h in
    let here = or_parts (names n entry.act interest) (is_awaited interests n entry.act) parts.0 in
    let rest = unwished_parts interest interests n entries parts.1 in
    (or_from _ _ (or_from _ _ here.0 refl) rest.0, or_from _ _ here.1 rest.1)

first_unwished : (interest : Interest) (interests : List Interest) (declared : List ℕ) (m m' : Map)
    → AllUnaffected (interest ∷ interests) declared m m' → AllUnaffected (interest ∷ []) declared m m'
first_unwished interest interests declared m m' all n on =
    let u = all n on in record {
      entries = u.entries;
      lawful = u.lawful;
      unaffected = (unwished_parts interest interests n u.entries u.unaffected).0;
    }

others_unwished : (interest : Interest) (interests : List Interest) (declared : List ℕ) (m m' : Map)
    → AllUnaffected (interest ∷ interests) declared m m' → AllUnaffected interests declared m m'
others_unwished interest interests declared m m' all n on =
    let u = all n on in record {
      entries = u.entries;
      lawful = u.lawful;
      unaffected = (unwished_parts interest interests n u.entries u.unaffected).1;
    }

-- there is something unless a test holds
unless : {X : Type 0} (b : Bool) (o : Option X) (x : X) → (if b then None else o) ≡ Some x → (b ≡ false) × (o ≡ Some x)
unless true o x e = cc
unless false o x e = (refl, e)

-- the one interest of one
one_part : (o : Option Interest) (interests : List Interest) → option_map (λ w. w ∷ []) o ≡ Some interests
    → (interest : Interest)
    × ((o ≡ Some interest) × ((interest ∷ []) ≡ interests))
one_part None interests e = cc
one_part (Some interest) interests e = (interest, (refl, same_Some (interest ∷ []) interests e))

-- an interest and the others
with_parts : (o : Option Interest) (os : Option (List Interest)) (interests : List Interest)
    → with_interest o os ≡ Some interests
    → (interest : Interest)
    × ((rest : List Interest) × ((o ≡ Some interest) × ((os ≡ Some rest) × ((interest ∷ rest) ≡ interests))))
with_parts None os interests e = cc
with_parts (Some interest) None interests e = cc
with_parts (Some interest) (Some rest) interests e =
    (interest, (rest, (refl, (refl, same_Some (interest ∷ rest) interests e))))

-- of two, one or another, both retry
else_again : (o : Ending) (other : Cause → Ending) (cause : Cause) → or_else o other ≡ Again cause → (why : Cause)
    × ((o ≡ Again why) × (other why ≡ Again cause))
else_again (Kept s) other cause e = cc
else_again (Again why) other cause e = (why, (refl, e))
else_again (Aborted stop) other cause e = cc

module _ (kinds : ℕ → Option Kind) (declared : List ℕ) (m m' : Map) (a b : Tag) (seats : a.seat ≡ b.seat)
    (are : KindsAre kinds declared m) where
  -- an operation that had to wait has to still
  op_still : (op : Op) (interest : Interest) (cause : Cause) → Contains declared (chan_of op)
      → awaited kinds op ≡ Some interest
      → AllUnaffected (interest ∷ []) declared m m'
      → op_in a op (start m) ≡ Again cause → op_in b op (start m') ≡ Again cause
  op_still op interest cause on awaits all again =
      let u = all (chan_of op) on in
      let waits = did_wait (start m) (chan_of op) a (operate (m (chan_of op)).channel a.seat None op) cause again in
      let now = waits_after kinds a.seat None op cause interest awaits u.entries (m (chan_of op)).channel
      (m' (chan_of op)).channel (are (chan_of op) on) waits u.lawful u.unaffected in
      ap (after_did (start m') (chan_of op) b) (ap (λ k. operate (m' (chan_of op)).channel k None op) (sym seats) ∙ now)

  -- a step that is an operation
  abbrev StepStill : Step → Type 0
  StepStill step = (interest : Interest) → step_awaited kinds (out-Step step) ≡ Some interest
      → every (is_on declared) step ≡ true
      → AllUnaffected (interest ∷ []) declared m m'
      → (cause : Cause) → step_in a step (start m) ≡ Again cause → step_in b step (start m') ≡ Again cause

  step_still : (step : Step) → StepStill step
  step_still = by_steps StepStill
      (λ op interest awaits on all cause again. step_in-Do b op (start m')
      ∙ op_still op interest cause (on_declared declared op on) (sym (ap (step_awaited kinds) (out-Do op)) ∙ awaits) all
      (sym (step_in-Do a op (start m)) ∙ again))
      (λ bs each interest awaits on all cause again.
      absurd (nothing interest (sym (ap (step_awaited kinds) (out-Or bs)) ∙ awaits)))
      (λ interest awaits on all cause again. absurd
      (nothing interest (sym (ap (step_awaited kinds) out-Retry) ∙ awaits)))
    where
      nothing : (interest : Interest) → None ≡ Some interest → ⊥
      nothing interest e = cc

  -- a branch of which the first step alone can wait
  branch_still : (branch : List Step) (interest : Interest) → first_awaited kinds branch ≡ Some interest
      → all_true (map (every (is_on declared)) branch) ≡ true
      → AllUnaffected (interest ∷ []) declared m m' → (cause : Cause) → steps_in a branch (start m) ≡ Again cause
      → steps_in b branch (start m') ≡ Again cause
  branch_still [] interest awaits on all cause again = cc
  branch_still (step ∷ steps) interest awaits on all cause again =
      let first = unless (list_any (can_wait kinds) steps) (step_awaited kinds (out-Step step)) interest awaits in
      let ons = and_parts (every (is_on declared) step) (all_true (map (every (is_on declared)) steps)) on in
      elim (then_again (step_in a step (start m)) (steps_in a steps) cause again) [
        | inl now ↦ ap (λ o. and_then o (steps_in b steps)) (step_still step interest first.1 ons.0 all cause now)
        | inr later ↦ absurd (go_on kinds declared steps first.0 ons.1 a later.0 cause
            (kinds_after kinds declared step a (start m) later.0 are later.1.0) later.1.1)
      ]

  -- branches of which the first step of each alone can wait
  branches_still : (bs : List (List Step)) (interests : List Interest) → branch_interests kinds bs ≡ Some interests
      → list_all all_true (map (map (every (is_on declared))) bs) ≡ true
      → AllUnaffected interests declared m m' → (why cause : Cause) → alternatives a why bs (start m) ≡ Again cause
      → alternatives b why bs (start m') ≡ Again cause
  branches_still [] interests are_wished on all why cause again = let is : why ≡ cause = cc again in ap Again is
  branches_still (x ∷ xs) interests are_wished on all why cause again =
      let w = with_parts (first_awaited kinds x) (branch_interests kinds xs) interests are_wished in
      let ons = and_parts (all_true (map (every (is_on declared)) x))
      (list_all all_true (map (map (every (is_on declared))) xs)) on in
      let both : AllUnaffected (w.0 ∷ w.1.0) declared m m' = subst (λ ws. AllUnaffected ws declared m m')
      (sym w.1.1.1.1)
      all in
      let e = else_again (steps_in a x (start m)) (λ c. alternatives a c xs (start m)) cause again in
      ap (λ o. or_else o (λ c. alternatives b c xs (start m')))
      (branch_still x w.0 w.1.1.0 ons.0 (first_unwished w.0 w.1.0 declared m m' both) e.0 e.1.0)
      ∙ branches_still xs w.1.0 w.1.1.1.0 ons.1 (others_unwished w.0 w.1.0 declared m m' both) e.0 cause e.1.1

  -- a first step that is told what it awaits
  abbrev FirstStill : Step → Type 0
  FirstStill step = (interests : List Interest) → step_interests kinds (out-Step step) ≡ Some interests
      → every (is_on declared) step ≡ true → AllUnaffected interests declared m m'
      → (cause : Cause) → step_in a step (start m) ≡ Again cause → step_in b step (start m') ≡ Again cause

  first_still : (step : Step) → FirstStill step
  first_still = by_steps FirstStill
      (λ op interests are_wished on all cause again.
      let w = one_part (awaited kinds op) interests (sym (ap (step_interests kinds) (out-Do op)) ∙ are_wished) in
      step_in-Do b op (start m')
      ∙ op_still op w.0 cause (on_declared declared op on) w.1.0
      (subst (λ ws. AllUnaffected ws declared m m') (sym w.1.1) all) (sym (step_in-Do a op (start m)) ∙ again))
      (λ bs each interests are_wished on all cause again.
      let w = few_of (branch_interests kinds bs) interests (sym (ap (step_interests kinds) (out-Or bs)) ∙ are_wished) in
      step_in-Or b bs (start m')
      ∙ branches_still bs interests w (sym (every-Or (is_on declared) bs) ∙ on) all Asked cause
      (sym (step_in-Or a bs (start m)) ∙ again))
      (λ interests are_wished on all cause again.
      absurd (nothing interests (sym (ap (step_interests kinds) out-Retry) ∙ are_wished)))
    where
      nothing : (interests : List Interest) → None ≡ Some interests → ⊥
      nothing interests e = cc

      few_of : (o : Option (List Interest)) (interests : List Interest) → option_and_then few o ≡ Some interests
          → o ≡ Some interests
      few_of None interests e = e
      few_of (Some ws) interests e = ap Some (cond_some (nat_le (length ws) max_declared) ws interests e).1

  -- steps of which the first alone can wait
  firsts_still : (steps : List Step) (interests : List Interest) → first_interests kinds steps ≡ Some interests
      → all_true (map (every (is_on declared)) steps) ≡ true
      → AllUnaffected interests declared m m' → (cause : Cause) → steps_in a steps (start m) ≡ Again cause
      → steps_in b steps (start m') ≡ Again cause
  firsts_still [] interests are_wished on all cause again = cc
  firsts_still (step ∷ steps) interests are_wished on all cause again =
      let first = unless (list_any (can_wait kinds) steps)
      (step_interests kinds (out-Step step)) interests are_wished in
      let ons = and_parts (every (is_on declared) step) (all_true (map (every (is_on declared)) steps)) on in
      elim (then_again (step_in a step (start m)) (steps_in a steps) cause again) [
        | inl now ↦ ap (λ o. and_then o (steps_in b steps)) (first_still step interests first.1 ons.0 all cause now)
        | inr later ↦ absurd (go_on kinds declared steps first.0 ons.1 a later.0 cause
            (kinds_after kinds declared step a (start m) later.0 are later.1.0) later.1.1)
      ]

  -- steps, whatever their interests
  steps_still : (steps : List Step) (o : Option (List Interest)) → first_interests kinds steps ≡ o
      → all_true (map (every (is_on declared)) steps) ≡ true
      → AllUnaffected (unwrap_or o (any_of_all declared)) declared m m' → (cause : Cause)
      → steps_in a steps (start m) ≡ Again cause → steps_in b steps (start m') ≡ Again cause
  steps_still steps (Some interests) is on all cause again = firsts_still steps interests is on all cause again
  steps_still steps None is on all cause again = all_still declared m m' a b seats steps cause on all again

-- what has to be tried again isn't worn
unworn : (worn : Bool) (o : Ending) (cause : Cause) → (if worn then Aborted Worn else o) ≡ Again cause → o ≡ Again cause
unworn true o cause e = cc
unworn false o cause e = e

-- .. or is
again_or_worn : (worn : Bool) (o : Ending) (cause : Cause) → o ≡ Again cause
    → ((if worn then Aborted Worn else o) ≡ Again cause) ⊎ ((if worn then Aborted Worn else o) ≡ Aborted Worn)
again_or_worn true o cause e = inr refl
again_or_worn false o cause e = inl e

-- the law
pub no_lost_wakeup : NoLostWakeup
no_lost_wakeup kinds m m' tag declared steps cause named are again all =
    let before = unworn (is_worn tag.serial || is_worn (greatest m tag.stamp declared))
    (steps_in (kept_tag m tag declared) steps (start m)) cause again in
    let now = steps_still kinds declared m m' (kept_tag m tag declared) (kept_tag m' tag declared) refl are steps
    (first_interests kinds steps) refl (all_to (is_on declared) steps named) all cause before in
    again_or_worn (is_worn tag.serial || is_worn (greatest m' tag.stamp declared))
    (steps_in (kept_tag m' tag declared) steps (start m')) cause now
