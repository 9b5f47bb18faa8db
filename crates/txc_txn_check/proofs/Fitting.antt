-- Steps fit a map as they fit the kinds of its channels.
use Rattle.std.proofs.Common.{◌≡◌, refl, sym, ◌∙◌, ap, inl, inr, ◌⊎◌, ⊎_elim, ℕ, zero, suc, ◌<◌, Bool, true, false}
use Rattle.std.proofs.Common.{◌||◌, Option, Some, None, is_some, List, [], ◌∷◌, map, length, slice_get, arith, IsTrue}
use Rattle.std.proofs.Common.{Contains}
use Rattle.std.specs.List.{list_all, list_any}
use Rattle.std.proofs.lemmas.Bool.{eqb-true}
use Rattle.std.proofs.lemmas.List.Folds.{list_all-map}
use Rattle.std.proofs.lemmas.Map.Views.{Contains-from_any}
use Rattle.txc_base.specs.declared.kind.Kind.{Kind}
use Rattle.txc_base.specs.declared.op.Op.{Op}
use Rattle.txc_base.specs.Op.{chan_of}
use Rattle.txc_txn_check.specs.declared.step.Step.{Step}
use Rattle.txc_txn_check.specs.declared.step.Step.TheVariants.{Or, Retry}
use Rattle.txc_txn_check.specs.Limits.{mentions, one_true, mentioned_in}
use Rattle.txc_txn_check.specs.Steps.{Fits, NamesOnly, all_true, every, is_fit, is_on, supported_there, fits_in}
use Rattle.txc_txn_check.proofs.Folds.{and_left, and_right, every-Do, every-Or, every-Retry}
use Rattle.txc_txn_check.proofs.Induction.{EachStep, EachBranch, each_of, by_steps}
use Rattle.txc_txn_check.proofs.Accepted.{both}
use Rattle.txc_txn_check.proofs.Checking.{all_to, mentions-Do, mentions-Or, mentions-Retry}

-- a step that names these channels alone fits kinds that agree on them
abbrev Carries : (ℕ → Option Kind) → (ℕ → Option Kind) → List ℕ → Step → Type 0
Carries kinds other declared step = every (is_on declared) step ≡ true → every (is_fit kinds) step ≡ true
    → every (is_fit other) step ≡ true

steps_carry : (kinds other : ℕ → Option Kind) (declared : List ℕ) (steps : List Step)
    → EachStep (Carries kinds other declared) steps
    → all_true (map (every (is_on declared)) steps) ≡ true → all_true (map (every (is_fit kinds)) steps) ≡ true
    → all_true (map (every (is_fit other)) steps) ≡ true
steps_carry kinds other declared [] each h k = refl
steps_carry kinds other declared (step ∷ steps) each h k =
    both (every (is_fit other) step) (all_true (map (every (is_fit other)) steps))
    (each.0 (and_left (every (is_on declared) step) (all_true (map (every (is_on declared)) steps)) h)
    (and_left (every (is_fit kinds) step) (all_true (map (every (is_fit kinds)) steps)) k))
    (steps_carry kinds other declared steps each.1
    (and_right (every (is_on declared) step) (all_true (map (every (is_on declared)) steps)) h)
    (and_right (every (is_fit kinds) step) (all_true (map (every (is_fit kinds)) steps)) k))

branches_carry : (kinds other : ℕ → Option Kind) (declared : List ℕ) (bs : List (List Step))
    → EachBranch (Carries kinds other declared) bs
    → list_all all_true (map (map (every (is_on declared))) bs) ≡ true
    → list_all all_true (map (map (every (is_fit kinds))) bs) ≡ true
    → list_all all_true (map (map (every (is_fit other))) bs) ≡ true
branches_carry kinds other declared [] each h k = refl
branches_carry kinds other declared (b ∷ bs) each h k =
    both (all_true (map (every (is_fit other)) b)) (list_all all_true (map (map (every (is_fit other))) bs))
    (steps_carry kinds other declared b each.0
    (and_left (all_true (map (every (is_on declared)) b)) (list_all all_true (map (map (every (is_on declared))) bs)) h)
    (and_left (all_true (map (every (is_fit kinds)) b)) (list_all all_true (map (map (every (is_fit kinds))) bs)) k))
    (branches_carry kinds other declared bs each.1
    (and_right (all_true (map (every (is_on declared)) b)) (list_all all_true (map (map (every (is_on declared))) bs))
    h)
    (and_right (all_true (map (every (is_fit kinds)) b)) (list_all all_true (map (map (every (is_fit kinds))) bs)) k))

carries : (kinds other : ℕ → Option Kind) (declared : List ℕ) → ((n : ℕ) → Contains declared n → other n ≡ kinds n)
    → (step : Step) → Carries kinds other declared step
carries kinds other declared agree = by_steps (Carries kinds other declared)
    (λ op h k. every-Do (is_fit other) op
    ∙ ap (λ there. supported_there there op)
    (agree (chan_of op) (Contains-from_any eqb-true (chan_of op) declared (sym (every-Do (is_on declared) op) ∙ h)))
    ∙ sym (every-Do (is_fit kinds) op) ∙ k)
    (λ bs each h k. every-Or (is_fit other) bs
    ∙ branches_carry kinds other declared bs each (sym (every-Or (is_on declared) bs) ∙ h)
    (sym (every-Or (is_fit kinds) bs) ∙ k))
    (λ h k. retry h k)
  where
    retry : every (is_on declared) Retry ≡ true → every (is_fit kinds) Retry ≡ true → every (is_fit other) Retry ≡ true
    retry h k = every-Retry (is_fit other)

-- steps that name these channels alone fit kinds that agree on them
pub fits_other : (kinds other : ℕ → Option Kind) (declared : List ℕ) (steps : List Step)
    → ((n : ℕ) → Contains declared n → other n ≡ kinds n)
    → NamesOnly declared steps → Fits kinds steps → Fits other steps
fits_other kinds other declared steps agree names fits = λ k d lt. carries kinds other declared agree _ (names k d lt)
    (fits k d lt)

-- the branches of an alternative, each by itself
pub every_branch : (kinds : ℕ → Option Kind) (step : Step) (bs now : List (List Step)) (answer : Bool) → step ≡ Or bs
    → now ≡ bs
    → answer ≡ list_all (fits_in kinds) now → answer ≡ every (is_fit kinds) step
every_branch kinds step bs now answer is same value =
    value ∙ ap (list_all (fits_in kinds)) same ∙ sym (list_all-map all_true (map (every (is_fit kinds))) bs)
    ∙ sym (every-Or (is_fit kinds) bs) ∙ sym (ap (every (is_fit kinds)) is)

-- a channel that a fitting step is on is there
abbrev IsThere : (ℕ → Option Kind) → ℕ → Step → Type 0
IsThere kinds n step = mentions n step ≡ true → every (is_fit kinds) step ≡ true → is_some (kinds n) ≡ true

or_cases : (x y : Bool) → x || y ≡ true → (x ≡ true) ⊎ (y ≡ true)
or_cases true y h = inl refl
or_cases false y h = inr h

steps_there : (kinds : ℕ → Option Kind) (n : ℕ) (steps : List Step) → EachStep (IsThere kinds n) steps
    → one_true (map (mentions n) steps) ≡ true → all_true (map (every (is_fit kinds)) steps) ≡ true
    → is_some (kinds n) ≡ true
steps_there kinds n [] each h k = cc
steps_there kinds n (step ∷ steps) each h k =
    ⊎_elim
    (λ here. each.0 here (and_left (every (is_fit kinds) step) (all_true (map (every (is_fit kinds)) steps)) k))
    (λ rest. steps_there kinds n steps each.1 rest
    (and_right (every (is_fit kinds) step) (all_true (map (every (is_fit kinds)) steps)) k))
    (or_cases (mentions n step) (one_true (map (mentions n) steps)) h)

branches_there : (kinds : ℕ → Option Kind) (n : ℕ) (bs : List (List Step)) → EachBranch (IsThere kinds n) bs
    → list_any one_true (map (map (mentions n)) bs) ≡ true → list_all all_true (map (map (every (is_fit kinds))) bs)
    ≡ true → is_some (kinds n) ≡ true
branches_there kinds n [] each h k = cc
branches_there kinds n (b ∷ bs) each h k =
    ⊎_elim
    (λ here. steps_there kinds n b each.0 here
    (and_left (all_true (map (every (is_fit kinds)) b)) (list_all all_true (map (map (every (is_fit kinds))) bs))
    k))
    (λ rest. branches_there kinds n bs each.1 rest
    (and_right (all_true (map (every (is_fit kinds)) b)) (list_all all_true (map (map (every (is_fit kinds))) bs))
    k))
    (or_cases (one_true (map (mentions n) b)) (list_any one_true (map (map (mentions n)) bs)) h)

some_there : (there : Option Kind) (op : Op) → supported_there there op ≡ true → is_some there ≡ true
some_there None op h = cc
some_there (Some kind) op h = refl

is_there : (kinds : ℕ → Option Kind) (n : ℕ) (step : Step) → IsThere kinds n step
is_there kinds n = by_steps (IsThere kinds n)
    (λ op h k.
    let at : chan_of op ≡ n = eqb-true (chan_of op) n (sym (mentions-Do n op) ∙ h) in
    ap (λ m. is_some (kinds m)) (sym at) ∙ some_there (kinds (chan_of op)) op (sym (every-Do (is_fit kinds) op) ∙ k))
    (λ bs each h k. branches_there kinds n bs each (sym (mentions-Or n bs) ∙ h) (sym (every-Or (is_fit kinds) bs) ∙ k))
    (λ h k. none (sym (mentions-Retry n) ∙ h))
  where
    none : false ≡ true → is_some (kinds n) ≡ true
    none e = cc

within : (kinds : List Kind) (n : ℕ) → is_some (slice_get kinds n) ≡ true → n < length kinds
within [] n h = cc
within (kind ∷ kinds) zero h = omega arith
within (kind ∷ kinds) (suc n) h = let rest = within kinds n h in omega (arith, rest)

-- .. so the channels that fitting steps are on are there
pub all_there : (kinds : List Kind) (steps : List Step) (n : ℕ) → IsTrue (mentioned_in n steps)
    → Fits (slice_get kinds) steps → n < length kinds
all_there kinds steps n on fits =
    within kinds n (steps_there (slice_get kinds) n steps
    (each_of (IsThere (slice_get kinds) n) (is_there (slice_get kinds) n) steps) on
    (all_to (is_fit (slice_get kinds)) steps fits))
