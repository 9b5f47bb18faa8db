-- A transaction that chooses between two moves.
use Rattle.std.proofs.Common.{◌≡◌, refl, sym, ◌∙◌, ap, subst, inl, inr, ◌⊎◌, ⊎_elim, ℕ, ◌||◌, Bool, true, false, max}
use Rattle.std.proofs.Common.{if◌then◌else◌, nat_lt, suc, List, [], ◌∷◌, Contains, arith}
use Rattle.std.proofs.lemmas.Bool.Decides.{eqb_tells, leb_tells}
use Rattle.txc_base.specs.declared.cause.Cause.{Cause}
use Rattle.txc_base.specs.declared.stop.Stop.TheVariants.{Worn}
use Rattle.txc_base.specs.declared.tag.Tag.{Tag}
use Rattle.txc_txn_check.proofs.Containing.{contains_later, contains_none, contains_tail}
use Rattle.txc_txn_check.specs.declared.step.Step.TheVariants.{Or}
use Rattle.txc_txn.specs.declared.ran.Ran.TheVariants.{Kept as RanKept}
use Rattle.txc_txn.specs.declared.receipt.Receipt.{Receipt}
use Rattle.txc_txn.specs.Choice.{choice_steps, in_order, insert}
use Rattle.txc_txn.specs.Maps.{Map}
use Rattle.txc_txn.specs.Run.{RanSettled}
use Rattle.txc_txn.specs.Transaction.{Again, Aborted, Ending, Kept, greatest, is_worn, kept_tag, or_else, start}
use Rattle.txc_txn.specs.Transaction.{step_in, steps_in, transaction}
use Rattle.txc_txn.specs.TwoOperations.{lower_first, move_steps}
use Rattle.txc_txn.proofs.OneOperation.{ends}
use Rattle.txc_txn.proofs.Running.{step_in-Or}
use Rattle.txc_txn.proofs.TwoOperations.{both_contain, greatest_of_both, only_both}

-- the greatest stamp, with one more stamp
greatest_max : (m : Map) (a b : ℕ) (ds : List ℕ) → greatest m (max a b) ds ≡ max (greatest m a ds) b
greatest_max m a b [] = refl
greatest_max m a b (d ∷ ds) =
    let same : max (max a b) (m d).stamp ≡ max (max a (m d).stamp) b = omega arith in
    ap (λ n. greatest m n ds) same ∙ greatest_max m (max a (m d).stamp) b ds

greatest_inserted : (m : Map) (most n : ℕ) (ds : List ℕ)
    → greatest m most (insert n ds) ≡ max (greatest m most ds) (m n).stamp
greatest_inserted m most n [] = refl
greatest_inserted m most n (d ∷ ds) =
    let at : (b : Bool) → nat_lt n d ≡ b
    → greatest m most (insert n (d ∷ ds)) ≡ greatest m most (if b then n ∷ d ∷ ds else d ∷ insert n ds) =
    λ b is. ap (λ (x : Bool). greatest m most (if x then n ∷ d ∷ ds else d ∷ insert n ds)) is in
    elim (leb_tells (suc n) d) [
      | inl t ↦
          (let same : max (max most (m n).stamp) (m d).stamp ≡ max (max most (m d).stamp) (m n).stamp = omega arith in
          at true t.0 ∙ ap (λ k. greatest m k ds) same ∙ greatest_max m (max most (m d).stamp) (m n).stamp ds)
      | inr t ↦ at false t.0 ∙ greatest_inserted m (max most (m d).stamp) n ds
    ]

-- the greatest stamp does not depend on the order of three channels
pub greatest_of_three : (m : Map) (most one other to : ℕ) → greatest m most (in_order one other to)
    ≡ max (max (max most (m one).stamp) (m other).stamp) (m to).stamp
greatest_of_three m most one other to =
    greatest_inserted m most to (lower_first one other)
    ∙ ap (λ n. max n (m to).stamp) (greatest_of_both m most one other)

-- a list is inserted into, by cases
inserted_so : (P : List ℕ → Type 0) (n d : ℕ) (ds : List ℕ) → P (n ∷ d ∷ ds) → P (d ∷ insert n ds)
    → P (insert n (d ∷ ds))
inserted_so P n d ds first later = elim (leb_tells (suc n) d) [
  | inl t ↦ subst (λ (b : Bool). P (if b then n ∷ d ∷ ds else d ∷ insert n ds)) (sym t.0) first
  | inr t ↦ subst (λ (b : Bool). P (if b then n ∷ d ∷ ds else d ∷ insert n ds)) (sym t.0) later
]

-- what was inserted is there, and all that was there
inserted : (n : ℕ) (ds : List ℕ) → Contains (insert n ds) n
inserted n [] = (0, omega arith, refl)
inserted n (d ∷ ds) =
    inserted_so (λ es. Contains es n) n d ds (0, omega arith, refl) (contains_later n d (insert n ds) (inserted n ds))

still_there : (n k : ℕ) (ds : List ℕ) → Contains ds k → Contains (insert n ds) k
still_there n k [] is = absurd (contains_none k is)
still_there n k (d ∷ ds) is =
    inserted_so (λ es. Contains es k) n d ds (contains_later k n (d ∷ ds) is)
    (elim (eqb_tells k d) [
      | inl t ↦ (0, omega arith, sym t.1)
      | inr t ↦ contains_later k d (insert n ds) (still_there n k ds (contains_tail k d ds t.1 is))
    ])

-- .. and nothing else is
of_inserted : (n k : ℕ) (ds : List ℕ) → Contains (insert n ds) k → (k ≡ n) ⊎ Contains ds k
of_inserted n k [] is = elim (eqb_tells k n) [
  | inl t ↦ inl t.1
  | inr t ↦ absurd (contains_none k (contains_tail k n [] t.1 is))
]
of_inserted n k (d ∷ ds) is =
    inserted_so (λ es. Contains es k → (k ≡ n) ⊎ Contains (d ∷ ds) k) n d ds
    (λ first. elim (eqb_tells k n) [
      | inl t ↦ inl t.1
      | inr t ↦ inr (contains_tail k n (d ∷ ds) t.1 first)
    ])
    (λ later. elim (eqb_tells k d) [
      | inl t ↦ inr (0, omega arith, sym t.1)
      | inr t ↦
          ⊎_elim inl (λ c. inr (contains_later k d ds c))
          (of_inserted n k ds (contains_tail k d (insert n ds) t.1 later))
    ]) is

-- the three numbers, and no other
pub only_three : (one other to n : ℕ) → Contains (in_order one other to) n → (n ≡ one) ⊎ ((n ≡ other) ⊎ (n ≡ to))
only_three one other to n is =
    ⊎_elim (λ e. inr (inr e)) (λ c. ⊎_elim inl (λ e. inr (inl e)) (only_both one other n c))
    (of_inserted to n (lower_first one other) is)

pub three_contain : (one other to : ℕ) → Contains (in_order one other to) one
    × Contains (in_order one other to) other × Contains (in_order one other to) to
three_contain one other to =
    let both = both_contain one other in (
      still_there to one (lower_first one other) both.0,
      still_there to other (lower_first one other) both.1,
      inserted to (lower_first one other),
    )

module _ (m : Map) (tag : Tag) (ds : List ℕ) (one reader other its to : ℕ) where
  -- the one move, the other one, and the choice
  abbrev pub first : Ending
  first = transaction m tag ds (move_steps one reader to)

  abbrev pub second : Ending
  second = transaction m tag ds (move_steps other its to)

  abbrev pub chosen : Ending
  chosen = transaction m tag ds (choice_steps one reader other its to)

  -- a choice is the one move, or else the other one
  choice_is : chosen ≡ or_else first (λ why. or_else second Again)
  choice_is = by (is_worn tag.serial || is_worn (greatest m tag.stamp ds))
    where
      by : (b : Bool)
          → (if b then Aborted Worn
          else steps_in (kept_tag m tag ds) (choice_steps one reader other its to) (start m))
          ≡ or_else (if b then Aborted Worn
          else steps_in (kept_tag m tag ds) (move_steps one reader to) (start m))
          (λ why. or_else (if b then Aborted Worn
          else steps_in (kept_tag m tag ds) (move_steps other its to) (start m)) Again)
      by true = refl
      by false =
          ends (step_in (kept_tag m tag ds) (Or (move_steps one reader to ∷ move_steps other its to ∷ [])) (start m))
          ∙ step_in-Or (kept_tag m tag ds) (move_steps one reader to ∷ move_steps other its to ∷ []) (start m)

  -- what one part commits is committed, whatever would be done else
  kept_so : (m' : Map) (receipt : Receipt) (else_so : Cause → Ending) (ending : Ending)
      → RanSettled (kept_tag m tag ds) ds ending (RanKept receipt) m m'
      → RanSettled (kept_tag m tag ds) ds (or_else ending else_so) (RanKept receipt) m m'
  kept_so m' receipt else_so (Kept state) is = is
  kept_so m' receipt else_so (Again cause) is = absurd is
  kept_so m' receipt else_so (Aborted stop) is = absurd is

  -- what the one move commits, the choice commits
  pub first_chosen : (m' : Map) (receipt : Receipt)
      → RanSettled (kept_tag m tag ds) ds first (RanKept receipt) m m'
      → RanSettled (kept_tag m tag ds) ds chosen (RanKept receipt) m m'
  first_chosen m' receipt is =
      subst (λ (e : Ending). RanSettled (kept_tag m tag ds) ds e (RanKept receipt) m m') (sym choice_is)
      (kept_so m' receipt (λ why. or_else second Again) first is)

  -- if the one must be retried, it commits what the other one commits
  pub second_chosen : (m' : Map) (receipt : Receipt) (why : Cause) → first ≡ Again why
      → RanSettled (kept_tag m tag ds) ds second (RanKept receipt) m m'
      → RanSettled (kept_tag m tag ds) ds chosen (RanKept receipt) m m'
  second_chosen m' receipt why again is =
      subst (λ (e : Ending). RanSettled (kept_tag m tag ds) ds e (RanKept receipt) m m')
      (sym (choice_is ∙ ap (λ (e : Ending). or_else e (λ cause. or_else second Again)) again))
      (kept_so m' receipt Again second is)

  -- if both must be retried, so must the choice, for the cause of the last one
  pub both_again : (why cause : Cause) → first ≡ Again why → second ≡ Again cause → chosen ≡ Again cause
  both_again why cause again last =
      choice_is ∙ ap (λ (e : Ending). or_else e (λ c. or_else second Again)) again
      ∙ ap (λ (e : Ending). or_else e Again) last
