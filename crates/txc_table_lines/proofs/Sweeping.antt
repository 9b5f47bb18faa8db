-- A list and a second list: with each item of the first, the entry of the second that belongs to it changes.
use Rattle.std.proofs.Common.{◌≡◌, ◌≢◌, ◌∙◌, refl, sym, ap, subst, ℕ, zero, suc, ◌<◌, ◌≤◌, ◌+◌, List, [], ◌∷◌, length}
use Rattle.std.proofs.Common.{slice_index_or, slice_set, Contains, arith, inl, inr}
use Rattle.std.proofs.Common.{get_or-set_other}
use Rattle.std.proofs.lemmas.List.{get_or_default, length-set}
use Rattle.std.proofs.lemmas.Bool.Decides.{eqb_tells, leb_tells}
use Rattle.txc_txn_check.specs.Limits.{IsRising, RisesFrom}

-- of rising numbers each is at least the lower bound
rises_above : (least : ℕ) (numbers : List ℕ) (k d : ℕ) → RisesFrom least numbers → k < length numbers
    → least + k ≤ slice_index_or numbers k d
rises_above least [] k d rise below = absurd (omega (arith, below))
rises_above least (n ∷ numbers) zero d rise below = omega (arith, rise.0)
rises_above least (n ∷ numbers) (suc k) d rise below =
    omega (arith, rise.0, rises_above (suc n) numbers k d rise.1 (omega (arith, below)))

-- .. and no two of them are equal
pub rises_apart : (least : ℕ) (numbers : List ℕ) (j k d : ℕ) → RisesFrom least numbers → j < k → k < length numbers
    → slice_index_or numbers j d < slice_index_or numbers k d
rises_apart least [] j k d rise before below = absurd (omega (arith, below))
rises_apart least (n ∷ numbers) j zero d rise before below = absurd (omega (arith, before))
rises_apart least (n ∷ numbers) zero (suc k) d rise before below =
    omega (arith, rises_above (suc n) numbers k d rise.1 (omega (arith, below)))
rises_apart least (n ∷ numbers) (suc j) (suc k) d rise before below =
    rises_apart (suc n) numbers j k d rise.1 (omega (arith, before)) (omega (arith, below))

pub apart : (numbers : List ℕ) (j k d : ℕ) → IsRising numbers → j ≢ k → j < length numbers → k < length numbers
    → slice_index_or numbers j d ≢ slice_index_or numbers k d
apart numbers j k d rise other first second same =
    elim (leb_tells j k) [
      | inl t ↦
          absurd (omega (arith, rises_apart 0 numbers j k d rise (strictly j k other t.1) second, same))
      | inr t ↦ absurd (omega (arith, rises_apart 0 numbers k j d rise (omega (arith, t.1)) first, same))
    ]
  where
    strictly : (j k : ℕ) → j ≢ k → j ≤ k → j < k
    strictly j k other le = elim (leb_tells k j) [
      | inl t ↦ absurd (other (omega (arith, le, t.1)))
      | inr t ↦ omega (arith, t.1)
    ]

module _ {X Y : Type 0} (R : X → Y → X → Y → Type 0) (numbers : List ℕ) (dx : X) (dy : Y) (xs : List X) (ys : List Y)
  where
    abbrev x_at : List X → ℕ → X
    x_at l k = slice_index_or l k dx

    abbrev y_at : List Y → ℕ → Y
    y_at l n = slice_index_or l n dy

    abbrev number : ℕ → ℕ
    number k = slice_index_or numbers k 0

    -- the items before a place are changed, each with what goes with it, and no other
    pub record Swept (at : ℕ) (xs' : List X) (ys' : List Y) : Type 0 where
      pub many : length xs' ≡ length xs
      pub wide : length ys' ≡ length ys
      pub done : (k : ℕ) → k < at → R (x_at xs k) (y_at ys (number k)) (x_at xs' k) (y_at ys' (number k))
      pub todo : (k : ℕ) → at ≤ k → k < length numbers
          → (x_at xs' k ≡ x_at xs k) × (y_at ys' (number k) ≡ y_at ys (number k))
      pub rest : (n : ℕ) → ¬ Contains numbers n → y_at ys' n ≡ y_at ys n

    -- nothing is changed yet
    pub swept_none : Swept 0 xs ys
    swept_none = record {
      many = refl;
      wide = refl;
      done = λ k lt. absurd (omega (arith, lt));
      todo = λ k le below. (refl, refl);
      rest = λ n none. refl;
    }

    -- one more is changed
    pub swept_more : (at : ℕ) (xs' xs'' : List X) (ys' ys'' : List Y) (x : X) (y : Y) → IsRising numbers
        → length xs ≡ length numbers → at < length numbers → number at < length ys → Swept at xs' ys'
        → xs'' ≡ slice_set xs' at x → ys'' ≡ slice_set ys' (number at) y
        → R (x_at xs' at) (y_at ys' (number at)) (x_at xs'' at) (y_at ys'' (number at))
        → Swept (at + 1) xs'' ys''
    swept_more at xs' xs'' ys' ys'' x y rise long below there swept set put changed = record {
      many = ap length set ∙ length-set xs' at x ∙ swept.many;
      wide = ap length put ∙ length-set ys' (number at) y ∙ swept.wide;
      done = λ k lt. elim (eqb_tells k at) [
        | inl t ↦ subst (λ j. R (x_at xs j) (y_at ys (number j)) (x_at xs'' j) (y_at ys'' (number j))) (sym t.1)
            (subst (λ a. R a (y_at ys (number at)) (x_at xs'' at) (y_at ys'' (number at)))
            ((swept.todo at (omega arith) below).0)
            (subst (λ b. R (x_at xs' at) b (x_at xs'' at) (y_at ys'' (number at)))
            ((swept.todo at (omega arith) below).1) changed))
        | inr t ↦ earlier k t.1 (before k lt t.1)
      ];
      todo = λ k le few. (
        x_other k (after k le) ∙ (swept.todo k (omega (arith, le)) few).0,
        y_other k (after k le) few ∙ (swept.todo k (omega (arith, le)) few).1,
      );
      rest = λ n none. ap (λ (l : List Y). y_at l n) put
          ∙ get_or-set_other ys' (number at) n y dy (outside n none) ∙ swept.rest n none;
    }
      where
        before : (k : ℕ) → k < at + 1 → k ≢ at → k < at
        before k lt other = elim (leb_tells at k) [
          | inl t ↦ absurd (other (omega (arith, lt, t.1)))
          | inr t ↦ omega (arith, t.1)
        ]

        after : (k : ℕ) → at + 1 ≤ k → k ≢ at
        after k le same = absurd (omega (arith, le, same))

        x_other : (k : ℕ) → k ≢ at → x_at xs'' k ≡ x_at xs' k
        x_other k other = ap (λ (l : List X). x_at l k) set ∙ get_or-set_other xs' at k x dx other

        y_other : (k : ℕ) → k ≢ at → k < length numbers → y_at ys'' (number k) ≡ y_at ys' (number k)
        y_other k other few = ap (λ (l : List Y). y_at l (number k)) put
            ∙ get_or-set_other ys' (number at) (number k) y dy (apart numbers k at 0 rise other few below)

        earlier : (k : ℕ) → k ≢ at → k < at → R (x_at xs k) (y_at ys (number k)) (x_at xs'' k) (y_at ys'' (number k))
        earlier k other lt =
            subst (λ a. R (x_at xs k) (y_at ys (number k)) a (y_at ys'' (number k))) (sym (x_other k other))
            (subst (λ b. R (x_at xs k) (y_at ys (number k)) (x_at xs' k) b)
            (sym (y_other k other (omega (arith, lt, below)))) (swept.done k lt))

        outside : (n : ℕ) → ¬ Contains numbers n → n ≢ number at
        outside n none same = none (at, below, get_or_default numbers at n 0 below ∙ sym same)
