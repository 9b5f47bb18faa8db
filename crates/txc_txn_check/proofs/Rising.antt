-- Rising channels with one more.
use Rattle.std.proofs.Common.{◌≡◌, ◌≢◌, refl, sym, subst, inl, inr, ◌⊎◌, ⊎_elim, ℕ, suc, ◌<◌, ◌≤◌, true, List, [], ◌∷◌}
use Rattle.std.proofs.Common.{length, arith, nat_eq, Contains}
use Rattle.std.specs.List.{list_any}
use Rattle.std.proofs.lemmas.Bool.Decides.{eqb_tells, leb_tells, nat_tests}
use Rattle.std.proofs.lemmas.Grind.{common_steps}
use Rattle.txc_txn_check.specs.Limits.{RisesFrom}
use Rattle.txc_txn_check.specs.Walk.{with_channel}
use Rattle.txc_txn_check.proofs.Containing.{contains_later, contains_none, contains_tail}

less : (n c : ℕ) (cs : List ℕ) → c < n → with_channel n (c ∷ cs) ≡ c ∷ with_channel n cs
less n c cs h = grind (arith, nat_tests, common_steps)

equal : (n c : ℕ) (cs : List ℕ) → n ≡ c → with_channel n (c ∷ cs) ≡ c ∷ cs
equal n c cs h = grind (arith, nat_tests, common_steps)

more : (n c : ℕ) (cs : List ℕ) → n < c → with_channel n (c ∷ cs) ≡ n ∷ c ∷ cs
more n c cs h = grind (arith, nat_tests, common_steps)

-- where a channel belongs
data Place (n c : ℕ) : Type 0 where
  Less : c < n → Place n c
  Equal : n ≡ c → Place n c
  More : n < c → Place n c

place : (n c : ℕ) → Place n c
place n c =
    elim (eqb_tells n c) [
      | inl t ↦ Equal t.1
      | inr t ↦ elim (leb_tells (suc c) n) [ inl u ↦ Less u.1 | inr u ↦ More (omega (arith, u.1, t.1)) ]
    ]

pub first_in : (n c : ℕ) (cs : List ℕ) → n ≡ c → Contains (c ∷ cs) n
first_in n c cs e = (0, omega arith, sym e)

-- .. still rise
pub rises_with : (least n : ℕ) (cs : List ℕ) → least ≤ n → RisesFrom least cs → RisesFrom least (with_channel n cs)
rises_with least n [] le h = (le, tt)
rises_with least n (c ∷ cs) le h = at (λ lt. rises_with (suc c) n cs lt h.1) (place n c)
  where
    at : (c < n → RisesFrom (suc c) (with_channel n cs)) → Place n c → RisesFrom least (with_channel n (c ∷ cs))
    at rest (Less lt) = subst (RisesFrom least) (sym (less n c cs lt)) (h.0, rest lt)
    at rest (Equal e) = subst (RisesFrom least) (sym (equal n c cs e)) h
    at rest (More gt) = subst (RisesFrom least) (sym (more n c cs gt)) (le, (gt, h.1))

-- .. have all that were there
pub kept_with : (n : ℕ) (cs : List ℕ) (k : ℕ) → Contains cs k → Contains (with_channel n cs) k
kept_with n [] k h = absurd (contains_none k h)
kept_with n (c ∷ cs) k h = at (kept_with n cs k) (place n c)
  where
    at : (Contains cs k → Contains (with_channel n cs) k) → Place n c → Contains (with_channel n (c ∷ cs)) k
    at rest (Less lt) = subst (λ (l : List ℕ). Contains l k) (sym (less n c cs lt))
        (elim (eqb_tells k c) [
          | inl t ↦ first_in k c (with_channel n cs) t.1
          | inr t ↦ contains_later k c
              (with_channel n cs) (rest (contains_tail k c cs t.1 h))
        ])
    at rest (Equal e) = subst (λ (l : List ℕ). Contains l k) (sym (equal n c cs e)) h
    at rest (More gt) = subst (λ (l : List ℕ). Contains l k) (sym (more n c cs gt)) (contains_later k n (c ∷ cs) h)

-- .. and the new one
pub new_with : (n : ℕ) (cs : List ℕ) → Contains (with_channel n cs) n
new_with n [] = first_in n n [] refl
new_with n (c ∷ cs) = at (new_with n cs) (place n c)
  where
    at : Contains (with_channel n cs) n → Place n c → Contains (with_channel n (c ∷ cs)) n
    at rest (Less lt) = subst (λ (l : List ℕ). Contains l n) (sym (less n c cs lt))
        (contains_later n c (with_channel n cs) rest)
    at rest (Equal e) = subst (λ (l : List ℕ). Contains l n) (sym (equal n c cs e)) (first_in n c cs e)
    at rest (More gt) = subst (λ (l : List ℕ). Contains l n) (sym (more n c cs gt)) (first_in n n (c ∷ cs) refl)

-- .. and no other
pub from_with : (n : ℕ) (cs : List ℕ) (k : ℕ) → Contains (with_channel n cs) k → Contains cs k ⊎ (n ≡ k)
from_with n [] k h = elim (eqb_tells k n)
    [ inl t ↦ inr (sym t.1) | inr t ↦ absurd (contains_none k (contains_tail k n [] t.1 h)) ]
from_with n (c ∷ cs) k h = at (from_with n cs k) (place n c)
  where
    at : (Contains (with_channel n cs) k → Contains cs k ⊎ (n ≡ k)) → Place n c → Contains (c ∷ cs) k ⊎ (n ≡ k)
    at rest (Less lt) =
        let here : Contains (c ∷ with_channel n cs) k = subst (λ (l : List ℕ). Contains l k) (less n c cs lt) h in
        elim (eqb_tells k c) [
          | inl t ↦ inl (first_in k c cs t.1)
          | inr t ↦ ⊎_elim (λ a. inl (contains_later k c cs a)) (λ e. inr e)
              (rest (contains_tail k c (with_channel n cs) t.1 here))
        ]
    at rest (Equal e) = inl (subst (λ (l : List ℕ). Contains l k) (equal n c cs e) h)
    at rest (More gt) =
        let here : Contains (n ∷ c ∷ cs) k = subst (λ (l : List ℕ). Contains l k) (more n c cs gt) h in
        elim (eqb_tells k n) [ inl t ↦ inr (sym t.1) | inr t ↦ inl (contains_tail k n (c ∷ cs) t.1 here) ]

-- a test finds a channel that is there
pub finds : (n : ℕ) (cs : List ℕ) → Contains cs n → list_any (nat_eq n) cs ≡ true
finds n [] h = absurd (contains_none n h)
finds n (c ∷ cs) h =
    elim (eqb_tells n c) [
      | inl t ↦ grind (arith, nat_tests, common_steps)
      | inr t ↦ let rest : list_any (nat_eq n) cs ≡ true = finds n cs (contains_tail n c cs t.1 h) in
          grind (arith, nat_tests, common_steps)
    ]

-- rising numbers have none below the least that they may have
from_least : (least : ℕ) (cs : List ℕ) (n : ℕ) → RisesFrom least cs → Contains cs n → least ≤ n
from_least least [] n h i = absurd (contains_none n i)
from_least least (c ∷ cs) n h i =
    elim (eqb_tells n c) [
      | inl t ↦ omega (arith, h.0, t.1)
      | inr t ↦ let up : suc c ≤ n = from_least (suc c) cs n h.1 (contains_tail n c cs t.1 i) in omega (arith, h.0, up)
    ]

-- rising numbers that are all among other rising ones are no more than these
pub no_longer : (least first : ℕ) (xs ys : List ℕ) → RisesFrom least xs → RisesFrom first ys
    → ((n : ℕ) → Contains xs n → Contains ys n) → length xs ≤ length ys
no_longer least first [] ys h k all = omega arith
no_longer least first (x ∷ xs) [] h k all = absurd (contains_none x (all x (first_in x x xs refl)))
no_longer least first (x ∷ xs) (y ∷ ys) h k all =
    elim (eqb_tells x y) [
      | inl t ↦
          let rest : length xs ≤ length ys =
          no_longer (suc x) (suc y) xs ys h.1 k.1
          (λ n i. contains_tail n y ys (after t.1 n i) (all n (contains_later n x xs i))) in
          omega (arith, rest)
      | inr t ↦
          let rest : length (x ∷ xs) ≤ length ys = no_longer x (suc y) (x ∷ xs) ys (omega arith, h.1) k.1
          (λ n i. contains_tail n y ys (above t.1 n i) (all n i)) in
          omega (arith, rest)
    ]
  where
    after : x ≡ y → (n : ℕ) → Contains xs n → n ≢ y
    after same n i e = let up : suc x ≤ n = from_least (suc x) xs n h.1 i in absurd (omega (arith, up, same, e))

    above : x ≢ y → (n : ℕ) → Contains (x ∷ xs) n → n ≢ y
    above other n i e =
        let up : x ≤ n = from_least x (x ∷ xs) n (omega arith, h.1) i in
        let here : suc y ≤ x = from_least (suc y) ys x k.1
        (contains_tail x y ys other (all x (first_in x x xs refl))) in
        absurd (omega (arith, up, here, e))
