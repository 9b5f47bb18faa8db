-- A list of which no two elements tie has one sorted order.
use Rattle.std.proofs.Common.{◌≡◌, refl, sym, ◌∙◌, ap, ℕ, suc, ◌+◌, ◌≤◌, Bool, true, false, cond, List, [], ◌∷◌}
use Rattle.std.proofs.Common.{slice_index_or, All, IsPermutation, IsSorted, arith}
use Rattle.std.proofs.lemmas.List.Elements.{All-head, All-tail}
use Rattle.std.proofs.lemmas.List.Sorted.{All-permutation, ranks_by, sorted_far, sum_by-IsPermutation}
use Rattle.std.proofs.lemmas.List.Sums.{get_or-le-sum_by, sum_by-cons, sum_by-le}
use Rattle.std.specs.Cmp.{IsTotalOrder}
use Rattle.std.specs.List.{sum_by}
use Rattle.std.specs.Ordering.{is_lt, ordering_reverse}
use Rattle.std.specs.declared.cmp.Ordering.{Ordering}
use Rattle.std.specs.declared.cmp.Ordering.TheVariants.{Less, Equal, Greater}

-- what counts nothing is false
none_counted : (b : Bool) → cond b 1 0 ≤ 0 → b ≡ false
none_counted true h = absurd (omega (arith, h))
none_counted false h = refl

-- what is neither less nor greater is equal
tied : (o : Ordering) → is_lt o ≡ false → is_lt (ordering_reverse o) ≡ false → o ≡ Equal
tied Less below above = absurd (cc)
tied Equal below above = refl
tied Greater below above = absurd (cc)

module _ {X : Type 0} (cmp : X → X → Ordering) (total : IsTotalOrder cmp) where
  -- 1 for what is before this one
  abbrev before : X → X → ℕ
  before first x = cond (is_lt (cmp x first)) 1 0

  -- nothing in a sorted list is before its first
  none_before : (first : X) (xs : List X) → IsSorted cmp (first ∷ xs) → sum_by (before first) (first ∷ xs) ≤ 0
  none_before first xs sorted =
      omega (
        arith,
        sum_by-le (before first) 0 (first ∷ xs) (λ k d lt.
            let later : is_lt (cmp (slice_index_or (first ∷ xs) k d) first) ≡ false =
            sorted_far (λ x y. is_lt (cmp x y)) (ranks_by total (λ x. x)) (first ∷ xs) sorted 0 k d (omega arith) lt in
            let none : before first (slice_index_or (first ∷ xs) k d) ≡ 0 = ap (λ b. cond b 1 0) later in
            omega (arith, none)),
      )

  -- .. so an order of the same elements begins with nothing that is
  not_before : (first x : X) (xs : List X) → sum_by (before first) (x ∷ xs) ≤ 0 → is_lt (cmp x first) ≡ false
  not_before first x xs none =
      let here = get_or-le-sum_by (before first) (x ∷ xs) 0 x (omega arith) in
      none_counted (is_lt (cmp x first)) (omega (arith, here, none))

  -- what is left of a sorted list is sorted
  sorted_rest : (x : X) (xs : List X) → IsSorted cmp (x ∷ xs) → IsSorted cmp xs
  sorted_rest x xs sorted k d low lt =
      let e : suc k + 1 ≡ suc (k + 1) = omega arith in
      ap (λ n. is_lt (cmp (slice_index_or (x ∷ xs) n d) (slice_index_or xs k d))) (sym e)
      ∙ sorted (suc k) d (omega arith) (omega (arith, lt))

  module _ (P : X → Type 0) (apart : (x y : X) → P x → P y → cmp x y ≡ Equal → x ≡ y) where
    -- two sorted lists with the same sums are one
    same_sums : (xs ys : List X) → All P xs → All P ys → IsSorted cmp xs → IsSorted cmp ys
        → ((f : X → ℕ) → sum_by f xs ≡ sum_by f ys) → xs ≡ ys
    same_sums [] [] ps qs up up' same = refl
    same_sums [] (y ∷ ys) ps qs up up' same = absurd (omega (arith, same (λ x. 1), sum_by-cons (λ x. 1) y ys))
    same_sums (x ∷ xs) [] ps qs up up' same = absurd (omega (arith, same (λ x. 1), sum_by-cons (λ x. 1) x xs))
    same_sums (x ∷ xs) (y ∷ ys) ps qs up up' same =
        let below : is_lt (cmp x y) ≡ false =
        not_before y x xs (omega (arith, none_before y ys up', same (before y))) in
        let above : is_lt (cmp y x) ≡ false =
        not_before x y ys (omega (arith, none_before x xs up, same (before x))) in
        let head : x ≡ y = apart x y (All-head P x xs ps) (All-head P y ys qs)
        (tied (cmp x y) below (ap is_lt (sym (total.antisymm y x)) ∙ above)) in
        let tail : xs ≡ ys =
        same_sums xs ys (All-tail P x xs ps) (All-tail P y ys qs) (sorted_rest x xs up) (sorted_rest y ys up')
        (λ f. omega (arith, sum_by-cons f x xs, sum_by-cons f y ys, same f, ap f head)) in
        λ i. head i ∷ tail i

    -- two sorted orders of a list are one
    pub one_sort : (all xs ys : List X) → All P all → IsPermutation all xs → IsPermutation all ys → IsSorted cmp xs
        → IsSorted cmp ys → xs ≡ ys
    one_sort all xs ys ps same same' up up' =
        same_sums xs ys (All-permutation P all xs same ps) (All-permutation P all ys same' ps) up up'
        (λ f. sum_by-IsPermutation f all xs same ∙ sym (sum_by-IsPermutation f all ys same'))
