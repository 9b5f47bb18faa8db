-- Any events can be put in their order.
use Rattle.std.proofs.Common.{◌≡◌, refl, sym, ◌∙◌, ap, inl, inr, ◌⊎◌, ⊎_elim, ℕ, zero, suc, ◌+◌, ◌<◌, ◌≤◌, Bool, true}
use Rattle.std.proofs.Common.{false, List, [], ◌∷◌, length, map, filter, cond, slice_index_or, arith, if◌then◌else◌}
use Rattle.std.proofs.Common.{IsPermutation, IsSorted}
use Rattle.std.proofs.lemmas.Cmp.{nat_cmp_total, on_total, then_total}
use Rattle.std.proofs.lemmas.List.Sorted.{IsPermutation-refl, IsPermutation-cons, IsPermutation-middle}
use Rattle.std.proofs.lemmas.List.Sorted.{IsPermutation-trans}
use Rattle.std.proofs.lemmas.Map.Keys.{ge_from_not_lt}
use Rattle.std.specs.Cmp.{IsTotalOrder}
use Rattle.std.specs.declared.cmp.Ordering.{Ordering}
use Rattle.std.specs.declared.cmp.Ordering.TheVariants.{Less, Equal, Greater}
use Rattle.std.specs.Ordering.{is_lt, nat_cmp, ordering_reverse, ordering_then}
use Rattle.txc_base.specs.declared.tag.Tag.{Tag}
use Rattle.txc_txn_history.specs.Commits.{Has, Once, NeverFalls}
use Rattle.txc_txn_history.specs.Events.{Event}
use Rattle.txc_txn_history.specs.OneOrder.{by_stamp}

-- one is before the other
abbrev lt : Event → Event → Bool
lt one other = is_lt (by_stamp one other)

-- the order by stamp, seat and serial is total
pub order_total : IsTotalOrder by_stamp
order_total = then_total (on_total (λ (e : Event). e.receipt.tag.stamp) nat_cmp_total)
    (then_total (on_total (λ (e : Event). e.seat) nat_cmp_total)
    (on_total (λ (e : Event). e.receipt.tag.serial) nat_cmp_total))

less_back : (o : Ordering) → is_lt o ≡ true → is_lt (ordering_reverse o) ≡ false
less_back Less h = refl
less_back Equal h = refl
less_back Greater h = sym h

not_back : (x y : Event) → lt x y ≡ true → lt y x ≡ false
not_back x y h = ap is_lt (order_total.antisymm y x) ∙ less_back (by_stamp x y) h

first_not : (o p : Ordering) → is_lt (ordering_then o p) ≡ false → is_lt o ≡ false
first_not Less p h = h
first_not Equal p h = refl
first_not Greater p h = refl

-- what isn't before another has no lower stamp
not_below : (x y : Event) → lt y x ≡ false → x.receipt.tag.stamp ≤ y.receipt.tag.stamp
not_below x y h = ge_from_not_lt y.receipt.tag.stamp x.receipt.tag.stamp
    (first_not (nat_cmp y.receipt.tag.stamp x.receipt.tag.stamp)
    (ordering_then (nat_cmp y.seat x.seat) (nat_cmp y.receipt.tag.serial x.receipt.tag.serial)) h)

-- put in at its place
abbrev insert : Event → List Event → List Event
insert x [] = x ∷ []
insert x (y ∷ ys) = if lt x y then x ∷ y ∷ ys else y ∷ insert x ys

-- in order
abbrev pub sort : List Event → List Event
sort [] = []
sort (x ∷ xs) = insert x (sort xs)

abbrev tag : Event → Tag
tag e = e.receipt.tag

-- the first of these is not before one
abbrev FirstNotBelow : Event → List Event → Type 0
FirstNotBelow x [] = Unit {0}
FirstNotBelow x (y ∷ ys) = lt y x ≡ false

abbrev InOrder : List Event → Type 0
InOrder [] = Unit {0}
InOrder (x ∷ xs) = FirstNotBelow x xs × InOrder xs

insert_first : (z x : Event) (ys : List Event) → lt x z ≡ false → FirstNotBelow z ys → FirstNotBelow z (insert x ys)
insert_first z x [] h f = h
insert_first z x (y ∷ ys) h f = of (lt x y)
  where
    of : (b : Bool) → FirstNotBelow z (if b then x ∷ y ∷ ys else y ∷ insert x ys)
    of true = h
    of false = f

order_of : (x y : Event) (ys rest : List Event) (b : Bool) → lt x y ≡ b → InOrder (y ∷ ys)
    → (lt x y ≡ false → FirstNotBelow y rest) → InOrder rest → InOrder (if b then x ∷ y ∷ ys else y ∷ rest)
order_of x y ys rest true is order first more = (not_back x y is, order)
order_of x y ys rest false is order first more = (first is, more)

insert_order : (x : Event) (ys : List Event) → InOrder ys → InOrder (insert x ys)
insert_order x [] order = (tt, tt)
insert_order x (y ∷ ys) order = order_of x y ys (insert x ys) (lt x y) refl order
    (λ is. insert_first y x ys is order.0) (insert_order x ys order.1)

sort_order : (xs : List Event) → InOrder (sort xs)
sort_order [] = tt
sort_order (x ∷ xs) = insert_order x (sort xs) (sort_order xs)

sorted_of : (xs : List Event) → InOrder xs → (k : ℕ) (d : Event) → k + 1 < length xs
    → lt (slice_index_or xs (k + 1) d) (slice_index_or xs k d) ≡ false
sorted_of [] order k d h = absurd (omega (arith, h))
sorted_of (x ∷ []) order k d h = absurd (omega (arith, h))
sorted_of (x ∷ y ∷ ys) order zero d h = order.0
sorted_of (x ∷ y ∷ ys) order (suc k) d h =
    let e : suc k + 1 ≡ suc (k + 1) = omega arith in
    ap (λ n. lt (slice_index_or (x ∷ y ∷ ys) n d) (slice_index_or (y ∷ ys) k d)) e
    ∙ sorted_of (y ∷ ys) order.1 k d (omega (arith, h))

pub sort_sorted : (xs : List Event) → IsSorted by_stamp (sort xs)
sort_sorted xs k d low h = sorted_of (sort xs) (sort_order xs) k d h

above : (x : Event) (ys : List Event) → FirstNotBelow x ys → InOrder ys → (g : Tag) → Has (map tag ys) g
    → x.receipt.tag.stamp ≤ g.stamp
above x [] f o g h = absurd h
above x (y ∷ ys) f o g (inl e) = omega (arith, not_below x y f, ap (λ (t : Tag). t.stamp) e)
above x (y ∷ ys) f o g (inr h) = omega (arith, not_below x y f, above y ys o.0 o.1 g h)

falls_never : (xs : List Event) → InOrder xs → NeverFalls (λ (t : Tag). t.stamp) (map tag xs)
falls_never [] o = tt
falls_never (x ∷ xs) o = (above x xs o.0 o.1, falls_never xs o.1)

pub sort_falls_never : (xs : List Event) → NeverFalls (λ (t : Tag). t.stamp) (map tag (sort xs))
sort_falls_never xs = falls_never (sort xs) (sort_order xs)

has_of : (x y z : Event) (ys rest : List Event) (b : Bool) → (Has rest z → (x ≡ z) ⊎ Has ys z)
    → Has (if b then x ∷ y ∷ ys else y ∷ rest) z → (x ≡ z) ⊎ Has (y ∷ ys) z
has_of x y z ys rest true f h = h
has_of x y z ys rest false f (inl e) = inr (inl e)
has_of x y z ys rest false f (inr h) = ⊎_elim (λ a. inl a) (λ b. inr (inr b)) (f h)

insert_has : (x : Event) (ys : List Event) (z : Event) → Has (insert x ys) z → (x ≡ z) ⊎ Has ys z
insert_has x [] z h = h
insert_has x (y ∷ ys) z h = has_of x y z ys (insert x ys) (lt x y) (insert_has x ys z) h

pub sort_has : (xs : List Event) (z : Event) → Has (sort xs) z → Has xs z
sort_has [] z h = h
sort_has (x ∷ xs) z h = ⊎_elim (λ a. inl a) (λ b. inr (sort_has xs z b)) (insert_has x (sort xs) z h)

tag_of : (x y : Event) (g : Tag) (ys rest : List Event) (b : Bool)
    → (Has (map tag rest) g → (tag x ≡ g) ⊎ Has (map tag ys) g)
    → Has (map tag (if b then x ∷ y ∷ ys else y ∷ rest)) g → (tag x ≡ g) ⊎ Has (map tag (y ∷ ys)) g
tag_of x y g ys rest true f h = h
tag_of x y g ys rest false f (inl e) = inr (inl e)
tag_of x y g ys rest false f (inr h) = ⊎_elim (λ a. inl a) (λ b. inr (inr b)) (f h)

insert_tag : (x : Event) (ys : List Event) (g : Tag) → Has (map tag (insert x ys)) g
    → (tag x ≡ g) ⊎ Has (map tag ys) g
insert_tag x [] g h = h
insert_tag x (y ∷ ys) g h = tag_of x y g ys (insert x ys) (lt x y) (insert_tag x ys g) h

sort_tag : (xs : List Event) (g : Tag) → Has (map tag (sort xs)) g → Has (map tag xs) g
sort_tag [] g h = h
sort_tag (x ∷ xs) g h = ⊎_elim (λ a. inl a) (λ b. inr (sort_tag xs g b)) (insert_tag x (sort xs) g h)

once_of : (x y : Event) (ys rest : List Event) (b : Bool) → (¬ Has (map tag (y ∷ ys)) (tag x))
    → Once (map tag (y ∷ ys)) → Once (map tag rest)
    → ((g : Tag) → Has (map tag rest) g → (tag x ≡ g) ⊎ Has (map tag ys) g)
    → Once (map tag (if b then x ∷ y ∷ ys else y ∷ rest))
once_of x y ys rest true fresh once more f = (fresh, once)
once_of x y ys rest false fresh once more f = (
  (λ h. ⊎_elim (λ (e : tag x ≡ tag y). fresh (inl (sym e))) (λ (j : Has (map tag ys) (tag y)). once.0 j) (f (tag y) h)),
  more,
)

insert_once : (x : Event) (ys : List Event) → (¬ Has (map tag ys) (tag x)) → Once (map tag ys)
    → Once (map tag (insert x ys))
insert_once x [] fresh once = ((λ h. h), tt)
insert_once x (y ∷ ys) fresh once = once_of x y ys (insert x ys) (lt x y) fresh once
    (insert_once x ys (λ h. fresh (inr h)) once.1) (insert_tag x ys)

pub sort_once : (xs : List Event) → Once (map tag xs) → Once (map tag (sort xs))
sort_once [] once = tt
sort_once (x ∷ xs) once = insert_once x (sort xs) (λ h. once.0 (sort_tag xs (tag x) h)) (sort_once xs once.1)

one : Bool → ℕ
one true = 1
one false = 0

count_cons_of : (p : Event → Bool) (x : Event) (xs : List Event) (b : Bool)
    → length (cond b (x ∷ filter p xs) (filter p xs)) ≡ one b + length (filter p xs)
unfolding one
count_cons_of p x xs true = omega arith
count_cons_of p x xs false = omega arith

count_cons : (p : Event → Bool) (x : Event) (xs : List Event)
    → length (filter p (x ∷ xs)) ≡ one (p x) + length (filter p xs)
count_cons p x xs = count_cons_of p x xs (p x)

count_of : (p : Event → Bool) (x y : Event) (ys rest : List Event) (b : Bool)
    → length (filter p rest) ≡ length (filter p (x ∷ ys))
    → length (filter p (if b then x ∷ y ∷ ys else y ∷ rest)) ≡ length (filter p (x ∷ y ∷ ys))
count_of p x y ys rest true same = refl
count_of p x y ys rest false same =
    omega (arith, count_cons p y rest, same, count_cons p x ys, count_cons p x (y ∷ ys), count_cons p y ys)

insert_count : (p : Event → Bool) (x : Event) (ys : List Event)
    → length (filter p (insert x ys)) ≡ length (filter p (x ∷ ys))
insert_count p x [] = refl
insert_count p x (y ∷ ys) = count_of p x y ys (insert x ys) (lt x y) (insert_count p x ys)

pub sort_count : (p : Event → Bool) (xs : List Event) → length (filter p (sort xs)) ≡ length (filter p xs)
sort_count p [] = refl
sort_count p (x ∷ xs) =
    omega (
      arith,
      insert_count p x (sort xs),
      count_cons p x (sort xs),
      sort_count p xs,
      count_cons p x xs,
    )

permuted_of : (x y : Event) (ys rest : List Event) (b : Bool) → IsPermutation (x ∷ ys) rest
    → IsPermutation (x ∷ y ∷ ys) (if b then x ∷ y ∷ ys else y ∷ rest)
permuted_of x y ys rest true more = IsPermutation-refl (x ∷ y ∷ ys)
permuted_of x y ys rest false more =
    IsPermutation-trans (x ∷ y ∷ ys) (y ∷ x ∷ ys) (y ∷ rest) (IsPermutation-middle (x ∷ []) y ys)
    (IsPermutation-cons y (x ∷ ys) rest more)

insert_permuted : (x : Event) (ys : List Event) → IsPermutation (x ∷ ys) (insert x ys)
insert_permuted x [] = IsPermutation-refl (x ∷ [])
insert_permuted x (y ∷ ys) = permuted_of x y ys (insert x ys) (lt x y) (insert_permuted x ys)

pub sort_permuted : (xs : List Event) → IsPermutation xs (sort xs)
sort_permuted [] = IsPermutation-refl []
sort_permuted (x ∷ xs) = IsPermutation-trans (x ∷ xs) (x ∷ sort xs) (insert x (sort xs))
    (IsPermutation-cons x xs (sort xs) (sort_permuted xs)) (insert_permuted x (sort xs))
