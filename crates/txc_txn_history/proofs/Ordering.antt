-- Commits that held their locks to the end, with stamps above those of all channels that they held, are one history in
-- the order of their stamps.
use Rattle.std.proofs.Common.{◌≡◌, ◌∙◌, refl, sym, ap, subst, ◌⊎◌, inl, inr, ⊎_elim, ℕ, suc, ◌+◌, ◌<◌, ◌≤◌, Bool, true}
use Rattle.std.proofs.Common.{false}
use Rattle.std.proofs.Common.{List, [], ◌∷◌, ◌++◌, length, map, filter, take, cond, append_assoc, append-nil, arith}
use Rattle.std.proofs.Common.{eq-or-lt_of_le, length-append}
use Rattle.std.proofs.lemmas.List.{take-append-le, take_all}
use Rattle.std.proofs.lemmas.List.{map-append}
use Rattle.txc_txn_history.specs.Commits.{Has, Once, Rises, NeverFalls, Commits, IsLocal, StandsAt, IsPlaced, Follow}
use Rattle.txc_txn_history.specs.Commits.{AreKept}

less_or_same : (m n : ℕ) → m ≤ n → (m < n) ⊎ (m ≡ n)
less_or_same m n h = ⊎_elim (λ a. inr a) (λ b. inl b) (eq-or-lt_of_le h)

either_way : (b : Bool) → (b ≡ true) ⊎ (b ≡ false)
either_way true = inl refl
either_way false = inr refl

long_map : {X Y : Type 0} (f : X → Y) (xs : List X) → length (map f xs) ≡ length xs
long_map f [] = refl
long_map f (x ∷ xs) = ap suc (long_map f xs)

-- the front of a list
front : {X : Type 0} (xs ys : List X) (n : ℕ) → n ≡ length xs → take n (xs ++ ys) ≡ xs
front xs ys n is = take-append-le n xs ys (omega (arith, is)) ∙ take_all n xs (omega (arith, is))

module _ {X : Type 0} where
  pub has_here : (xs ys : List X) (x : X) → Has (xs ++ x ∷ ys) x
  has_here [] ys x = inl refl
  has_here (y ∷ xs) ys x = inr (has_here xs ys x)

  first : X → List X → X
  first d [] = d
  first d (x ∷ xs) = x

  rest : List X → List X
  rest [] = []
  rest (x ∷ xs) = xs

  same_first : (x y : X) (xs ys : List X) → x ∷ xs ≡ y ∷ ys → x ≡ y
  unfolding first
  same_first x y xs ys e = ap (first x) e

  same_rest : (x y : X) (xs ys : List X) → x ∷ xs ≡ y ∷ ys → xs ≡ ys
  unfolding rest
  same_rest x y xs ys e = ap rest e

pub has_map : {X Y : Type 0} (f : X → Y) (xs : List X) (x : X) → Has xs x → Has (map f xs) (f x)
has_map f [] x h = absurd h
has_map f (y ∷ xs) x (inl e) = inl (ap f e)
has_map f (y ∷ xs) x (inr h) = inr (has_map f xs x h)

-- a list without one place of an item
record Without {X : Type 0} (ys : List X) (x : X) : Type 0 where
  others : List X
  less : length ys ≡ suc (length others)
  each : (z : X) → Has ys z → (z ≡ x) ⊎ Has others z

without : {X : Type 0} (ys : List X) (x : X) → Has ys x → Without ys x
without [] x h = absurd h
without (y ∷ ys) x (inl e) = record {
  others = ys;
  less = refl;
  each = λ z h. ⊎_elim (λ a. inl (sym a ∙ e)) (λ j. inr j) h;
}
without (y ∷ ys) x (inr h) = let w = without ys x h in
    record {
      others = y ∷ w.others;
      less = ap suc w.less;
      each = λ z j. ⊎_elim (λ a. inr (inl a)) (λ l. ⊎_elim (λ a. inl a) (λ b. inr (inr b)) (w.each z l)) j;
    }

-- where as many different items stand in a list as it is long, no others do
no_others : {X : Type 0} (xs ys : List X) → Once xs → ((z : X) → Has xs z → Has ys z) → length ys ≤ length xs → (z : X)
    → Has ys z → Has xs z
no_others [] [] once f few z h = h
no_others [] (y ∷ ys) once f few z h = absurd (omega (arith, few))
no_others (x ∷ xs) ys once f few z h = let w = without ys x (f x (inl refl)) in ⊎_elim (λ a. inl (sym a))
    (λ j. inr (no_others xs w.others once.1
    (λ v l. ⊎_elim (λ a. absurd (once.0 (subst (Has xs) a l))) (λ b. b) (w.each v (f v (inr l))))
    (omega (arith, w.less, few)) z j))
    (w.each z h)

module _ {G : Type 0} (stamp : G → ℕ) where
  -- two items of a history with one stamp are one
  rises_once : (xs : List G) → Rises stamp xs → (x y : G) → Has xs x → Has xs y → stamp x ≡ stamp y → x ≡ y
  rises_once [] r x y h j e = absurd h
  rises_once (z ∷ xs) r x y (inl a) (inl b) e = sym a ∙ b
  rises_once (z ∷ xs) r x y (inl a) (inr j) e = absurd (omega (arith, r.0 y j, e, ap stamp a))
  rises_once (z ∷ xs) r x y (inr h) (inl b) e = absurd (omega (arith, r.0 x h, e, ap stamp b))
  rises_once (z ∷ xs) r x y (inr h) (inr j) e = rises_once xs r.1 x y h j e

  -- none stands in a history twice
  rises_apart : (xs : List G) → Rises stamp xs → Once xs
  rises_apart [] r = tt
  rises_apart (x ∷ xs) r = ((λ h. absurd (omega (arith, r.0 x h))), rises_apart xs r.1)

  -- two histories of the same items are one
  same_rising : (xs ys : List G) → Rises stamp xs → Rises stamp ys → ((z : G) → Has xs z → Has ys z)
      → ((z : G) → Has ys z → Has xs z) → xs ≡ ys
  same_rising [] [] r s f g = refl
  same_rising [] (y ∷ ys) r s f g = absurd (g y (inl refl))
  same_rising (x ∷ xs) [] r s f g = absurd (f x (inl refl))
  same_rising (x ∷ xs) (y ∷ ys) r s f g =
      let e : x ≡ y = ⊎_elim (λ (a : y ≡ x). sym a)
      (λ (h : Has ys x). ⊎_elim (λ (b : x ≡ y). b) (λ (j : Has xs y). absurd (omega (arith, s.0 x h, r.0 y j)))
      (g y (inl refl))) (f x (inl refl)) in
      let t : xs ≡ ys = same_rising xs ys r.1 s.1
      (λ z h. ⊎_elim (λ (a : y ≡ z). absurd (omega (arith, r.0 z h, ap stamp (e ∙ a)))) (λ (j : Has ys z). j)
      (f z (inr h)))
      (λ z h. ⊎_elim (λ (a : x ≡ z). absurd (omega (arith, s.0 z h, ap stamp (sym e ∙ a)))) (λ (j : Has xs z). j)
      (g z (inr h))) in
      λ i. e i ∷ t i

  -- an item stands in a history in one place
  one_place : (before later done after : List G) (e : G) → Rises stamp (before ++ e ∷ later)
      → before ++ e ∷ later ≡ done ++ e ∷ after → before ≡ done
  one_place [] later [] after e r is = refl
  one_place [] later (d ∷ done) after e r is =
      let there : Has later e = subst (λ (l : List G). Has l e) (sym (same_rest e d later (done ++ e ∷ after) is))
      (has_here done after e) in
      absurd (omega (arith, r.0 e there))
  one_place (b ∷ before) later [] after e r is =
      absurd (omega (
        arith,
        r.0 e (has_here before later e),
        ap stamp (same_first b e (before ++ e ∷ later) after is),
      ))
  one_place (b ∷ before) later (d ∷ done) after e r is =
      let h : b ≡ d = same_first b d (before ++ e ∷ later) (done ++ e ∷ after) is in
      let t : before ≡ done = one_place before later done after e r.1
      (same_rest b d (before ++ e ∷ later) (done ++ e ∷ after) is) in
      λ i. h i ∷ t i

module _ {E T G S : Type 0} (k : Commits E T G S) where
  -- the commits that hold a channel, in order
  abbrev kept : ℕ → List E → List E
  kept c es = filter (k.holds c) es

  kept_yes : (c : ℕ) (e : E) (es : List E) → k.holds c e ≡ true → kept c (e ∷ es) ≡ e ∷ kept c es
  kept_yes c e es is = ap (λ b. cond b (e ∷ kept c es) (kept c es)) is

  kept_no : (c : ℕ) (e : E) (es : List E) → k.holds c e ≡ false → kept c (e ∷ es) ≡ kept c es
  kept_no c e es is = ap (λ b. cond b (e ∷ kept c es) (kept c es)) is

  kept_both : (c : ℕ) (xs ys : List E) → kept c (xs ++ ys) ≡ kept c xs ++ kept c ys
  kept_both c [] ys = refl
  kept_both c (x ∷ xs) ys = ⊎_elim
      (λ (is : k.holds c x ≡ true). kept_yes c x (xs ++ ys) is ∙ (ap (λ (l : List E). x ∷ l) (kept_both c xs ys)
      ∙ ap (λ (l : List E). l ++ kept c ys) (sym (kept_yes c x xs is))))
      (λ (is : k.holds c x ≡ false). kept_no c x (xs ++ ys) is ∙ (kept_both c xs ys
      ∙ ap (λ (l : List E). l ++ kept c ys) (sym (kept_no c x xs is))))
      (either_way (k.holds c x))

  -- .. and their tags
  abbrev tags : ℕ → List E → List G
  tags c es = map k.tag (kept c es)

  tags_yes : (c : ℕ) (e : E) (es : List E) → k.holds c e ≡ true → tags c (e ∷ es) ≡ k.tag e ∷ tags c es
  tags_yes c e es is = ap (λ (l : List E). map k.tag l) (kept_yes c e es is)

  tags_no : (c : ℕ) (e : E) (es : List E) → k.holds c e ≡ false → tags c (e ∷ es) ≡ tags c es
  tags_no c e es is = ap (λ (l : List E). map k.tag l) (kept_no c e es is)

  tags_both : (c : ℕ) (xs ys : List E) → tags c (xs ++ ys) ≡ tags c xs ++ tags c ys
  tags_both c xs ys = ap (λ (l : List E). map k.tag l) (kept_both c xs ys) ∙ map-append k.tag (kept c xs) (kept c ys)

  -- each of these tags is one of a commit that holds the channel
  tags_out : (c : ℕ) (es : List E) (g : G) → Has (tags c es) g
      → (e : E) × Has es e × (k.holds c e ≡ true) × (k.tag e ≡ g)
  tags_out c [] g h = absurd h
  tags_out c (x ∷ es) g h = ⊎_elim
      (λ (is : k.holds c x ≡ true). ⊎_elim
      (λ (a : k.tag x ≡ g). (x, inl refl, is, a))
      (λ (j : Has (tags c es) g). let t = tags_out c es g j in (t.0, inr t.1, t.2, t.3))
      (subst (λ (l : List G). Has l g) (tags_yes c x es is) h))
      (λ (is : k.holds c x ≡ false). let t = tags_out c es g (subst (λ (l : List G). Has l g) (tags_no c x es is) h) in
      (t.0, inr t.1, t.2, t.3))
      (either_way (k.holds c x))

  tags_all : (c : ℕ) (es : List E) (g : G) → Has (tags c es) g → Has (map k.tag es) g
  tags_all c es g h = let t = tags_out c es g h in
      subst (λ (z : G). Has (map k.tag es) z) t.3 (has_map k.tag es t.0 t.1)

  -- the commits that held a channel rise in an order in which none falls and each stands once
  tags_rise : (c : ℕ) (es : List E) → NeverFalls k.stamp (map k.tag es) → Once (map k.tag es)
      → ((g h : G) → Has (tags c es) g → Has (tags c es) h → k.stamp g ≡ k.stamp h → g ≡ h)
      → Rises k.stamp (tags c es)
  tags_rise c [] falls once apart = tt
  tags_rise c (x ∷ es) falls once apart = ⊎_elim
      (λ (is : k.holds c x ≡ true).
      let there : (g : G) → Has (k.tag x ∷ tags c es) g → Has (tags c (x ∷ es)) g =
      λ g h. subst (λ (l : List G). Has l g) (sym (tags_yes c x es is)) h in
      subst (λ (l : List G). Rises k.stamp l) (sym (tags_yes c x es is)) (
        (λ g h.
            let all : Has (map k.tag es) g = tags_all c es g h in
            ⊎_elim (λ (lt : k.stamp (k.tag x) < k.stamp g). lt)
            (λ (e : k.stamp (k.tag x) ≡ k.stamp g). absurd (once.0 (subst (λ (z : G). Has (map k.tag es) z)
            (sym (apart (k.tag x) g (there (k.tag x) (inl refl)) (there g (inr h)) e)) all)))
            (less_or_same (k.stamp (k.tag x)) (k.stamp g) (falls.0 g all))),
        tags_rise c es falls.1 once.1 (λ g h a b e. apart g h (there g (inr a)) (there h (inr b)) e),
      ))
      (λ (is : k.holds c x ≡ false).
      let there : (g : G) → Has (tags c es) g → Has (tags c (x ∷ es)) g =
      λ g h. subst (λ (l : List G). Has l g) (sym (tags_no c x es is)) h in
      subst (λ (l : List G). Rises k.stamp l) (sym (tags_no c x es is))
      (tags_rise c es falls.1 once.1 (λ g h a b e. apart g h (there g a) (there h b) e)))
      (either_way (k.holds c x))

  module _ (past : ℕ → List T) (state : ℕ → List T → S) where
    -- how a commit that comes next stands in the history of a channel that it held: the marks before it are those of
    -- the commits before it
    place : (done : List E) (e : E) (after : List E) (m : ℕ → S) (c : ℕ) → k.holds c e ≡ true
        → Rises k.stamp (map k.marked (past c))
        → map k.marked (past c) ≡ tags c done ++ tags c (e ∷ after)
        → (p : StandsAt k past state e m c) → length (kept c done) ≡ length p.before
    place done e after m c is rises split p =
        let marks_are : map k.marked (past c) ≡ map k.marked p.before ++ k.tag e ∷ map k.marked p.later =
        ap (λ (l : List T). map k.marked l) p.here ∙ (map-append k.marked p.before (p.mark ∷ p.later)
        ∙ ap (λ (g : G). map k.marked p.before ++ g ∷ map k.marked p.later) p.its) in
        let same : map k.marked p.before ≡ tags c done = one_place k.stamp (map k.marked p.before)
        (map k.marked p.later) (tags c done) (tags c after) (k.tag e)
        (subst (λ (l : List G). Rises k.stamp l) marks_are rises)
        (sym marks_are ∙ (split ∙ ap (λ (l : List G). tags c done ++ l) (tags_yes c e after is))) in
        sym (long_map k.tag (kept c done)) ∙ (ap (λ (l : List G). length l) (sym same) ∙ long_map k.marked p.before)

    -- what is left of the channels by one more commit
    next : (done : List E) (e : E) (after : List E) (m : ℕ → S)
        → ((c : ℕ) → m c ≡ state c (take (length (kept c done)) (past c))) → IsLocal k e → IsPlaced k past state e
        → ((c : ℕ) → Rises k.stamp (map k.marked (past c)))
        → ((c : ℕ) → map k.marked (past c) ≡ tags c done ++ tags c (e ∷ after))
        → k.gives e m
        × ((c : ℕ) → k.leaves e m c ≡ state c (take (length (kept c (done ++ e ∷ []))) (past c)))
    next done e after m at local placed rises split = (gives, leaves)
      where
        long : (c : ℕ) (is : k.holds c e ≡ true) → length (kept c done) ≡ length (placed.at c is).before
        long c is = place done e after placed.channels c is (rises c) (split c) (placed.at c is)

        was : (c : ℕ) (is : k.holds c e ≡ true) → take (length (kept c done)) (past c) ≡ (placed.at c is).before
        was c is = let p = placed.at c is in
            ap (λ (l : List T). take (length (kept c done)) l) p.here
            ∙ front p.before (p.mark ∷ p.later) (length (kept c done)) (long c is)

        count : (c : ℕ) (is : k.holds c e ≡ true)
            → length (kept c (done ++ e ∷ [])) ≡ length ((placed.at c is).before ++ (placed.at c is).mark ∷ [])
        count c is = let p = placed.at c is in
            let is_now : kept c (done ++ e ∷ []) ≡ kept c done ++ e ∷ [] = kept_both c done (e ∷ [])
            ∙ ap (λ (l : List E). kept c done ++ l) (kept_yes c e [] is) in
            omega (
              arith,
              ap (λ (l : List E). length l) is_now,
              length-append (kept c done) (e ∷ []),
              length-append p.before (p.mark ∷ []),
              long c is,
            )

        now : (c : ℕ) (is : k.holds c e ≡ true)
            → take (length (kept c (done ++ e ∷ []))) (past c) ≡ (placed.at c is).before ++ (placed.at c is).mark ∷ []
        now c is = let p = placed.at c is in
            ap (λ (l : List T). take (length (kept c (done ++ e ∷ []))) l)
            (p.here ∙ sym (append_assoc p.before (p.mark ∷ []) p.later))
            ∙ front (p.before ++ p.mark ∷ []) p.later (length (kept c (done ++ e ∷ []))) (count c is)

        alike : (c : ℕ) → k.holds c e ≡ true → placed.channels c ≡ m c
        alike c is = (placed.at c is).found ∙ (ap (state c) (sym (was c is)) ∙ sym (at c))

        gives : k.gives e m
        gives = local.same placed.channels m alike placed.gave

        stays : (c : ℕ) → k.holds c e ≡ false → kept c (done ++ e ∷ []) ≡ kept c done
        stays c is = kept_both c done (e ∷ []) ∙ (ap (λ (l : List E). kept c done ++ l) (kept_no c e [] is)
            ∙ append-nil (kept c done))

        leaves : (c : ℕ) → k.leaves e m c ≡ state c (take (length (kept c (done ++ e ∷ []))) (past c))
        leaves c = ⊎_elim
            (λ (is : k.holds c e ≡ true). sym (local.alike placed.channels m alike c is) ∙ ((placed.at c is).left
            ∙ ap (state c) (sym (now c is))))
            (λ (is : k.holds c e ≡ false). local.others m gives c is ∙ (at c
            ∙ ap (λ (l : List E). state c (take (length l) (past c))) (sym (stays c is))))
            (either_way (k.holds c e))

    -- the rest of an order follows from what the first part left
    runs_on : (done rest : List E) (m : ℕ → S)
        → ((c : ℕ) → m c ≡ state c (take (length (kept c done)) (past c)))
        → ((c : ℕ) → Rises k.stamp (map k.marked (past c)))
        → ((c : ℕ) → map k.marked (past c) ≡ tags c done ++ tags c rest)
        → ((e : E) → Has rest e → IsLocal k e) → ((e : E) → Has rest e → IsPlaced k past state e)
        → Follow k m rest (λ c. state c (past c))
    runs_on done [] m at rises split local placed = λ i c. all c i
      where
        long : (c : ℕ) → length (past c) ≡ length (kept c done)
        long c = sym (long_map k.marked (past c)) ∙ (ap (λ (l : List G). length l) (split c ∙ append-nil (tags c done))
            ∙ long_map k.tag (kept c done))

        all : (c : ℕ) → state c (past c) ≡ m c
        all c = sym (at c
            ∙ ap (state c) (take_all (length (kept c done)) (past c) (omega (arith, long c))))
    runs_on done (e ∷ rest) m at rises split local placed =
        let t = next done e rest m at (local e (inl refl)) (placed e (inl refl)) rises split in (
          t.0,
          runs_on (done ++ e ∷ []) rest (k.leaves e m) t.1 rises
              (λ c. split c ∙ (ap (λ (l : List G). tags c done ++ l) (tags_both c (e ∷ []) rest)
              ∙ (sym (append_assoc (tags c done) (tags c (e ∷ [])) (tags c rest))
              ∙ ap (λ (l : List G). l ++ tags c rest) (sym (tags_both c done (e ∷ []))))))
              (λ x h. local x (inr h)) (λ x h. placed x (inr h)),
        )

    pub one_history : (order : List E) → AreKept k past state order
        → Follow k (λ c. state c []) order (λ c. state c (past c))
    one_history order is = runs_on [] order (λ c. state c []) (λ c. refl) is.rises same is.local is.placed
      where
        stands : (c : ℕ) (g : G) → Has (tags c order) g → Has (map k.marked (past c)) g
        stands c g h =
            let t = tags_out c order g h in
            let p = (is.placed t.0 t.1).at c t.2 in
            subst (λ (z : G). Has (map k.marked (past c)) z) (p.its ∙ t.3)
            (has_map k.marked (past c) p.mark
            (subst (λ (l : List T). Has l p.mark) (sym p.here) (has_here p.before p.later p.mark)))

        rises : (c : ℕ) → Rises k.stamp (tags c order)
        rises c = tags_rise c order is.sorted is.once
            (λ g h a b e. rises_once k.stamp (map k.marked (past c)) (is.rises c) g h (stands c g a) (stands c h b) e)

        same : (c : ℕ) → map k.marked (past c) ≡ tags c order
        same c = same_rising k.stamp (map k.marked (past c)) (tags c order) (is.rises c) (rises c)
            (no_others (tags c order) (map k.marked (past c)) (rises_apart k.stamp (tags c order) (rises c)) (stands c)
            (omega (arith, long_map k.marked (past c), long_map k.tag (kept c order), is.counted c)))
            (stands c)
