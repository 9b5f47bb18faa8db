-- Each step keeps the rule of a lock.
use Rattle.std.proofs.Common.{◌≡◌, ◌≢◌, ℕ, ◌∷◌, [], get_or, set, length, sym, refl, ◌∙◌, subst, arith, length-set}
use Rattle.std.proofs.Common.{get_or-set_same, ◌==◌, List, zero, suc, ⊎_elim}
use mathlib.Core.Option.{some, some-injective, some-ne-none}
use lib.ListN.{get_elem?}
use prog.Atomic.{either}
use Rattle.atomic_table.specs.Table.{State, Me, Act, keeps, takes, gives, Valid, Allows, Final, stepped}
use Rattle.atomic_table.specs.Table.{carried_after}
use Rattle.atomic_table.proofs.Lists.{exchanged, set_here}
use Rattle.txc_table_lock.specs.Lock.{HasValue, IsFree, IsKept}
use Rattle.txc_table_lock.specs.declared.words.TheConstants.{STATE, TAKEN}

-- a lock that is taken is not free
pub taken_is_taken : ¬ IsFree TAKEN
taken_is_taken free = ⊎_elim (λ e. omega (arith, e)) (λ e. omega (arith, e)) free

-- a number that is found at a place is read there
index_at : (numbers : List ℕ) (i n : ℕ) → get_elem? numbers i ≡ some n → get_or numbers i 0 ≡ n
index_at [] i n e = absurd (some-ne-none n (sym e))
index_at (m ∷ numbers) zero n e = some-injective m n e
index_at (m ∷ numbers) (suc i) n e = index_at numbers i n e

module _ {X G : Type 0} (holds : X → Type 0) where
  -- the word that is written is read
  written : (s : State X G) (new : ℕ) → IsKept holds s → get_or (set s.words STATE new) STATE 0 ≡ new
  written s new kept = get_or-set_same s.words STATE new 0 (omega (arith, kept.words))

  -- what a step on the word may leave, by which number it writes
  abbrev Leaves : State X G → ℕ → Me X G → (Me X G → Type 0) → ℕ → Type 0
  Leaves s id me then new = (w : G) × (a : Act X) × Valid s.homes me.1 a
      × IsKept holds (stepped s STATE new id me.1 w a)
      × then (w, carried_after me.1 a)

  -- a step that takes nothing and puts nothing back may write that the lock is not free
  marks : (s : State X G) (id new : ℕ) (me : Me X G) (then : Me X G → Type 0) → IsKept holds s → ¬ IsFree new → then me
      → Leaves s id me then new
  marks s id new me then kept taken is = (
    me.0,
    keeps,
    tt,
    record {
      words = length-set s.words STATE new ∙ kept.words;
      home = λ free. absurd (taken (subst IsFree (written s new kept) free));
    },
    is,
  )

  -- a step that finds another number leaves all as it is
  misses : (s : State X G) (id : ℕ) (me : Me X G) (then : Me X G → Type 0) → IsKept holds s → then me
      → Leaves s id me then (get_or s.words STATE 0)
  misses s id me then kept is = let n = get_or s.words STATE 0 in (
    me.0,
    keeps,
    tt,
    record {
      words = length-set s.words STATE n ∙ kept.words;
      home = λ free. kept.home (subst IsFree (written s n kept) free);
    },
    is,
  )

  -- a step that finds a free lock takes its value
  pub takes_it : (id free taken : ℕ) (label : G) → IsFree free → ¬ IsFree taken
      → Allows (IsKept holds) 1 id (label, []) STATE (λ n. either (n == free) taken n)
      (λ found after. (found ≡ free → HasValue holds after) × (found ≢ free → after ≡ (label, [])))
  takes_it id free taken label is_free is_taken s kept wide at below =
      let n = get_or s.words STATE 0 in
      let then : Me X G → Type 0 = λ after. (n ≡ free → HasValue holds after) × (n ≢ free → after ≡ (label, [])) in
      exchanged n free taken (Leaves s id (label, []) then)
      (λ e. let v = kept.home (subst IsFree (sym e) is_free) in (
        label,
        takes 0 v.0,
        v.1,
        record {
          words = length-set s.words STATE taken ∙ kept.words;
          home = λ f. absurd (is_taken (subst IsFree (written s taken kept) f));
        },
        (λ _. (v.0, refl, v.2), λ ne. absurd (ne e)),
      ))
      (λ ne. misses s id (label, []) then kept (λ e. absurd (ne e), λ _. refl))

  -- a step puts the value back
  gives_it : (s : State X G) (id new : ℕ) (label : G) (value : X) (then : Me X G → Type 0) → IsKept holds s
      → length s.homes ≡ 1 → holds value → then (label, []) → Leaves s id (label, (0, value) ∷ []) then new
  gives_it s id new label value then kept wide fit is = (
    label,
    gives,
    tt,
    record {
      words = length-set s.words STATE new ∙ kept.words;
      home = λ _. (value, set_here s.homes 0 (some value) (omega (arith, wide)), fit);
    },
    is,
  )

  -- the value is put back if the number is found that is looked for
  pub leaves_it : (id taken free : ℕ) (me : Me X G) → HasValue holds me
      → Allows (IsKept holds) 1 id me STATE (λ n. either (n == taken) free n)
      (λ found after. found ≢ taken → after ≡ me)
  leaves_it id taken free me has =
      subst (λ (x : Me X G). Allows (IsKept holds) 1 id x STATE (λ n. either (n == taken) free n)
      (λ found after. found ≢ taken → after ≡ x)) (λ i. (me.0, sym has.1 i))
      (λ s kept wide at below. let n = get_or s.words STATE 0 in let x : Me X G = (me.0, (0, has.0) ∷ []) in
      let then : Me X G → Type 0 = λ after. n ≢ taken → after ≡ x in
      exchanged n taken free (Leaves s id x then)
      (λ e. gives_it s id free me.0 has.0 then kept wide has.2 (λ ne. absurd (ne e)))
      (λ ne. misses s id x then kept (λ _. refl)))

  -- the value is put back whatever number is found
  pub hands_over : (id left : ℕ) (me : Me X G) (then : Me X G → Type 0) → HasValue holds me
      → ((after : Me X G) → then after) → Allows (IsKept holds) 1 id me STATE (λ _. left) (λ _. then)
  hands_over id left me then has all =
      subst (λ (x : Me X G). Allows (IsKept holds) 1 id x STATE (λ _. left) (λ _. then)) (λ i. (me.0, sym has.1 i))
      (λ s kept wide at below. gives_it s id left me.0 has.0 then kept wide has.2 (all (me.0, [])))

  -- a seat that has nothing may write that the lock is not free
  pub marks_it : (id seen taken : ℕ) (me : Me X G) → ¬ IsFree taken
      → Allows (IsKept holds) 1 id me STATE (λ n. either (n == seen) taken n) (λ _ after. after ≡ me)
  marks_it id seen taken me is_taken s kept wide at below =
      let n = get_or s.words STATE 0 in
      exchanged n seen taken (Leaves s id me (λ after. after ≡ me))
      (λ _. marks s id taken me (λ after. after ≡ me) kept is_taken refl)
      (λ _. misses s id me (λ after. after ≡ me) kept refl)

  -- the value that is left in a free lock fits
  pub left_fits : (words : List ℕ) (slots : List X) (state : ℕ) (value : X) → Final {V = G} (IsKept holds) words slots
      → get_elem? words STATE ≡ some state → get_elem? slots 0 ≡ some value → IsFree state → holds value
  left_fits words slots state value final at has free =
      let reads : get_or final.0.words STATE 0 ≡ state = index_at final.0.words STATE state
      (subst (λ (w : List ℕ). get_elem? w STATE ≡ some state) (sym final.2) at) in
      let home = final.1.home (subst IsFree (sym reads) free) in
      subst holds (some-injective home.0 value (sym (final.4 0 home.0 home.1) ∙ has)) home.2
