-- Each step keeps the rule of a cell.
use Rattle.std.proofs.Common.{◌≡◌, ℕ, ◌∷◌, [], List, Option, None, Some, get_or, set, sym, refl, ◌∙◌, subst}
use Rattle.std.proofs.Common.{ap, arith, length-set, get_or-set_same, zero, suc}
use mathlib.Core.Logic.{dite}
use mathlib.Core.Option.{some, some-injective, some-ne-none}
use native.Mathlib.Decide.{ℕ_discrete}
use lib.ListN.{get_elem?}
use Rattle.atomic_table.specs.Table.{State, keeps, takes, gives, Allows, Arrives, Final}
use Rattle.atomic_table.proofs.Lists.{set_here}
use Rattle.yalwythen_work.specs.OneShot.{HasEmptySlot, IsKept}
use Rattle.yalwythen_work.specs.declared.states.TheConstants.{CLAIMED, EMPTY, FULL}

-- a number that is found at a place is read there
index_at : (numbers : List ℕ) (i n : ℕ) → get_elem? numbers i ≡ some n → get_or numbers i 0 ≡ n
index_at [] i n e = absurd (some-ne-none n (sym e))
index_at (m ∷ numbers) zero n e = some-injective m n e
index_at (m ∷ numbers) (suc i) n e = index_at numbers i n e

-- the value, or this one if there is none
abbrev value_or : {X : Type 0} → X → Option X → X
value_or other None = other
value_or other (Some value) = value

module _ {X V : Type 0} (fits : X → Type 0) where
  -- the word that is written is read
  written : (s : State (Option X) V) (new : ℕ) → IsKept fits s → get_or (set s.words 0 new) 0 0 ≡ new
  written s new kept = get_or-set_same s.words 0 new 0 (omega (arith, kept.words))

  -- a step that finds an empty cell takes its slot
  pub claims_it : (slots : ℕ) (view : V)
      → Arrives {V = V} (IsKept fits) slots 0 (λ _. CLAIMED) (λ found after. found ≡ EMPTY → HasEmptySlot after)
  claims_it slots view s kept wide below =
      let reads = written s CLAIMED kept in
      dite (ℕ_discrete (get_or s.words 0 0) EMPTY)
      (λ empty. (
        view,
        takes 0 None,
        kept.empty empty,
        record {
          words = length-set s.words 0 CLAIMED ∙ kept.words;
          empty = λ e. absurd (omega (arith, reads, e));
          full = λ e. absurd (omega (arith, reads, e));
        },
        λ _. refl,
      ))
      (λ claimed. (
        view,
        keeps,
        tt,
        record {
          words = length-set s.words 0 CLAIMED ∙ kept.words;
          empty = λ e. absurd (omega (arith, reads, e));
          full = λ e. absurd (omega (arith, reads, e));
        },
        λ e. absurd (claimed e),
      ))

  -- a value that fits fills the cell
  pub fills_it : (id : ℕ) (view : V) (others : List (ℕ × Option X)) (value : X) → fits value
      → Allows (IsKept fits) 1 id (view, (0, Some value) ∷ others) 0 (λ _. FULL) (λ _ _. Unit {0})
  fills_it id view others value fit s kept wide at below =
      let reads = written s FULL kept in (
        view,
        gives,
        tt,
        record {
          words = length-set s.words 0 FULL ∙ kept.words;
          empty = λ e. absurd (omega (arith, reads, e));
          full = λ _. (value, set_here s.homes 0 (some (Some value)) (omega (arith, wide)), fit);
        },
        tt,
      )

  -- what is left in a full cell fits
  pub is_in_full : (words : List ℕ) (slots : List (Option X)) (state : ℕ) (value : X)
      → Final {V = V} (IsKept fits) words slots → get_elem? words 0 ≡ some state
      → get_elem? slots 0 ≡ some (Some value) → state ≡ FULL → fits value
  is_in_full words slots state value final at has full =
      let reads : get_or final.0.words 0 0 ≡ state = index_at final.0.words 0 state
      (subst (λ (w : List ℕ). get_elem? w 0 ≡ some state) (sym final.2) at) in
      let home = final.1.full (reads ∙ full) in
      let same : Some home.0 ≡ Some value = some-injective (Some home.0) (Some value)
      (sym (final.4 0 (Some home.0) home.1) ∙ has) in
      subst fits (ap (value_or value) same) home.2
