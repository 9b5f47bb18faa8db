-- What tests find of lists, element by element.
use Rattle.std.proofs.Common.{◌≡◌, refl, sym, ◌∙◌, ap, subst, ℕ, ◌+◌, ◌<◌, ◌≤◌, Bool, true, false, IsTrue, Option, List}
use Rattle.std.proofs.Common.{[], ◌∷◌, ◌++◌, length, take, slice_index_or, All, arith}
use Rattle.std.proofs.lemmas.List.{take_all, take_more}
use Rattle.std.proofs.lemmas.List.Elements.{All-append, All-cons}
use Rattle.txc_base.specs.declared.kind.Kind.{Kind}
use Rattle.txc_txn_check.specs.declared.step.Step.{Step}
use Rattle.txc_txn_check.specs.Steps.{Fits, fits_in, is_fit}
use Rattle.txc_txn_check.proofs.Checking.{all_to}

-- what is so is answered with true
pub accepted : {X : Type 0} → X → (IsTrue true → X) × (X → IsTrue true)
accepted x = (λ e. x, λ x. refl)

-- what is not so is answered with false
pub refused : {X : Type 0} (value : Bool) → value ≡ false → ¬ X → (IsTrue value → X) × (X → IsTrue value)
refused value is not = (λ e. absurd (cc (is, e)), λ x. absurd (not x))

-- what is answered with false is not so
pub refuted : {X : Type 0} (value : Bool) → (X → IsTrue value) → value ≡ false → ¬ X
refuted value tells is x = let bad : false ≡ true = sym is ∙ tells x in cc

-- one more has the fact
pub all_more : {X : Type 0} (P : X → Type 0) (xs : List X) (i : ℕ) (x : X) → i < length xs → slice_index_or xs i x ≡ x
    → P x → All P (take i xs) → All P (take (i + 1) xs)
all_more {X} P xs i x lt is holds all =
    let more : take (i + 1) xs ≡ take i xs ++ x ∷ [] = take_more xs i x lt ∙ ap (λ y. take i xs ++ y ∷ []) is in
    subst (λ ys. All P ys) (sym more)
    (All-append P (take i xs) (x ∷ []) all (All-cons P x [] holds (λ k d below. absurd (omega (arith, below)))))

-- all have it
pub all_done : {X : Type 0} (P : X → Type 0) (xs : List X) (i : ℕ) → length xs ≤ i → All P (take i xs) → All P xs
all_done P xs i le all = subst (λ ys. All P ys) (take_all i xs le) all

-- one that lacks it is one of all
pub not_all : {X : Type 0} (P : X → Type 0) (xs : List X) (i : ℕ) (x : X) → i < length xs → slice_index_or xs i x ≡ x
    → ¬ P x → ¬ All P xs
not_all P xs i x lt is not all = not (subst P is (all i x lt))

-- steps that were found not to fit do not
pub unfit : (kinds : ℕ → Option Kind) (steps : List Step) (fits : Bool) → fits ≡ fits_in kinds steps → fits ≡ false
    → ¬ Fits kinds steps
unfit kinds steps fits value is all = let so : fits_in kinds steps ≡ true = all_to (is_fit kinds) steps all in
    absurd (cc (value, is, so))
