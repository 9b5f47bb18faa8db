-- Lists that grow by one.
use Rattle.std.proofs.Common.{◌≡◌, refl, inl, inr, ◌⊎◌, ℕ, zero, suc, Some, List, [], ◌∷◌, ◌++◌, length, arith}
use Rattle.std.proofs.Common.{slice_get}

-- what stands in a list with one more at its end
pub get_push : {X : Type 0} (xs : List X) (x : X) (k : ℕ) (y : X) → slice_get (xs ++ x ∷ []) k ≡ Some y
    → (slice_get xs k ≡ Some y) ⊎ ((k ≡ length xs) × (x ≡ y))
get_push [] x zero y h = let is : x ≡ y = cc in inr (refl, is)
get_push [] x (suc k) y h = cc
get_push (z ∷ zs) x zero y h = inl h
get_push (z ∷ zs) x (suc k) y h = elim (get_push zs x k y h) [ inl t ↦ inl t | inr t ↦ inr (omega (arith, t.0), t.1) ]
