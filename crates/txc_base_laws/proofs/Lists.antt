-- What stands at a place of a list of lists after a change.
use Rattle.std.proofs.Common.{◌≡◌, refl, sym, ap, ℕ, zero, suc, ◌⊎◌, inl, inr, ⊎_elim, Some, List, [], ◌∷◌, ◌++◌}
use Rattle.std.proofs.Common.{length, map, set, replicate, slice_get, arith}
use Rattle.std.proofs.lemmas.Option.{same_Some}

-- at a place that was written
pub at_set_same : {X : Type 0} (xs : List X) (r : ℕ) (x v : X) → slice_get xs r ≡ Some x
    → slice_get (set xs r v) r ≡ Some v
at_set_same [] r x v e = cc
at_set_same (y ∷ xs) zero x v e = refl
at_set_same (y ∷ xs) (suc r) x v e = at_set_same xs r x v e

-- at another place than the one that was written
pub at_set_other : {X : Type 0} (xs : List X) (r k : ℕ) (v : X) → (k ≡ r → ⊥)
    → slice_get (set xs r v) k ≡ slice_get xs k
at_set_other [] r k v ne = refl
at_set_other (y ∷ xs) zero zero v ne = absurd (ne refl)
at_set_other (y ∷ xs) zero (suc k) v ne = refl
at_set_other (y ∷ xs) (suc r) zero v ne = refl
at_set_other (y ∷ xs) (suc r) (suc k) v ne = at_set_other xs r k v (λ e. ne (ap suc e))

-- what stands at a place after one was written
pub from_set : {X : Type 0} (xs : List X) (r k : ℕ) (v y : X) → slice_get (set xs r v) k ≡ Some y
    → ((k ≡ r) × (y ≡ v)) ⊎ ((k ≡ r → ⊥) × (slice_get xs k ≡ Some y))
from_set [] r k v y e = cc
from_set (x ∷ xs) zero zero v y e = inl (refl, sym (same_Some v y e))
from_set (x ∷ xs) zero (suc k) v y e = inr (omega arith, e)
from_set (x ∷ xs) (suc r) zero v y e = inr (omega arith, e)
from_set (x ∷ xs) (suc r) (suc k) v y e =
    ⊎_elim (λ h. inl (ap suc h.0, h.1)) (λ h. inr ((λ same. h.0 (omega arith)), h.1)) (from_set xs r k v y e)

-- an old place after a push
pub at_push_old : {X : Type 0} (xs : List X) (k : ℕ) (v x : X) → slice_get xs k ≡ Some x
    → slice_get (xs ++ v ∷ []) k ≡ Some x
at_push_old [] k v x e = cc
at_push_old (y ∷ xs) zero v x e = e
at_push_old (y ∷ xs) (suc k) v x e = at_push_old xs k v x e

-- what stands at a place after a push
pub from_push : {X : Type 0} (xs : List X) (k : ℕ) (v y : X) → slice_get (xs ++ v ∷ []) k ≡ Some y
    → ((k ≡ length xs) × (y ≡ v)) ⊎ (slice_get xs k ≡ Some y)
from_push [] zero v y e = inl (refl, sym (same_Some v y e))
from_push [] (suc k) v y e = cc
from_push (x ∷ xs) zero v y e = inr e
from_push (x ∷ xs) (suc k) v y e = ⊎_elim (λ h. inl (ap suc h.0, h.1)) (λ h. inr h) (from_push xs k v y e)

-- a place of a list that was mapped
pub at_map : {X Y : Type 0} (f : X → Y) (xs : List X) (k : ℕ) (x : X) → slice_get xs k ≡ Some x
    → slice_get (map f xs) k ≡ Some (f x)
at_map f [] k x e = cc
at_map f (z ∷ xs) zero x e = ap (λ y. Some (f y)) (same_Some z x e)
at_map f (z ∷ xs) (suc k) x e = at_map f xs k x e

-- what stands at a place of a list that was mapped
pub from_map : {X Y : Type 0} (f : X → Y) (xs : List X) (k : ℕ) (y : Y) → slice_get (map f xs) k ≡ Some y → (x : X)
    × ((slice_get xs k ≡ Some x) × (y ≡ f x))
from_map f [] k y e = cc
from_map f (z ∷ xs) zero y e = (z, (refl, sym (same_Some (f z) y e)))
from_map f (z ∷ xs) (suc k) y e = from_map f xs k y e

-- what stands at a place of equal elements
pub from_replicate : {X : Type 0} (n k : ℕ) (v y : X) → slice_get (replicate n v) k ≡ Some y → y ≡ v
from_replicate zero k v y e = cc
from_replicate (suc n) zero v y e = sym (same_Some v y e)
from_replicate (suc n) (suc k) v y e = from_replicate n k v y e

-- a place that is written with what stands there
pub set_there : {X : Type 0} (xs : List X) (r : ℕ) (x : X) → slice_get xs r ≡ Some x → set xs r x ≡ xs
set_there [] r x e = refl
set_there (y ∷ xs) zero x e = ap (λ z. z ∷ xs) (sym (same_Some y x e))
set_there (y ∷ xs) (suc r) x e = ap (λ l. y ∷ l) (set_there xs r x e)
