-- Lists of numbers, and whether a number is in them.
use Rattle.std.proofs.Common.{◌≡◌, ◌≢◌, sym, inl, inr, ◌⊎◌, ⊎_elim, ℕ, zero, suc, ◌<◌, List, [], ◌∷◌, length, arith}
use Rattle.std.proofs.Common.{slice_index_or, Contains}
use Rattle.std.proofs.lemmas.Bool.Decides.{eqb_tells}

tail_at : (n d : ℕ) (ds : List ℕ) → n ≢ d → (k : ℕ) → k < length (d ∷ ds) → slice_index_or (d ∷ ds) k n ≡ n
    → Contains ds n
tail_at n d ds ne zero lt e = absurd (ne (sym e))
tail_at n d ds ne (suc k) lt e = (k, omega arith, e)

pub contains_tail : (n d : ℕ) (ds : List ℕ) → n ≢ d → Contains (d ∷ ds) n → Contains ds n
contains_tail n d ds ne c = tail_at n d ds ne c.0 c.1 c.2

pub contains_none : (n : ℕ) → Contains [] n → ⊥
contains_none n c = absurd (omega (arith, c.1))

pub contains_later : (n d : ℕ) (ds : List ℕ) → Contains ds n → Contains (d ∷ ds) n
contains_later n d ds c = (suc c.0, omega (arith, c.1), c.2)

-- a list has a number, or has it not
pub tells : (ds : List ℕ) (n : ℕ) → Contains ds n ⊎ (¬ Contains ds n)
tells [] n = inr (contains_none n)
tells (d ∷ ds) n =
    elim (eqb_tells n d) [
      | inl t ↦ inl (0, omega arith, sym t.1)
      | inr t ↦ ⊎_elim (λ c. inl (contains_later n d ds c)) (λ no. inr (λ c. no (contains_tail n d ds t.1 c)))
          (tells ds n)
    ]
