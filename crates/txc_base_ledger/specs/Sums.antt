-- The arithmetic of a ledger's rows, by hand: no tactic picks what a contract rests on.
use Rattle.std.specs.Prelude.{◌≡◌, ℕ, ◌+◌, ◌≤◌}
use mathlib.Core.Path.{sym, ◌∙◌, subst}
use native.Mathlib.Nat.{zero-add, add_comm, add_assoc, le_trans, le_antisymm, le-add_left, le-add_right}
use native.Mathlib.Nat.{add-le-add_iff_right}

-- a sum is the same in either order
pub sum_comm : (a b : ℕ) → a + b ≡ b + a
sum_comm = add_comm

-- a sum of three is the same however it is grouped
pub sum_assoc : (a b c : ℕ) → a + (b + c) ≡ (a + b) + c
sum_assoc a b c = sym (add_assoc a b c)

-- the second term of a sum is at most a bound of the sum
pub rest_below : (a b n : ℕ) → a + b ≤ n → b ≤ n
rest_below a b n h = le_trans (le-add_left b a) h

-- no number is below 0
nothing_below : (n : ℕ) → 0 ≤ n
nothing_below n = subst (λ (z : ℕ). 0 ≤ z) (zero-add n) (le-add_right 0 n)

-- a number that is at most 0 is 0
nothing : (n : ℕ) → n ≤ 0 → n ≡ 0
nothing n h = le_antisymm h (nothing_below n)

-- if each of two shares without a part has no amount, then both together without a part have no amount
pub sum_backed : (p q a b : ℕ) → (p ≡ 0 → a ≡ 0) → (q ≡ 0 → b ≡ 0) → p + q ≡ 0 → a + b ≡ 0
sum_backed p q a b f g e =
    let x = f (nothing p (subst (λ (z : ℕ). p ≤ z) e (le-add_right p q))) in
    let y = g (nothing q (subst (λ (z : ℕ). q ≤ z) e (le-add_left q p))) in
    λ i. x i + y i

-- if the second has all parts, the first has none and counts nothing, so the second counts all
pub rest_whole : (p q a b n t : ℕ) → p + q ≤ n → (p ≡ 0 → a ≡ 0) → (p + q ≡ n → a + b ≡ t) → q ≡ n → b ≡ t
rest_whole p q a b n t h backed whole e =
    let within : p + q ≤ 0 + q = subst (λ (z : ℕ). p + q ≤ z) (sym e ∙ sym (zero-add q)) h in
    let none : p ≡ 0 = nothing p ((add-le-add_iff_right q).0 within) in
    let nil = backed none in
    sym (zero-add b) ∙ ((λ i. sym nil i + b) ∙ whole ((λ i. none i + q) ∙ (zero-add q ∙ e)))
