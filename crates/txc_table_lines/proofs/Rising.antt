-- Numbers that rise.
use Rattle.std.proofs.Common.{◌≡◌, ◌≤◌, ◌<◌, ℕ, zero, suc, List, [], ◌∷◌, length, drop, slice_index_or, arith}
use Rattle.txc_txn_check.specs.Limits.{RisesFrom}

-- the next of the numbers that are left, and those after it
pub rises_next : (least : ℕ) (numbers : List ℕ) (i : ℕ) → i < length numbers → RisesFrom least (drop i numbers)
    → (least ≤ slice_index_or numbers i 0) × RisesFrom (suc (slice_index_or numbers i 0)) (drop (suc i) numbers)
rises_next least [] i below rise = absurd (omega (arith, below))
rises_next least (n ∷ numbers) zero below rise = rise
rises_next least (n ∷ numbers) (suc i) below rise = rises_next least numbers i (omega (arith, below)) rise
