-- The greatest of a stamp and those of some channels.
use Rattle.std.proofs.Common.{ℕ, zero, suc, ◌<◌, ◌≤◌, max, List, [], ◌∷◌, length, arith, slice_index_or}
use Rattle.txc_txn.specs.Maps.{Map}
use Rattle.txc_txn.specs.Transaction.{greatest}

-- the greatest is no less than what it began with
pub greatest_first : (m : Map) (most : ℕ) (ns : List ℕ) → most ≤ greatest m most ns
greatest_first m most [] = omega arith
greatest_first m most (n ∷ ns) =
    let more : max most (m n).stamp ≤ greatest m (max most (m n).stamp) ns =
    greatest_first m (max most (m n).stamp) ns in
    omega (arith, more)

-- .. nor than the stamp of each of the channels
pub greatest_each : (m : Map) (most : ℕ) (ns : List ℕ) (k d : ℕ) → k < length ns
    → (m (slice_index_or ns k d)).stamp ≤ greatest m most ns
greatest_each m most [] k d lt = absurd (omega (arith, lt))
greatest_each m most (n ∷ ns) zero d lt =
    let more : max most (m n).stamp ≤ greatest m (max most (m n).stamp) ns =
    greatest_first m (max most (m n).stamp) ns in
    omega (arith, more)
greatest_each m most (n ∷ ns) (suc k) d lt = greatest_each m (max most (m n).stamp) ns k d (omega arith)
