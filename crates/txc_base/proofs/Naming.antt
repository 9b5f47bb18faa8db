-- The first kind with a name, sought one by one.
use Rattle.std.proofs.Common.{◌≡◌, ap, ℕ, zero, suc, ◌<◌, ◌+◌, add-one, List, [], ◌∷◌, length, drop, false, nat_eq}
use Rattle.std.proofs.Common.{arith, slice_index_or, Some, if◌then◌else◌}
use Rattle.std.specs.Cmp.Lexicographic.{pointwise}
use Rattle.txc_base.specs.declared.kind.Kind.{Kind}
use Rattle.txc_base.specs.Kinds.{name_of, named_among}

-- a kind with another name is passed
passed : (ks : List Kind) (i : ℕ) (d : Kind) (name : List ℕ) → i < length ks
    → pointwise nat_eq name (name_of (slice_index_or ks i d)) ≡ false
    → named_among (drop i ks) name ≡ named_among (drop (suc i) ks) name
passed [] i d name lt other = absurd (omega arith)
passed (k ∷ ks) zero d name lt other = ap (λ b. if b then Some k else named_among ks name) other
passed (k ∷ ks) (suc i) d name lt other = passed ks i d name (omega arith) other

-- the same, as a loop counts
pub passed_next : (ks : List Kind) (i : ℕ) (d : Kind) (name : List ℕ) → i < length ks
    → pointwise nat_eq name (name_of (slice_index_or ks i d)) ≡ false
    → named_among (drop i ks) name ≡ named_among (drop (i + 1) ks) name
passed_next ks i d name lt other = rw (add-one i) (passed ks i d name lt other)
