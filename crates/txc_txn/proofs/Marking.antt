-- The marks of the declared channels, taken one by one.
use Rattle.std.proofs.Common.{◌≡◌, refl, sym, ◌∙◌, ap, subst, inl, inr, ℕ, zero, suc, ◌<◌, ◌+◌, List, [], ◌∷◌, ◌++◌}
use Rattle.std.proofs.Common.{length, take, arith, slice_index_or}
use Rattle.std.proofs.lemmas.Bool.Decides.{eqb_tells}
use Rattle.txc_chan.specs.Logged.{MatchesLog}
use Rattle.txc_txn.specs.Growth.{marks_of}
use Rattle.txc_txn.specs.Maps.{Map}

-- within a list it does not matter what stands for what is missing
pub same_at : (xs : List ℕ) (k d d' : ℕ) → k < length xs → slice_index_or xs k d ≡ slice_index_or xs k d'
same_at [] k d d' lt = absurd (omega arith)
same_at (x ∷ xs) zero d d' lt = refl
same_at (x ∷ xs) (suc k) d d' lt = same_at xs k d d' (omega arith)

marks_suc : (m : Map) (ns : List ℕ) (i d : ℕ) → i < length ns
    → marks_of m (take (suc i) ns) ≡ marks_of m (take i ns) ++ (m (slice_index_or ns i d)).pending ∷ []
marks_suc m [] i d lt = absurd (omega arith)
marks_suc m (x ∷ ns) zero d lt = refl
marks_suc m (x ∷ ns) (suc i) d lt = ap (λ l. (m x).pending ∷ l) (marks_suc m ns i d (omega arith))

-- the marks of one channel more
pub marks_more : (m : Map) (ns : List ℕ) (i d : ℕ) (marks : List ℕ) (mark : ℕ) → i < length ns
    → marks ≡ marks_of m (take i ns) → mark ≡ (m (slice_index_or ns i d)).pending
    → marks ++ mark ∷ [] ≡ marks_of m (take (i + 1) ns)
marks_more m ns i d marks mark lt is e =
    let n : suc i ≡ i + 1 = omega arith in
    (λ j. is j ++ e j ∷ []) ∙ sym (marks_suc m ns i d lt) ∙ ap (λ k. marks_of m (take k ns)) n

-- the first channels and the next are lawful
pub lawful_more : (m : Map) (ns : List ℕ) (i d : ℕ) → i < length ns
    → ((k d : ℕ) → k < i → MatchesLog (m (slice_index_or ns k d))) → MatchesLog (m (slice_index_or ns i d))
    → (k d : ℕ) → k < i + 1 → MatchesLog (m (slice_index_or ns k d))
lawful_more m ns i d lt below here k d' h =
    elim (eqb_tells k i) [
      | inl t ↦ subst (λ (n : ℕ). MatchesLog (m n)) (same_at ns i d d' lt ∙ ap (λ n. slice_index_or ns n d') (sym t.1))
          here
      | inr t ↦ below k d' (omega (arith, t.1))
    ]
