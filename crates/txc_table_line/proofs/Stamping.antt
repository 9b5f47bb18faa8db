-- The stamps under a lock never fall.
use Rattle.std.proofs.Common.{sym, subst, suc, ◌∙◌, append-nil, append_assoc, ℕ, ◌<◌, ◌≤◌, ◌≡◌, ◌+◌, ◌-◌, List, [], ◌∷◌}
use Rattle.std.proofs.Common.{◌++◌, All, length, take, drop, slice_index_or, arith}
use Rattle.std.proofs.lemmas.List.{take-append-drop, take-append-le, take_all}
use Rattle.std.proofs.lemmas.List.Elements.{All-append, All-cons}
use Rattle.std.proofs.lemmas.List.Quantifiers.{all_pairs_push}
use Rattle.txc_base.specs.declared.entry.Entry.{Entry}
use Rattle.txc_table_line.specs.Stamps.{IsStamped, NeverFall}

-- with one more entry that has the greatest stamp
one_more : (stamp : ℕ) (log : List Entry) (entry : Entry) → IsStamped stamp log → entry.tag.stamp ≡ stamp
    → IsStamped stamp (log ++ entry ∷ [])
one_more stamp log entry is its = record {
  never_fall = all_pairs_push (λ (one other : Entry). one.tag.stamp ≤ other.tag.stamp) log entry is.never_fall
      (λ k d lt. subst (λ s. (slice_index_or log k d).tag.stamp ≤ s) (sym its) (is.below k d lt));
  below = All-append (λ (entry : Entry). entry.tag.stamp ≤ stamp) log (entry ∷ []) is.below
      (All-cons (λ (entry : Entry). entry.tag.stamp ≤ stamp) entry [] (omega (arith, its))
      (λ k d lt. absurd (omega (arith, lt))));
}

-- with more entries that all have it
more : (stamp : ℕ) (log added : List Entry) → IsStamped stamp log → All (λ entry. entry.tag.stamp ≡ stamp) added
    → IsStamped stamp (log ++ added)
more stamp log [] is all = subst (IsStamped stamp) (sym (append-nil log)) is
more stamp log (entry ∷ added) is all =
    subst (IsStamped stamp) (append_assoc log (entry ∷ []) added)
    (more stamp (log ++ entry ∷ []) added (one_more stamp log entry is (all 0 entry (omega arith)))
    (λ k d lt. all (suc k) d (omega (arith, lt))))

-- the entries of before stay as they are where a log grows
pub stamped_grown : (total stamp : ℕ) (log added : List Entry) → total ≤ length log → IsStamped stamp (take total log)
    → IsStamped stamp (take total (log ++ added))
stamped_grown total stamp log added within is = subst (IsStamped stamp) (sym (take-append-le total log added within)) is

-- a log is stamped whole where all that could be undone is settled with a later stamp
pub stamped_settled : (total pending low stamp : ℕ) (log : List Entry) → total + pending ≡ length log
    → IsStamped low (take total log) → low < stamp
    → All (λ entry. entry.tag.stamp ≡ stamp) (drop (length log - pending) log)
    → IsStamped stamp (take (total + pending) log)
stamped_settled total pending low stamp log booked is later all =
    let rest : All (λ (entry : Entry). entry.tag.stamp ≡ stamp) (drop total log) =
    subst (λ n. All (λ (entry : Entry). entry.tag.stamp ≡ stamp) (drop n log)) (omega (arith, booked)) all in
    let before : IsStamped stamp (take total log) = record {
      never_fall = is.never_fall;
      below = λ k d lt. omega (arith, is.below k d lt, later);
    } in
    subst (IsStamped stamp) (take-append-drop total log ∙ sym (take_all (total + pending) log (omega (arith, booked))))
    (more stamp (take total log) (drop total log) before rest)

-- .. so where nothing can be undone, its stamps never fall
pub never_falls : (total stamp : ℕ) (log : List Entry) → total ≡ length log → IsStamped stamp (take total log)
    → NeverFall log
never_falls total stamp log whole is = subst NeverFall (take_all total log (omega (arith, whole))) is.never_fall
