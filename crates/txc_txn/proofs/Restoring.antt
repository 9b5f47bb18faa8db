-- How the declared channels are restored, one by one.
use Rattle.std.proofs.Common.{◌≡◌, ◌≢◌, refl, sym, ◌∙◌, ap, subst, inl, inr, ◌⊎◌, ⊎_elim, ℕ, zero, suc, ◌<◌, ◌≤◌, ◌+◌}
use Rattle.std.proofs.Common.{add-one, drop-cons, false, List, [], ◌∷◌, length, drop, arith, nat_eq, slice_index_or}
use Rattle.std.proofs.Common.{All, Contains, Some, if◌then◌else◌}
use Rattle.std.proofs.lemmas.Bool.Decides.{eqb_tells}
use Rattle.txc_base.specs.declared.tag.Tag.{Tag}
use Rattle.txc_chan.specs.declared.decl.Decl.{Decl}
use Rattle.txc_chan.specs.Logged.{Logged, MatchesLog}
use Rattle.txc_txn_check.proofs.Containing.{contains_none, contains_tail, tells}
use Rattle.txc_txn.specs.Growth.{Grows, AllGrow, SameOutside, marks_of, IsMarked}
use Rattle.txc_txn.specs.Maps.{Map, kinds_of, put_at}
use Rattle.txc_txn.proofs.Growing.{grows_same}
use Rattle.txc_txn.proofs.Marking.{same_at}

-- a channel that is the earlier one again, or is one of those still to be undone
abbrev pub BackOr : Tag → List ℕ → Map → Map → ℕ → Type 0
BackOr tag left before now n = (now n ≡ before n) ⊎ (Contains left n × Grows tag (before n) (now n))

pub drop_at : {X : Type 0} (xs : List X) (i : ℕ) (x : X) → i < length xs → x ≡ slice_index_or xs i x
    → drop i xs ≡ x ∷ drop (i + 1) xs
drop_at xs i x lt e = rw (add-one, drop-cons xs i x) (ap (λ y. y ∷ drop (suc i) xs) (sym e))

pub back_first : (tag : Tag) (m now : Map) (ds marks : List ℕ) → IsMarked tag ds marks m now → (n : ℕ)
    → BackOr tag ds m now n
back_first tag m now ds marks k n = ⊎_elim (λ c. inr (c, k.grows n)) (λ no. inl (k.others n no)) (tells ds n)

mark_at : (m : Map) (ds : List ℕ) (i : ℕ) (d d' : ℕ) → i < length ds
    → slice_index_or (marks_of m ds) i d ≡ (m (slice_index_or ds i d')).pending
mark_at m [] i d d' lt = absurd (omega arith)
mark_at m (x ∷ ds) zero d d' lt = refl
mark_at m (x ∷ ds) (suc i) d d' lt = mark_at m ds i d d' (omega arith)

grows_now : (tag : Tag) (m now : Map) (ds : List ℕ) (n : ℕ) → BackOr tag ds m now n → Grows tag (m n) (now n)
grows_now tag m now ds n (inl e) = grows_same tag (m n) (now n) e
grows_now tag m now ds n (inr p) = p.1

-- one channel more is restored
back_next : (tag : Tag) (m m1 m2 : Map) (ds marks : List ℕ) (i chan mark : ℕ) → i < length ds
    → chan ≡ slice_index_or ds i chan → mark ≡ slice_index_or marks i mark
    → marks ≡ marks_of m ds → All (λ n. MatchesLog (m n)) ds
    → m2 ≡ put_at m1 chan (m2 chan)
    → ((a : Logged) → MatchesLog a → a.pending ≡ mark → Grows tag a (m1 chan) → m2 chan ≡ a)
    → ((n : ℕ) → BackOr tag (drop i ds) m m1 n)
    → (n : ℕ) → BackOr tag (drop (i + 1) ds) m m2 n
back_next tag m m1 m2 ds marks i chan mark lt is at ms lawful others back before n =
    elim (eqb_tells n chan) [
      | inl t ↦ inl (ap m2 t.1 ∙ restore ∙ ap m (sym t.1))
      | inr t ↦ other t.0 t.1 (before n)
    ]
  where
    pend : (m chan).pending ≡ mark
    pend = sym (at ∙ ap (λ l. slice_index_or l i mark) ms ∙ mark_at m ds i mark chan lt
        ∙ ap (λ k. (m k).pending) (sym is))

    law : MatchesLog (m chan)
    law = subst (λ (k : ℕ). MatchesLog (m k)) (sym is) (lawful i chan lt)

    restore : m2 chan ≡ m chan
    restore = back (m chan) law pend (grows_now tag m m1 (drop i ds) chan (before chan))

    same : nat_eq n chan ≡ false → m2 n ≡ m1 n
    same f = ap (λ h. h n) others ∙ ap (λ b. if b then m2 chan else m1 n) f

    other : nat_eq n chan ≡ false → n ≢ chan → BackOr tag (drop i ds) m m1 n → BackOr tag (drop (i + 1) ds) m m2 n
    other f ne (inl e) = inl (same f ∙ e)
    other f ne (inr p) =
        inr (
          contains_tail n chan (drop (i + 1) ds) ne
              (subst (λ (l : List ℕ). Contains l n) (drop_at ds i chan lt is) p.0),
          subst (Grows tag (m n)) (sym (same f)) p.1,
        )

back_end : (tag : Tag) (m now : Map) (n : ℕ) → BackOr tag [] m now n → now n ≡ m n
back_end tag m now n (inl e) = e
back_end tag m now n (inr p) = absurd (contains_none n p.0)

back_all : (tag : Tag) (m now : Map) (ds : List ℕ) → ds ≡ [] → ((n : ℕ) → BackOr tag ds m now n) → now ≡ m
back_all tag m now ds e h = λ j n. back_end tag m now n (subst (λ (l : List ℕ). BackOr tag l m now n) e (h n)) j

-- beyond the end of a list nothing is left
pub drop_end : (xs : List ℕ) (i : ℕ) → length xs ≤ i → drop i xs ≡ []
drop_end [] zero h = refl
drop_end [] (suc i) h = refl
drop_end (x ∷ xs) zero h = absurd (omega arith)
drop_end (x ∷ xs) (suc i) h = drop_end xs i (omega arith)

-- all are restored
pub back_done : (tag : Tag) (m now : Map) (ds : List ℕ) (i : ℕ) → length ds ≤ i
    → ((n : ℕ) → BackOr tag (drop i ds) m now n) → now ≡ m
back_done tag m now ds i le h = back_all tag m now (drop i ds) (drop_end ds i le) h

-- one channel more is restored, by what the loop reads
pub back_step : (tag : Tag) (m m1 m2 : Map) (ds marks : List ℕ) (i : ℕ) (start : Map) → i < length ds
    → length marks ≡ length ds → IsMarked tag ds marks m start
    → m2 ≡ put_at m1 (slice_index_or ds i 0) (m2 (slice_index_or ds i 0))
    → ((a : Logged) → MatchesLog a → a.pending ≡ slice_index_or marks i 0 → Grows tag a (m1 (slice_index_or ds i 0))
    → m2 (slice_index_or ds i 0) ≡ a)
    → ((n : ℕ) → BackOr tag (drop i ds) m m1 n)
    → (n : ℕ) → BackOr tag (drop (i + 1) ds) m m2 n
back_step tag m m1 m2 ds marks i start lt long k others back before =
    back_next tag m m1 m2 ds marks i (slice_index_or ds i 0) (slice_index_or marks i 0) lt
    (same_at ds i 0 (slice_index_or ds i 0) lt) (same_at marks i 0 (slice_index_or marks i 0) (omega (arith, lt, long)))
    k.made k.lawful others back before

-- what undoing asks for, where the run began at the marked map
pub marked : (tag : Tag) (declared marks : List ℕ) (m m1 m2 : Map) → m1 ≡ m → marks ≡ marks_of m declared
    → All (λ n. MatchesLog (m n)) declared
    → SameOutside declared m1 m2 → AllGrow tag m1 m2 → IsMarked tag declared marks m m2
marked tag declared marks m m1 m2 same is lawful others grows = record {
  made = is;
  lawful = lawful;
  others = λ n no. others n no ∙ ap (λ f. f n) same;
  grows = subst (λ (x : Map). AllGrow tag x m2) same grows;
}

-- a map with another channel of the same declaration at one number has the same kinds
pub put_kinds : (m m' : Map) (chan : ℕ) → m' ≡ put_at m chan (m' chan) → (m' chan).decl ≡ (m chan).decl
    → kinds_of m' ≡ kinds_of m
put_kinds m m' chan others same = λ j n. at n j
  where
    kind : (n : ℕ) → (m' n).decl ≡ (m n).decl
    kind n = elim (eqb_tells n chan) [
      | inl t ↦ ap (λ k. (m' k).decl) t.1 ∙ same ∙ ap (λ k. (m k).decl) (sym t.1)
      | inr t ↦ ap (λ h. (h n).decl) others ∙ ap (λ b. (if b then m' chan else m n).decl) t.0
    ]

    at : (n : ℕ) → kinds_of m' n ≡ kinds_of m n
    at n = ap (λ (d : Decl). Some d.kind) (kind n)
