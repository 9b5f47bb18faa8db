-- What an open transaction and its savepoints have to know to be undone.
use Rattle.std.proofs.Common.{◌≡◌, refl, sym, ◌∙◌, ap, subst, inl, inr, ℕ, zero, suc, ◌<◌, arith, nat_eq, true, false}
use Rattle.std.proofs.Common.{Bool, ◌||◌}
use Rattle.std.proofs.Common.{◌≤◌, ◌+◌, List, [], ◌∷◌, ◌++◌, length, drop, slice_index_or, All, Contains}
use Rattle.std.specs.List.{list_any}
use Rattle.std.specs.Prelude.{Result, Ok, Err, IfOk}
use Rattle.std.proofs.lemmas.Bool.Decides.{eqb_tells}
use Rattle.txc_txn_check.proofs.Containing.{contains_none, contains_later, contains_tail}
use Rattle.std.proofs.lemmas.List.{append_assoc, append-nil, drop-append-le, length-map, map-append}
use Rattle.std.proofs.lemmas.List.Elements.{All-append, All-nil, Contains-append_left}
use Rattle.txc_base.specs.declared.tag.Tag.{Tag}
use Rattle.txc_chan.specs.Logged.{Logged, MatchesLog}
use Rattle.txc_txn.specs.Growth.{AllGrow, Grows, IsMarked, marks_of}
use Rattle.txc_txn.specs.Maps.{Map, put_at}
use Rattle.txc_txn.proofs.Growing.{grow_none, grow_on}
use Rattle.txc_txn.proofs.Restoring.{BackOr, back_step, drop_end}
use Rattle.txc_txn.proofs.Running.{others_op}

-- at its beginning it has touched no channel
pub marked_first : (tag : Tag) (m : Map) → IsMarked tag [] [] m m
marked_first tag m = record {
  made = refl;
  lawful = All-nil (λ n. MatchesLog (m n));
  others = λ n no. refl;
  grows = grow_none tag m m refl;
}

one : (P : ℕ → Type 0) (x : ℕ) → P x → All P (x ∷ [])
one P x h zero d lt = h
one P x h (suc i) d lt = absurd (omega arith)

-- a channel more, on which nothing was done yet
pub marked_more : (tag : Tag) (ns marks : List ℕ) (before now : Map) (chan mark : ℕ) → ¬ Contains ns chan
    → mark ≡ (now chan).pending → MatchesLog (now chan) → IsMarked tag ns marks before now
    → IsMarked tag (ns ++ chan ∷ []) (marks ++ mark ∷ []) before now
marked_more tag ns marks before now chan mark none is law k =
    let same : now chan ≡ before chan = k.others chan none in
    record {
      made = (λ j. k.made j ++ (is ∙ ap (λ (l : Logged). l.pending) same) j ∷ [])
          ∙ sym (map-append (λ n. (before n).pending) ns (chan ∷ []));
      lawful = All-append (λ n. MatchesLog (before n)) ns (chan ∷ []) k.lawful
          (one (λ n. MatchesLog (before n)) chan (subst MatchesLog same law));
      others = λ n no. k.others n (λ c. no (Contains-append_left ns (chan ∷ []) n c));
      grows = k.grows;
    }

-- an operation on a channel that it has touched
pub marked_after : (tag : Tag) (ns marks : List ℕ) (before now after : Map) (chan : ℕ) (l : Logged) → Contains ns chan
    → after ≡ put_at now chan l → AllGrow tag now after → IsMarked tag ns marks before now
    → IsMarked tag ns marks before after
marked_after tag ns marks before now after chan l there put grows k = record {
  made = k.made;
  lawful = k.lawful;
  others = λ n no. others_op now after ns chan l there put n no ∙ k.others n no;
  grows = grow_on tag before now after k.grows grows;
}

-- a test finds no number that a list has not
pub any_none : (n : ℕ) (cs : List ℕ) → list_any (λ y. nat_eq y n) cs ≡ false → ¬ Contains cs n
any_none n [] e c = contains_none n c
any_none n (d ∷ ds) e c =
    elim (eqb_tells d n) [
      | inl t ↦ let no : true ≡ false = subst (λ (b : Bool). (b || list_any (λ y. nat_eq y n) ds) ≡ false) t.0 e in cc
      | inr t ↦ any_none n ds (subst (λ (b : Bool). (b || list_any (λ y. nat_eq y n) ds) ≡ false) t.0 e)
          (contains_tail n d ds (λ q. t.1 (sym q)) c)
    ]

-- .. and a number that it has
pub any_some : (n : ℕ) (cs : List ℕ) → list_any (λ y. nat_eq y n) cs ≡ true → Contains cs n
any_some n [] e = cc
any_some n (d ∷ ds) e =
    elim (eqb_tells d n) [
      | inl t ↦ (0, omega arith, t.1)
      | inr t ↦ contains_later n d ds
          (any_some n ds (subst (λ (b : Bool). (b || list_any (λ y. nat_eq y n) ds) ≡ true) t.0 e))
    ]

-- the marks since a savepoint, with that of a channel more
pub since_more : (saved marks : List ℕ) (mark : ℕ) → length saved ≤ length marks
    → saved ++ drop (length saved) (marks ++ mark ∷ []) ≡ (saved ++ drop (length saved) marks) ++ mark ∷ []
since_more saved marks mark le = ap (λ l. saved ++ l) (drop-append-le (length saved) marks (mark ∷ []) le)
    ∙ sym (append_assoc saved (drop (length saved) marks) (mark ∷ []))

-- a savepoint marks where the channels are now
pub saved_here : (tag : Tag) (ns marks saved : List ℕ) (before now : Map) → IsMarked tag ns marks before now
    → saved ≡ marks_of now ns → All (λ n. MatchesLog (now n)) ns
    → (length saved ≤ length marks) × IsMarked tag ns (saved ++ drop (length saved) marks) now now
saved_here tag ns marks saved before now k is lawful =
    let long : length saved ≡ length marks = ap length is ∙ length-map ns (λ n. (now n).pending)
    ∙ sym (length-map ns (λ n. (before n).pending)) ∙ ap length (sym k.made) in
    let all : saved ++ drop (length saved) marks ≡ saved = ap (λ l. saved ++ l)
    (drop_end marks (length saved) (omega (arith, long))) ∙ append-nil saved in (
      omega (arith, long),
      record {
        made = all ∙ is;
        lawful = lawful;
        others = λ n no. refl;
        grows = grow_none tag now now refl;
      },
    )

front_at : (xs ys : List ℕ) (i : ℕ) → i < length xs → slice_index_or (xs ++ ys) i 0 ≡ slice_index_or xs i 0
front_at [] ys i lt = absurd (omega arith)
front_at (x ∷ xs) ys zero lt = refl
front_at (x ∷ xs) ys (suc i) lt = front_at xs ys i (omega arith)

-- the marks of a savepoint come first
pub since_front : (saved marks : List ℕ) (i : ℕ) → i < length saved
    → slice_index_or (saved ++ drop (length saved) marks) i 0 ≡ slice_index_or saved i 0
since_front saved marks i lt = front_at saved (drop (length saved) marks) i lt

-- .. and those of channels that were touched later are of the beginning
pub since_later : (saved marks : List ℕ) (i : ℕ) → length saved ≤ i → i < length marks
    → slice_index_or (saved ++ drop (length saved) marks) i 0 ≡ slice_index_or marks i 0
since_later saved [] i le lt = absurd (omega arith)
since_later [] (m ∷ marks) i le lt = refl
since_later (x ∷ saved) (m ∷ marks) zero le lt = absurd (omega arith)
since_later (x ∷ saved) (m ∷ marks) (suc i) le lt = since_later saved marks i (omega arith) (omega arith)

-- one channel more is restored to a savepoint
pub back_since : (tag : Tag) (m m1 m2 : Map) (ds marks : List ℕ) (i mark : ℕ) (start : Map) → i < length ds
    → IsMarked tag ds marks m start → slice_index_or marks i 0 ≡ mark
    → m2 ≡ put_at m1 (slice_index_or ds i 0) (m2 (slice_index_or ds i 0))
    → ((a : Logged) → MatchesLog a → a.pending ≡ mark → Grows tag a (m1 (slice_index_or ds i 0))
    → m2 (slice_index_or ds i 0) ≡ a)
    → ((n : ℕ) → BackOr tag (drop i ds) m m1 n)
    → (n : ℕ) → BackOr tag (drop (i + 1) ds) m m2 n
back_since tag m m1 m2 ds marks i mark start lt k is others back before =
    back_step tag m m1 m2 ds marks i start lt (ap length k.made ∙ length-map ds (λ n. (m n).pending)) k others
    (λ a law pend grows. back a law (pend ∙ is) grows) before

-- what follows from a fact of the value of `Ok`
pub if_ok_then : {X E : Type 0} (r : Result X E) (P Q : X → Type 0) → ((x : X) → P x → Q x) → IfOk r P → IfOk r Q
if_ok_then (Ok x) P Q next p = next x p
if_ok_then (Err e) P Q next p = tt
