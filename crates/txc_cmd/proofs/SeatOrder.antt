-- In an order of events by stamps the events of one seat stand as in its own list.
use Rattle.std.proofs.Common.{◌≡◌, refl, sym, ◌∙◌, ap, subst, inl, inr, ⊎_elim, ℕ, zero, suc, ◌+◌, ◌<◌, ◌≤◌}
use Rattle.std.proofs.Common.{Bool, true, false, nat_eq, List, [], ◌∷◌, ◌++◌, append-nil, length, filter, cond}
use Rattle.std.proofs.Common.{slice_index_or, Contains, IsPermutation, arith, zero-add}
use Rattle.std.proofs.lemmas.Bool.Decides.{eqb_tells}
use Rattle.std.proofs.lemmas.List.Elements.{filter-append}
use Rattle.std.proofs.lemmas.List.Kept.{IsNonDecreasingBy-filter}
use Rattle.std.proofs.lemmas.List.Sorted.{Contains-permutation, IsNonDecreasingBy-from_sort, sum_by-IsPermutation}
use Rattle.std.proofs.lemmas.List.Sums.{length-filter}
use Rattle.std.specs.List.Sorted.{IsNonDecreasingBy}
use Rattle.std.specs.declared.cmp.Ordering.{Ordering}
use Rattle.std.specs.declared.cmp.Ordering.TheVariants.{Less, Equal, Greater}
use Rattle.std.specs.Ordering.{is_lt, nat_cmp, ordering_then}
use Rattle.txc_txn.specs.declared.receipt.Receipt.{Receipt}
use Rattle.txc_txn_check.specs.Limits.{CheckedView}
use Rattle.txc_table_seat.specs.Seated.{StampsRise}
use Rattle.txc_txn_history.specs.Commits.{Has, NeverFalls, Rises}
use Rattle.txc_txn_history.specs.Events.{Event, events_from, events_of}
use Rattle.txc_txn_history.specs.OneOrder.{IsOrder}
use Rattle.txc_txn_history.proofs.Turns.{has_either}

-- when an event was kept
abbrev stamp : Event → ℕ
stamp e = e.receipt.tag.stamp

-- the events of one seat
abbrev pub of_seat : ℕ → List Event → List Event
of_seat seat events = filter (λ (e : Event). nat_eq e.seat seat) events

-- the first one is the seat's
pub first_its : (seat : ℕ) (e : Event) (es : List Event) → e.seat ≡ seat → of_seat seat (e ∷ es) ≡ e ∷ of_seat seat es
first_its seat e es is = elim (eqb_tells e.seat seat) [
  | inl t ↦ ap (λ b. cond b (e ∷ of_seat seat es) (of_seat seat es)) t.0
  | inr t ↦ absurd (t.1 is)
]

-- .. or isn't
pub first_other : (seat : ℕ) (e : Event) (es : List Event) → (e.seat ≡ seat → ⊥)
    → of_seat seat (e ∷ es) ≡ of_seat seat es
first_other seat e es out = elim (eqb_tells e.seat seat) [
  | inl t ↦ absurd (out t.1)
  | inr t ↦ ap (λ b. cond b (e ∷ of_seat seat es) (of_seat seat es)) t.0
]

-- the events of a seat's list are its own
all_its : (seat before : ℕ) (plans : List CheckedView) (receipts : List Receipt)
    → of_seat seat (events_of seat before plans receipts) ≡ events_of seat before plans receipts
all_its seat before [] receipts = refl
all_its seat before (plan ∷ plans) [] = refl
all_its seat before (plan ∷ plans) (r ∷ receipts) =
    let e : Event = record { seat = seat; plan = plan; before = before; receipt = r } in
    first_its seat e (events_of seat r.tag.stamp plans receipts) refl
    ∙ ap (λ l. e ∷ l) (all_its seat r.tag.stamp plans receipts)

-- .. and no other seat's
none_its : (seat other before : ℕ) (plans : List CheckedView) (receipts : List Receipt) → (other ≡ seat → ⊥)
    → of_seat seat (events_of other before plans receipts) ≡ []
none_its seat other before [] receipts out = refl
none_its seat other before (plan ∷ plans) [] out = refl
none_its seat other before (plan ∷ plans) (r ∷ receipts) out =
    first_other seat (record { seat = other; plan = plan; before = before; receipt = r })
    (events_of other r.tag.stamp plans receipts) out ∙ none_its seat other r.tag.stamp plans receipts out

-- nor are those of later seats
none_later : (seat first : ℕ) (seats : List (List CheckedView)) (receipts : List (List Receipt)) → seat < first
    → of_seat seat (events_from first seats receipts) ≡ []
none_later seat first [] receipts lt = refl
none_later seat first (plans ∷ seats) [] lt = refl
none_later seat first (plans ∷ seats) (own ∷ receipts) lt =
    filter-append (λ (e : Event). nat_eq e.seat seat) (events_of first 0 plans own)
    (events_from (suc first) seats receipts)
    ∙ (λ i. none_its seat first 0 plans own (λ is. absurd (omega (arith, is, lt))) i
    ++ none_later seat (suc first) seats receipts (omega (arith, lt)) i)

-- of the events of all seats those of one seat are its own
from_its : (first n : ℕ) (seats : List (List CheckedView)) (receipts : List (List Receipt)) → n < length seats
    → n < length receipts → of_seat (first + n) (events_from first seats receipts)
    ≡ events_of (first + n) 0 (slice_index_or seats n []) (slice_index_or receipts n [])
from_its first n [] receipts lt lt' = absurd (omega (arith, lt))
from_its first n (plans ∷ seats) [] lt lt' = absurd (omega (arith, lt'))
from_its first zero (plans ∷ seats) (own ∷ receipts) lt lt' =
    let e : first + 0 ≡ first = omega arith in
    subst (λ k. of_seat k (events_of first 0 plans own ++ events_from (suc first) seats receipts)
    ≡ events_of k 0 plans own)
    (sym e)
    (filter-append (λ (e : Event). nat_eq e.seat first) (events_of first 0 plans own)
    (events_from (suc first) seats receipts)
    ∙ ((λ i. all_its first 0 plans own i ++ none_later first (suc first) seats receipts (omega arith) i)
    ∙ append-nil (events_of first 0 plans own)))
from_its first (suc n) (plans ∷ seats) (own ∷ receipts) lt lt' =
    let e : first + suc n ≡ suc first + n = omega arith in
    subst (λ k. of_seat k (events_of first 0 plans own ++ events_from (suc first) seats receipts)
    ≡ events_of k 0 (slice_index_or seats n []) (slice_index_or receipts n [])) (sym e)
    (filter-append (λ (e : Event). nat_eq e.seat (suc first + n)) (events_of first 0 plans own)
    (events_from (suc first) seats receipts)
    ∙ (λ i. none_its (suc first + n) first 0 plans own (λ is. absurd (omega (arith, is))) i
    ++ from_its (suc first) n seats receipts (omega (arith, lt)) (omega (arith, lt')) i))

-- an event of a seat's list names the seat
seat_is : (seat before : ℕ) (plans : List CheckedView) (receipts : List Receipt) (e : Event)
    → Has (events_of seat before plans receipts) e → e.seat ≡ seat
seat_is seat before [] receipts e h = absurd h
seat_is seat before (plan ∷ plans) [] e h = absurd h
seat_is seat before (plan ∷ plans) (r ∷ receipts) e (inl is) = sym (ap (λ (x : Event). x.seat) is)
seat_is seat before (plan ∷ plans) (r ∷ receipts) e (inr h) = seat_is seat r.tag.stamp plans receipts e h

-- each event is of one of the seats
pub within : (first : ℕ) (seats : List (List CheckedView)) (receipts : List (List Receipt)) (e : Event)
    → Has (events_from first seats receipts) e → e.seat < first + length seats
within first [] receipts e h = absurd h
within first (plans ∷ seats) [] e h = absurd h
within first (plans ∷ seats) (own ∷ receipts) e h =
    ⊎_elim
    (λ (l : Has (events_of first 0 plans own) e). omega (arith, seat_is first 0 plans own e l))
    (λ (r : Has (events_from (suc first) seats receipts) e). omega (arith, within (suc first) seats receipts e r))
    (has_either (events_of first 0 plans own) (events_from (suc first) seats receipts) e h)

-- .. and is stamped after what was before
stamp_later : (seat before last : ℕ) (plans : List CheckedView) (receipts : List Receipt)
    → StampsRise before last receipts
    → (e : Event) → Has (events_of seat before plans receipts) e → before < stamp e
stamp_later seat before last [] receipts rise e h = absurd h
stamp_later seat before last (plan ∷ plans) [] rise e h = absurd h
stamp_later seat before last (plan ∷ plans) (r ∷ receipts) rise e (inl is) =
    subst (λ (x : Event). before < stamp x) is rise.0
stamp_later seat before last (plan ∷ plans) (r ∷ receipts) rise e (inr h) =
    omega (arith, rise.0, stamp_later seat r.tag.stamp last plans receipts rise.1 e h)

-- the stamps of a seat's events rise as those of its receipts do
stamps_rise : (seat before last : ℕ) (plans : List CheckedView) (receipts : List Receipt)
    → StampsRise before last receipts
    → Rises stamp (events_of seat before plans receipts)
stamps_rise seat before last [] receipts rise = tt
stamps_rise seat before last (plan ∷ plans) [] rise = tt
stamps_rise seat before last (plan ∷ plans) (r ∷ receipts) rise = (
  (λ e h. stamp_later seat r.tag.stamp last plans receipts rise.1 e h),
  stamps_rise seat r.tag.stamp last plans receipts rise.1,
)

-- an event that stands in a list is at a place of it
contains_of : (xs : List Event) (y : Event) → Has xs y → Contains xs y
contains_of [] y h = absurd h
contains_of (x ∷ xs) y (inl e) = (0, omega arith, e)
contains_of (x ∷ xs) y (inr h) = let c = contains_of xs y h in (suc c.0, omega (arith, c.1), c.2)

-- .. and one at a place stands in it
has_at : (xs : List Event) (k : ℕ) (y : Event) → k < length xs → slice_index_or xs k y ≡ y → Has xs y
has_at [] k y lt e = absurd (omega (arith, lt))
has_at (x ∷ xs) zero y lt e = inl e
has_at (x ∷ xs) (suc k) y lt e = inr (has_at xs k y (omega (arith, lt)) e)

-- an event of a list is in every order of it
pub has_permuted : (xs ys : List Event) (y : Event) → IsPermutation xs ys → Has xs y → Has ys y
has_permuted xs ys y same h =
    let c = Contains-permutation xs ys y same (contains_of xs y h) in has_at ys c.0 y c.1 c.2

-- what passes a test stands in the list
filter_of : (x y : Event) (xs rest : List Event) (b : Bool) → (Has rest y → Has xs y) → Has (cond b (x ∷ rest) rest) y
    → Has (x ∷ xs) y
filter_of x y xs rest true f (inl e) = inl e
filter_of x y xs rest true f (inr h) = inr (f h)
filter_of x y xs rest false f h = inr (f h)

has_filter : (p : Event → Bool) (xs : List Event) (y : Event) → Has (filter p xs) y → Has xs y
has_filter p [] y h = h
has_filter p (x ∷ xs) y h = filter_of x y xs (filter p xs) (p x) (has_filter p xs y) h

-- what stands in a list and passes a test is among what passes
kept_of : (x y : Event) (rest : List Event) (b : Bool) → Has rest y → Has (cond b (x ∷ rest) rest) y
kept_of x y rest true h = inr h
kept_of x y rest false h = h

filter_has : (p : Event → Bool) (xs : List Event) (y : Event) → p y ≡ true → Has xs y → Has (filter p xs) y
filter_has p [] y is h = h
filter_has p (x ∷ xs) y is (inl e) =
    subst (λ b. Has (cond b (x ∷ filter p xs) (filter p xs)) y) (sym (ap p e ∙ is)) (inl e)
filter_has p (x ∷ xs) y is (inr h) = kept_of x y (filter p xs) (p x) (filter_has p xs y is h)

-- what is not before another by stamp, seat and serial is not before it by stamp
first_not : (o p : Ordering) → is_lt (ordering_then o p) ≡ false → is_lt o ≡ false
first_not Less p h = h
first_not Equal p h = refl
first_not Greater p h = refl

-- the same of each event and all later ones
falls_never : (xs : List Event) → IsNonDecreasingBy stamp xs → NeverFalls stamp xs
falls_never [] up = tt
falls_never (x ∷ xs) up = (
  (λ y h. let c = contains_of xs y h in
      subst (λ (z : Event). stamp x ≤ stamp z) c.2 (up 0 (suc c.0) y (omega arith) (omega (arith, c.1)))),
  falls_never xs (λ i j d le lt. up (suc i) (suc j) d (omega (arith, le)) (omega (arith, lt))),
)

-- the rest of a list whose stamps rise is in the rest of one whose stamps don't fall
rest_inside : (x y : Event) (xs ys : List Event) → Rises stamp (x ∷ xs) → y ≡ x
    → ((z : Event) → Has (x ∷ xs) z → Has (y ∷ ys) z) → (z : Event) → Has xs z → Has ys z
rest_inside x y xs ys rises same inside z h =
    ⊎_elim
    (λ (is : y ≡ z). absurd (omega (arith, rises.0 z h, ap stamp (sym same ∙ is))))
    (λ (later : Has ys z). later)
    (inside z (inr h))

-- .. and all of it is, where that one has its first event later
all_inside : (x y : Event) (xs ys : List Event) → Rises stamp (x ∷ xs) → NeverFalls stamp (y ∷ ys) → Has ys x
    → ((z : Event) → Has (x ∷ xs) z → Has (y ∷ ys) z) → (z : Event) → Has (x ∷ xs) z → Has ys z
all_inside x y xs ys rises falls later inside z (inl is) = subst (λ (e : Event). Has ys e) is later
all_inside x y xs ys rises falls later inside z (inr h) =
    ⊎_elim
    (λ (is : y ≡ z). absurd (omega (arith, rises.0 z h, falls.0 x later, ap stamp is)))
    (λ (l : Has ys z). l)
    (inside z (inr h))

-- so it is no longer
no_longer : (xs ys : List Event) → Rises stamp xs → NeverFalls stamp ys → ((z : Event) → Has xs z → Has ys z)
    → length xs ≤ length ys
no_longer [] ys rises falls inside = omega arith
no_longer (x ∷ xs) [] rises falls inside = absurd (inside x (inl refl))
no_longer (x ∷ xs) (y ∷ ys) rises falls inside =
    ⊎_elim
    (λ (same : y ≡ x). omega (
      arith,
      no_longer xs ys rises.1 falls.1 (rest_inside x y xs ys rises same inside),
    ))
    (λ (later : Has ys x). omega (
      arith,
      no_longer (x ∷ xs) ys rises falls.1 (all_inside x y xs ys rises falls later inside),
    ))
    (inside x (inl refl))

-- and where it is as long, it is the same
as_long : (xs ys : List Event) → Rises stamp xs → NeverFalls stamp ys → ((z : Event) → Has xs z → Has ys z)
    → length ys ≤ length xs → xs ≡ ys
as_long [] [] rises falls inside short = refl
as_long [] (y ∷ ys) rises falls inside short = absurd (omega (arith, short))
as_long (x ∷ xs) [] rises falls inside short = absurd (inside x (inl refl))
as_long (x ∷ xs) (y ∷ ys) rises falls inside short =
    ⊎_elim
    (λ (same : y ≡ x). λ i. sym same i ∷ as_long xs ys rises.1 falls.1 (rest_inside x y xs ys rises same inside)
    (omega (arith, short)) i)
    (λ (later : Has ys x). absurd (omega (
      arith,
      short,
      no_longer (x ∷ xs) ys rises falls.1 (all_inside x y xs ys rises falls later inside),
    )))
    (inside x (inl refl))

-- the events of a seat whose stamps rise stand in every order by stamps as they stand in its list
pub own_order : (seats : List (List CheckedView)) (receipts : List (List Receipt)) (order : List Event) (n last : ℕ)
    → IsOrder seats receipts order → n < length seats → n < length receipts
    → StampsRise 0 last (slice_index_or receipts n [])
    → of_seat n order ≡ events_of n 0 (slice_index_or seats n []) (slice_index_or receipts n [])
own_order seats receipts order n last is lt lt' rise =
    sym (as_long own (of_seat n order)
    (stamps_rise n 0 last (slice_index_or seats n []) (slice_index_or receipts n []) rise)
    falls inside short)
  where
    its : Event → Bool
    its e = nat_eq e.seat n

    all : List Event
    all = events_from 0 seats receipts

    own : List Event
    own = events_of n 0 (slice_index_or seats n []) (slice_index_or receipts n [])

    mine : of_seat n all ≡ own
    mine = subst (λ k. of_seat k all ≡ events_of k 0 (slice_index_or seats n []) (slice_index_or receipts n []))
        (zero-add n) (from_its 0 n seats receipts lt lt')

    up : IsNonDecreasingBy stamp order
    up = IsNonDecreasingBy-from_sort stamp order (λ k d low below. first_not
        (nat_cmp (stamp (slice_index_or order (k + 1) d)) (stamp (slice_index_or order k d))) _
        (is.sorted k d low below))

    falls : NeverFalls stamp (of_seat n order)
    falls = falls_never (of_seat n order) (IsNonDecreasingBy-filter stamp its order up)

    inside : (z : Event) → Has own z → Has (of_seat n order) z
    inside z h =
        let there : Has all z = has_filter its all z (subst (λ (l : List Event). Has l z) (sym mine) h) in
        let mark : nat_eq z.seat n ≡ true = elim (eqb_tells z.seat n) [
          | inl t ↦ t.0
          | inr t ↦ absurd (t.1 (seat_is n 0 (slice_index_or seats n []) (slice_index_or receipts n []) z h))
        ] in
        filter_has its order z mark (has_permuted all order z is.each_once there)

    short : length (of_seat n order) ≤ length own
    short = omega (
      arith,
      length-filter its order,
      length-filter its all,
      sum_by-IsPermutation (λ e. cond (its e) 1 0) all order is.each_once,
      ap length mine,
    )
