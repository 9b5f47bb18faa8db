-- The transactions of seats, one after another.
use mathlib.Core.List.{IsPrefix}
use Rattle.std.proofs.Common.{◌≡◌, refl, sym, ◌∙◌, ap, subst, ◌⊎◌, ⊎_elim, ℕ, suc, ◌+◌, Bool}
use Rattle.std.proofs.Common.{true, false, Some, List, [], ◌∷◌, ◌++◌, length, map, filter, cond}
use Rattle.std.proofs.Common.{zero-add, slice_get, arith}
use Rattle.txc_base.specs.declared.entry.Entry.{Entry}
use Rattle.txc_base.specs.declared.tag.Tag.{Tag}
use Rattle.txc_chan.specs.Reserved.{one_if}
use Rattle.txc_chan.specs.declared.decl.Decl.{Decl}
use Rattle.txc_txn_check.specs.Limits.{CheckedView}
use Rattle.txc_txn.specs.declared.receipt.Receipt.{Receipt}
use Rattle.txc_base_ghost.specs.Last.{last_from}
use Rattle.txc_txn_history.specs.Commits.{Has}
use Rattle.txc_txn_history.specs.Events.{Event, events_from, events_of}
use Rattle.txc_txn_history.specs.Placed.{IsPlacedIn, is_among}
use Rattle.txc_txn_history.specs.Seats.{AreEven, ArePlaced, uses_all, uses_in}
use Rattle.txc_txn_history.proofs.Placing.{placed_on}
use Rattle.txc_txn_history.proofs.Turns.{has_either}

-- the events of a seat with one more transaction
pub events_push : (seat before : ℕ) (plans : List CheckedView) (receipts : List Receipt) (plan : CheckedView)
    (receipt : Receipt) → length plans ≡ length receipts
    → events_of seat before (plans ++ plan ∷ []) (receipts ++ receipt ∷ [])
    ≡ events_of seat before plans receipts ++ record {
      seat = seat;
      plan = plan;
      before = last_from before (map (λ r. r.tag.stamp) receipts);
      receipt = receipt;
    } ∷ []
events_push seat before [] [] plan receipt same = refl
events_push seat before [] (r ∷ receipts) plan receipt same = absurd (omega (arith, same))
events_push seat before (p ∷ plans) [] plan receipt same = absurd (omega (arith, same))
events_push seat before (p ∷ plans) (r ∷ receipts) plan receipt same =
    ap (λ l. record { seat = seat; plan = p; before = before; receipt = r } ∷ l)
    (events_push seat r.tag.stamp plans receipts plan receipt (omega (arith, same)))

-- how many of the events of a seat hold a channel
count_of : (n seat before : ℕ) (plan : CheckedView) (receipt : Receipt) (rest : List Event) (b : Bool)
    → is_among plan.declared n ≡ b
    → length (filter (λ (event : Event). is_among event.plan.declared n) (record {
      seat = seat;
      plan = plan;
      before = before;
      receipt = receipt;
    } ∷ rest)) ≡ one_if (is_among plan.declared n)
    + length (filter (λ (event : Event). is_among event.plan.declared n) rest)
count_of n seat before plan receipt rest true is =
    let here = ap (λ b. length (cond b (record {
      seat = seat;
      plan = plan;
      before = before;
      receipt = receipt;
    } ∷ filter (λ (event : Event). is_among event.plan.declared n) rest)
    (filter (λ (event : Event). is_among event.plan.declared n) rest))) is in
    omega (arith, here, ap one_if is)
count_of n seat before plan receipt rest false is =
    let here = ap (λ b. length (cond b (record {
      seat = seat;
      plan = plan;
      before = before;
      receipt = receipt;
    } ∷ filter (λ (event : Event). is_among event.plan.declared n) rest)
    (filter (λ (event : Event). is_among event.plan.declared n) rest))) is in
    omega (arith, here, ap one_if is)

seat_count : (n seat before : ℕ) (plans : List CheckedView) (receipts : List Receipt) → length plans ≡ length receipts
    → length (filter (λ (event : Event). is_among event.plan.declared n) (events_of seat before plans receipts))
    ≡ uses_in n plans
seat_count n seat before [] [] same = refl
seat_count n seat before [] (r ∷ receipts) same = absurd (omega (arith, same))
seat_count n seat before (p ∷ plans) [] same = absurd (omega (arith, same))
seat_count n seat before (p ∷ plans) (r ∷ receipts) same =
    count_of n seat before p r (events_of seat r.tag.stamp plans receipts) (is_among p.declared n) refl
    ∙ ap (λ k. one_if (is_among p.declared n) + k) (seat_count n seat r.tag.stamp plans receipts (omega (arith, same)))

filter_of : {X : Type 0} (p : X → Bool) (x : X) (xs ys : List X) (b : Bool)
    → length (filter p (xs ++ ys)) ≡ length (filter p xs) + length (filter p ys)
    → length (cond b (x ∷ filter p (xs ++ ys)) (filter p (xs ++ ys)))
    ≡ length (cond b (x ∷ filter p xs) (filter p xs)) + length (filter p ys)
filter_of p x xs ys true both = omega (arith, both)
filter_of p x xs ys false both = both

filter_both : {X : Type 0} (p : X → Bool) (xs ys : List X)
    → length (filter p (xs ++ ys)) ≡ length (filter p xs) + length (filter p ys)
filter_both p [] ys = sym (zero-add (length (filter p ys)))
filter_both p (x ∷ xs) ys = filter_of p x xs ys (p x) (filter_both p xs ys)

-- how many of those of all seats do
pub all_count : (n seat : ℕ) (seats : List (List CheckedView)) (receipts : List (List Receipt)) → AreEven seats receipts
    → length (filter (λ (event : Event). is_among event.plan.declared n) (events_from seat seats receipts))
    ≡ uses_all n seats
all_count n seat [] [] even = refl
all_count n seat [] (own ∷ receipts) even = absurd even
all_count n seat (plans ∷ seats) [] even = absurd even
all_count n seat (plans ∷ seats) (own ∷ receipts) even =
    filter_both (λ (event : Event). is_among event.plan.declared n) (events_of seat 0 plans own)
    (events_from (suc seat) seats receipts)
    ∙ (ap (λ k. k + length (filter (λ (event : Event). is_among event.plan.declared n)
    (events_from (suc seat) seats receipts))) (seat_count n seat 0 plans own even.0)
    ∙ ap (λ k. uses_in n plans + k) (all_count n (suc seat) seats receipts even.1))

module _ {T : Type 0} (tag_of : T → Tag) (len_of : T → ℕ) (decl : ℕ → Decl) where
  -- what a seat's transactions know still holds where logs and histories grow
  pub placed_since : (logs logs' : ℕ → List Entry) (marks marks' : ℕ → List T) (events : List Event)
      → ((event : Event) → Has events event → (c : ℕ) → is_among event.plan.declared c ≡ true
      → IsPrefix (logs c) (logs' c))
      → ((event : Event) → Has events event → (c : ℕ) → is_among event.plan.declared c ≡ true
      → IsPrefix (marks c) (marks' c))
      → ArePlaced tag_of len_of decl logs marks events → ArePlaced tag_of len_of decl logs' marks' events
  placed_since logs logs' marks marks' events since more placed event h =
      placed_on tag_of len_of decl logs logs' marks marks' event (since event h) (more event h) (placed event h)

  -- one more
  pub placed_push : (logs : ℕ → List Entry) (marks : ℕ → List T) (seat before last : ℕ) (plans : List CheckedView)
      (receipts : List Receipt) (plan : CheckedView) (receipt : Receipt) → length plans ≡ length receipts
      → last_from before (map (λ (r : Receipt). r.tag.stamp) receipts) ≡ last
      → ArePlaced tag_of len_of decl logs marks (events_of seat before plans receipts)
      → IsPlacedIn tag_of len_of decl logs marks (record {
        seat = seat;
        plan = plan;
        before = last;
        receipt = receipt;
      })
      → ArePlaced tag_of len_of decl logs marks
      (events_of seat before (plans ++ plan ∷ []) (receipts ++ receipt ∷ []))
  placed_push logs marks seat before last plans receipts plan receipt even is placed one event h =
      ⊎_elim
      (λ (l : Has (events_of seat before plans receipts) event). placed event l)
      (λ (r : Has (record {
        seat = seat;
        plan = plan;
        before = last_from before (map (λ (r : Receipt). r.tag.stamp) receipts);
        receipt = receipt;
      } ∷ []) event). ⊎_elim
      (λ (e : record {
        seat = seat;
        plan = plan;
        before = last_from before (map (λ (r : Receipt). r.tag.stamp) receipts);
        receipt = receipt;
      } ≡ event). subst (IsPlacedIn tag_of len_of decl logs marks) e
      (subst (λ k. IsPlacedIn tag_of len_of decl logs marks (record {
        seat = seat;
        plan = plan;
        before = k;
        receipt = receipt;
      })) (sym is) one))
      (λ (none : ⊥). absurd none) r)
      (has_either (events_of seat before plans receipts) (record {
        seat = seat;
        plan = plan;
        before = last_from before (map (λ (r : Receipt). r.tag.stamp) receipts);
        receipt = receipt;
      } ∷ []) event
      (subst (λ (l : List Event). Has l event) (events_push seat before plans receipts plan receipt even) h))

  -- those of all seats
  pub placed_from : (logs : ℕ → List Entry) (marks : ℕ → List T) (seat : ℕ) (seats : List (List CheckedView))
      (receipts : List (List Receipt)) → AreEven seats receipts
      → ((n : ℕ) (plans : List CheckedView) (own : List Receipt) → slice_get seats n ≡ Some plans
      → slice_get receipts n ≡ Some own
      → ArePlaced tag_of len_of decl logs marks (events_of (seat + n) 0 plans own))
      → ArePlaced tag_of len_of decl logs marks (events_from seat seats receipts)
  placed_from logs marks seat [] [] even each event h = absurd h
  placed_from logs marks seat [] (own ∷ receipts) even each event h = absurd h
  placed_from logs marks seat (plans ∷ seats) [] even each event h = absurd h
  placed_from logs marks seat (plans ∷ seats) (own ∷ receipts) even each event h =
      ⊎_elim
      (λ (l : Has (events_of seat 0 plans own) event).
      let e : seat ≡ seat + 0 = omega arith in
      each 0 plans own refl refl event (subst (λ k. Has (events_of k 0 plans own) event) e l))
      (λ (r : Has (events_from (suc seat) seats receipts) event).
      placed_from logs marks (suc seat) seats receipts even.1 (λ n ps os at at' ev k.
      let e : suc seat + n ≡ seat + suc n = omega arith in
      each (suc n) ps os at at' ev (subst (λ j. Has (events_of j 0 ps os) ev) e k)) event r)
      (has_either (events_of seat 0 plans own) (events_from (suc seat) seats receipts) event h)
