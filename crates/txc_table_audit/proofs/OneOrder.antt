-- The transactions of a report have one order.
use Rattle.std.proofs.Common.{◌≡◌, refl, sym, ◌∙◌, ap, subst, inl, inr, ℕ, zero, suc, ◌+◌, Some, List, [], ◌∷◌}
use Rattle.std.proofs.Common.{zero-add, map, slice_get, All, arith}
use Rattle.std.proofs.lemmas.Cmp.{ranked}
use Rattle.std.proofs.lemmas.List.Elements.{All-append, All-cons, All-tail}
use Rattle.std.specs.Ordering.{nat_cmp, ordering_then}
use Rattle.std.specs.declared.cmp.Ordering.{Ordering}
use Rattle.std.specs.declared.cmp.Ordering.TheVariants.{Less, Equal, Greater}
use Rattle.txc_txn_check.specs.Limits.{CheckedView}
use Rattle.txc_txn.specs.declared.receipt.Receipt.{Receipt}
use Rattle.txc_txn_history.specs.Commits.{Has, Once}
use Rattle.txc_txn_history.specs.Events.{Event, events_from, events_of}
use Rattle.txc_txn_history.specs.OneOrder.{IsOrder, by_stamp}
use Rattle.txc_txn_history.proofs.Ordering.{has_map}
use Rattle.txc_txn_history.proofs.Sorting.{order_total}
use Rattle.txc_txn_history.proofs.Turns.{tags_once}
use Rattle.txc_table_audit.proofs.OneSort.{one_sort}

-- each element of a list is in it
all_stand : {X : Type 0} (xs : List X) → All (Has xs) xs
all_stand [] k d lt = absurd (omega (arith, lt))
all_stand (x ∷ xs) zero d lt = inl refl
all_stand (x ∷ xs) (suc k) d lt = inr (all_stand xs k d (omega (arith, lt)))

-- where no value comes twice, two that have the same one are one
once_apart : {X Y : Type 0} (f : X → Y) (xs : List X) → Once (map f xs) → (x y : X) → Has xs x → Has xs y → f x ≡ f y
    → x ≡ y
once_apart f [] once x y h j e = absurd h
once_apart f (z ∷ xs) once x y (inl a) (inl b) e = sym a ∙ b
once_apart f (z ∷ xs) once x y (inl a) (inr j) e =
    absurd (once.0 (subst (Has (map f xs)) (sym e ∙ sym (ap f a)) (has_map f xs y j)))
once_apart f (z ∷ xs) once x y (inr h) (inl b) e =
    absurd (once.0 (subst (Has (map f xs)) (e ∙ sym (ap f b)) (has_map f xs x h)))
once_apart f (z ∷ xs) once x y (inr h) (inr j) e = once_apart f xs once.1 x y h j e

-- the receipt of a transaction names its seat
abbrev NamesSeat : Event → Type 0
NamesSeat event = event.receipt.tag.seat ≡ event.seat

-- where a seat's receipts do, its transactions do
seat_named : (seat before : ℕ) (plans : List CheckedView) (receipts : List Receipt)
    → All (λ receipt. receipt.tag.seat ≡ seat) receipts → All NamesSeat (events_of seat before plans receipts)
seat_named seat before [] receipts own = λ k d lt. absurd (omega (arith, lt))
seat_named seat before (plan ∷ plans) [] own = λ k d lt. absurd (omega (arith, lt))
seat_named seat before (plan ∷ plans) (receipt ∷ receipts) own =
    All-cons NamesSeat (record {
      seat = seat;
      plan = plan;
      before = before;
      receipt = receipt;
    }) (events_of seat receipt.tag.stamp plans receipts) (own 0 receipt (omega arith))
    (seat_named seat receipt.tag.stamp plans receipts
    (All-tail (λ (r : Receipt). r.tag.seat ≡ seat) receipt receipts own))

-- .. and so for the seats from this one on
seats_named : (seat : ℕ) (seats : List (List CheckedView)) (receipts : List (List Receipt))
    → ((n : ℕ) (own : List Receipt) → slice_get receipts n ≡ Some own
    → All (λ receipt. receipt.tag.seat ≡ seat + n) own)
    → All NamesSeat (events_from seat seats receipts)
seats_named seat [] receipts own = λ k d lt. absurd (omega (arith, lt))
seats_named seat (plans ∷ seats) [] own = λ k d lt. absurd (omega (arith, lt))
seats_named seat (plans ∷ seats) (mine ∷ receipts) own =
    let here : seat + 0 ≡ seat = omega arith in
    All-append NamesSeat (events_of seat 0 plans mine) (events_from (suc seat) seats receipts)
    (seat_named seat 0 plans mine
    (subst (λ (s : ℕ). All (λ (r : Receipt). r.tag.seat ≡ s) mine) here (own 0 mine refl)))
    (seats_named (suc seat) seats receipts (λ n rs at.
    let next : seat + suc n ≡ suc seat + n = omega arith in
    subst (λ (s : ℕ). All (λ (r : Receipt). r.tag.seat ≡ s) rs) next (own (suc n) rs at)))

-- two comparisons that tie both do
both_tie : (o p : Ordering) → ordering_then o p ≡ Equal → (o ≡ Equal) × (p ≡ Equal)
both_tie Less p e = absurd (cc)
both_tie Equal p e = (refl, e)
both_tie Greater p e = absurd (cc)

-- transactions that tie have one tag
one_tag : (x y : Event) → NamesSeat x → NamesSeat y → by_stamp x y ≡ Equal → x.receipt.tag ≡ y.receipt.tag
one_tag x y named named' e =
    let stamps = both_tie (nat_cmp x.receipt.tag.stamp y.receipt.tag.stamp)
    (ordering_then (nat_cmp x.seat y.seat) (nat_cmp x.receipt.tag.serial y.receipt.tag.serial)) e in
    let seats = both_tie (nat_cmp x.seat y.seat) (nat_cmp x.receipt.tag.serial y.receipt.tag.serial) stamps.1 in
    let stamp : x.receipt.tag.stamp ≡ y.receipt.tag.stamp =
    ranked x.receipt.tag.stamp y.receipt.tag.stamp Equal (sym stamps.0) in
    let seat : x.seat ≡ y.seat = ranked x.seat y.seat Equal (sym seats.0) in
    let serial : x.receipt.tag.serial ≡ y.receipt.tag.serial =
    ranked x.receipt.tag.serial y.receipt.tag.serial Equal (sym seats.1) in
    λ j. record { seat = (named ∙ seat ∙ sym named') j; serial = serial j; stamp = stamp j }

-- two orders of a report's transactions are one
pub only_order : (seats : List (List CheckedView)) (receipts : List (List Receipt)) (order other : List Event)
    → IsOrder seats receipts order → IsOrder seats receipts other → order ≡ other
only_order seats receipts order other p q =
    let all = events_from 0 seats receipts in
    one_sort by_stamp order_total (λ e. Has all e × NamesSeat e)
    (λ x y one two e. once_apart (λ (e : Event). e.receipt.tag) all (tags_once seats receipts p.in_turn) x y one.0 two.0
    (one_tag x y one.1 two.1 e))
    all order other
    (λ k d lt. (all_stand all k d lt, named k d lt))
    p.each_once q.each_once p.sorted q.sorted
  where
    named : All NamesSeat (events_from 0 seats receipts)
    named = seats_named 0 seats receipts (λ n own at.
        subst (λ (s : ℕ). All (λ (r : Receipt). r.tag.seat ≡ s) own) (sym (zero-add n)) (p.in_turn n own at).own)
