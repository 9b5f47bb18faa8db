-- Positions in order are events in order.
use Rattle.std.proofs.Common.{◌≡◌, refl, sym, ◌∙◌, ap, subst, ◌+◌, ◌<◌, List, [], ◌∷◌, map, length, slice_index_or, All}
use Rattle.std.proofs.Common.{IsPermutation, IsSorted, arith}
use Rattle.std.proofs.lemmas.List.{get_or-map, length-map}
use Rattle.std.proofs.lemmas.List.Elements.{All-tail}
use Rattle.std.proofs.lemmas.List.Sorted.{IsPermutation-map}
use Rattle.std.specs.declared.cmp.Ordering.{Ordering}
use Rattle.std.specs.Ordering.{is_lt, nat_cmp, ordering_then}
use Rattle.txc_txn.specs.declared.receipt.Receipt.{Receipt}
use Rattle.txc_txn_check.specs.Limits.{CheckedView}
use Rattle.txc_table_audit.specs.declared.ranked.Ranked.{Ranked}
use Rattle.txc_table_audit.specs.declared.key.ReceiptKey.{ReceiptKey}
use Rattle.txc_txn_history.specs.Events.{Event, AreInTurn, HasBegun}
use Rattle.txc_txn_history.specs.OneOrder.{IsOrder, by_stamp}
use Rattle.txc_table_audit.specs.Ranks.{rank_of}
use Rattle.txc_table_audit.specs.ReceiptKeys.{IsKey, event_at, keys_from}
use Rattle.txc_table_audit.proofs.Positions.{places_are}
use Rattle.txc_table_audit.proofs.Turning.{all_places}

-- by stamp, then by seat, then by serial
abbrev pub key_by_stamp : ReceiptKey → ReceiptKey → Ordering
key_by_stamp one other = ordering_then (nat_cmp one.stamp other.stamp)
    (ordering_then (nat_cmp one.seat other.seat) (nat_cmp one.serial other.serial))

-- the rank of a place
abbrev pub rank : ReceiptKey → Ranked
rank key = record { seat = key.seat; serial = key.serial }

-- two places are as their events
same_order : (seats : List (List CheckedView)) (receipts : List (List Receipt)) (one other : ReceiptKey)
    → IsKey receipts one
    → IsKey receipts other
    → by_stamp (event_at seats receipts one) (event_at seats receipts other) ≡ key_by_stamp one other
same_order seats receipts one other p q j =
    ordering_then (nat_cmp (sym p.stamp j) (sym q.stamp j))
    (ordering_then (nat_cmp one.seat other.seat) (nat_cmp (sym p.serial j) (sym q.serial j)))

-- places in order are events in order
pub events_sorted : (seats : List (List CheckedView)) (receipts : List (List Receipt)) (keys : List ReceiptKey)
    → All (IsKey receipts) keys → IsSorted key_by_stamp keys
    → IsSorted by_stamp (map (event_at seats receipts) keys)
events_sorted seats receipts [] places sorted = λ k d le lt. absurd (omega (arith, lt))
events_sorted seats receipts (first ∷ keys) places sorted = λ k d le lt.
    let long : length (map (event_at seats receipts) (first ∷ keys)) ≡ length (first ∷ keys) =
    length-map (first ∷ keys) (event_at seats receipts) in
    let next : k + 1 < length (first ∷ keys) = omega (arith, lt, long) in
    let here : k < length (first ∷ keys) = omega (arith, next) in
    (λ j. is_lt (by_stamp (get_or-map (event_at seats receipts) (first ∷ keys) (k + 1) first d next j)
    (get_or-map (event_at seats receipts) (first ∷ keys) k first d here j)))
    ∙ ap is_lt (same_order seats receipts (slice_index_or (first ∷ keys) (k + 1) first)
    (slice_index_or (first ∷ keys) k first) (places (k + 1) first next) (places k first here))
    ∙ sorted k first le next

-- the places in order are an order of all transactions
pub order_is : (seats : List (List CheckedView)) (receipts : List (List Receipt)) (keys : List ReceiptKey)
    → HasBegun receipts seats
    → AreInTurn receipts → IsPermutation (keys_from 0 receipts) keys → IsSorted key_by_stamp keys
    → IsOrder seats receipts (map (event_at seats receipts) keys)
order_is seats receipts keys begun in_turn same sorted = record {
  in_turn = in_turn;
  each_once = subst (λ (es : List Event). IsPermutation es (map (event_at seats receipts) keys))
      (places_are seats receipts begun)
      (IsPermutation-map (event_at seats receipts) (keys_from 0 receipts) keys same);
  sorted = events_sorted seats receipts keys (all_places receipts keys same) sorted;
}

-- the ranks of places are those of their events
pub ranks_are : (seats : List (List CheckedView)) (receipts : List (List Receipt)) (keys : List ReceiptKey)
    → All (IsKey receipts) keys
    → map (λ (key : ReceiptKey). rank key) keys ≡ map rank_of (map (event_at seats receipts) keys)
ranks_are seats receipts [] places = refl
ranks_are seats receipts (first ∷ keys) places =
    let head : IsKey receipts first = places 0 first (omega arith) in
    let rest : All (IsKey receipts) keys = All-tail (IsKey receipts) first keys places in
    λ j. record { seat = first.seat; serial = head.serial j } ∷ ranks_are seats receipts keys rest j
