-- A place of an order, and what stands there.
use Rattle.std.proofs.Common.{◌≡◌, refl, sym, ◌∙◌, ap, subst, ℕ, suc, ◌+◌, ◌<◌, ◌≤◌, Option, Some, List, [], ◌∷◌, map}
use Rattle.std.proofs.Common.{length, slice_get, slice_index_or, All, IsPermutation, arith}
use Rattle.std.proofs.lemmas.List.{get_or_default, get_or-map, length-map}
use Rattle.std.proofs.lemmas.List.Elements.{All-append, All-cons}
use Rattle.std.proofs.lemmas.List.Sorted.{All-permutation}
use Rattle.std.proofs.lemmas.Option.{get_or_from_slice_get, slice_get-get_or, slice_get_within}
use Rattle.txc_base.specs.declared.kind.Kind.{Kind}
use Rattle.txc_txn.specs.declared.receipt.Receipt.{Receipt}
use Rattle.txc_txn_check.specs.Limits.{CheckedView}
use Rattle.txc_txn.specs.Maps.{Map}
use Rattle.txc_txn_check.specs.Steps.{Fits}
use Rattle.txc_table_audit.specs.declared.key.ReceiptKey.{ReceiptKey}
use Rattle.txc_txn_history.specs.Events.{HasBegun}
use Rattle.txc_txn_history.specs.OneOrder.{Happens, Occurs}
use Rattle.txc_table_audit.specs.ReceiptKeys.{IsKey, at_seat, event_at, no_plan, no_receipt, stamp_before, keys_of}
use Rattle.txc_table_audit.specs.ReceiptKeys.{keys_from}
use Rattle.txc_table_audit.proofs.Positions.{key_of}

-- a seat has as many transactions as receipts, or more
pub has_most : (receipts : List (List Receipt)) (seats : List (List CheckedView)) (seat : ℕ) → HasBegun receipts seats
    → seat < length receipts
    → length (at_seat receipts seat) ≤ length (at_seat seats seat)
has_most receipts seats seat b lt =
    b.most seat (at_seat receipts seat) (at_seat seats seat) (slice_get-get_or receipts seat [] lt)
    (slice_get-get_or seats seat [] (omega (arith, lt, b.each)))

-- the receipts of a seat that were read
pub own_is : (receipts : List (List Receipt)) (seat : ℕ) (mine own : List Receipt) → seat < length receipts
    → mine ≡ slice_index_or receipts seat mine → own ≡ mine
    → at_seat receipts seat ≡ own
own_is receipts seat mine own lt is same = get_or_default receipts seat [] mine lt ∙ sym is ∙ sym same

-- the nth of a seat's that was read
pub nth_is : {X : Type 0} (lists : List (List X)) (seat nth : ℕ) (own : List X) (d x : X) → at_seat lists seat ≡ own
    → nth < length own → x ≡ slice_index_or own nth x
    → slice_index_or (at_seat lists seat) nth d ≡ x
nth_is lists seat nth own d x here lt is = ap (λ xs. slice_index_or xs nth d) here ∙ get_or_default own nth d x lt
    ∙ sym is

-- the event at a rank
pub at_rank : (seats : List (List CheckedView)) (receipts : List (List Receipt)) (keys : List ReceiptKey) (rank : ℕ)
    (d : ReceiptKey)
    → rank < length keys
    → slice_get (map (event_at seats receipts) keys) rank
    ≡ Some (event_at seats receipts (slice_index_or keys rank d))
at_rank seats receipts keys rank d lt =
    let long : rank < length (map (event_at seats receipts) keys) = rw length-map lt in
    slice_get-get_or (map (event_at seats receipts) keys) rank (event_at seats receipts d) long
    ∙ ap Some (get_or-map (event_at seats receipts) keys rank d (event_at seats receipts d) lt)

-- this plan, tried with this stamp from before, is the event at a place, with this receipt
pub record IsEvent (seats : List (List CheckedView)) (receipts : List (List Receipt)) (key : ReceiptKey)
    (plan : CheckedView)
    (receipt : Receipt) (before : ℕ) : Type 0 where
  pub to_event : (m left : Map) → Happens m (record { seat = key.seat; serial = key.serial; stamp = before }) plan
      receipt left
      → Occurs m (event_at seats receipts key) left
  pub from_event : (m left : Map) → Occurs m (event_at seats receipts key) left
      → Happens m (record { seat = key.seat; serial = key.serial; stamp = before }) plan receipt left

-- what was read at a place and tried is the event there
pub tried_is : (seats : List (List CheckedView)) (receipts : List (List Receipt)) (key : ReceiptKey)
    (mine own : List Receipt)
    (plan : CheckedView) (receipt : Receipt) (before : ℕ)
    → IsKey receipts key → mine ≡ slice_index_or receipts key.seat mine → own ≡ mine
    → plan ≡ slice_index_or (at_seat seats key.seat) key.nth no_plan
    → receipt ≡ slice_index_or own key.nth receipt → before ≡ stamp_before 0 own key.nth
    → IsEvent seats receipts key plan receipt before
tried_is seats receipts key mine own plan receipt before place is_mine is_own is_plan is_receipt is_before =
    let here : at_seat receipts key.seat ≡ own = own_is receipts key.seat mine own place.seat is_mine is_own in
    let nth : key.nth < length own = omega (arith, ap length here, place.nth) in
    let r : slice_index_or (at_seat receipts key.seat) key.nth no_receipt ≡ receipt =
    nth_is receipts key.seat key.nth own no_receipt receipt here nth is_receipt in
    let b : before ≡ stamp_before 0 (at_seat receipts key.seat) key.nth = is_before
    ∙ ap (λ rs. stamp_before 0 rs key.nth) (sym here) in
    let same : (m left : Map) → Happens m (record { seat = key.seat; serial = key.serial; stamp = before }) plan
    receipt left
    ≡ Occurs m (event_at seats receipts key) left =
    λ m left j. Happens m (record { seat = key.seat; serial = place.serial j; stamp = b j }) (is_plan j)
    (sym r j) left in
    record {
      to_event = λ m left h. subst (λ (X : Type 0). X) (same m left) h;
      from_event = λ m left h. subst (λ (X : Type 0). X) (sym (same m left)) h;
    }

-- the places of a seat's receipts from the nth on are places
places_of : (receipts : List (List Receipt)) (seat nth : ℕ) (own : List Receipt) → seat < length receipts
    → ((i : ℕ) (receipt : Receipt) → slice_get own i ≡ Some receipt
    → slice_get (at_seat receipts seat) (nth + i) ≡ Some receipt)
    → All (IsKey receipts) (keys_of seat nth own)
places_of receipts seat nth [] lt is = λ k d below. absurd (omega (arith, below))
places_of receipts seat nth (receipt ∷ own) lt is =
    let same : nth + 0 ≡ nth = omega arith in
    let at : slice_get (at_seat receipts seat) nth ≡ Some receipt =
    subst (λ (n : ℕ). slice_get (at_seat receipts seat) n ≡ Some receipt) same (is 0 receipt refl) in
    let read : receipt ≡ slice_index_or (at_seat receipts seat) nth no_receipt =
    sym (get_or_from_slice_get (at_seat receipts seat) nth receipt no_receipt at) in
    let shift : (i : ℕ) → nth + suc i ≡ suc nth + i = λ i. omega arith in
    All-cons (IsKey receipts) (key_of seat nth receipt) (keys_of seat (suc nth) own)
    (record {
      seat = lt;
      nth = slice_get_within (at_seat receipts seat) nth receipt at;
      stamp = ap (λ (r : Receipt). r.tag.stamp) read;
      serial = ap (λ (r : Receipt). r.tag.serial) read;
    })
    (places_of receipts seat (suc nth) own lt
    (λ i r e. subst (λ (n : ℕ). slice_get (at_seat receipts seat) n ≡ Some r) (shift i) (is (suc i) r e)))

-- the places of all receipts from a seat on are places
places_from : (receipts : List (List Receipt)) (seat : ℕ) (rest : List (List Receipt))
    → ((s : ℕ) (own : List Receipt) → slice_get rest s ≡ Some own → slice_get receipts (seat + s) ≡ Some own)
    → All (IsKey receipts) (keys_from seat rest)
places_from receipts seat [] is = λ k d below. absurd (omega (arith, below))
places_from receipts seat (own ∷ rest) is =
    let same : seat + 0 ≡ seat = omega arith in
    let at : slice_get receipts seat ≡ Some own = subst (λ (n : ℕ). slice_get receipts n ≡ Some own) same
    (is 0 own refl) in
    let here : at_seat receipts seat ≡ own = get_or_from_slice_get receipts seat own [] at in
    let shift : (s : ℕ) → seat + suc s ≡ suc seat + s = λ s. omega arith in
    let zero_is : (i : ℕ) → i ≡ 0 + i = λ i. omega arith in
    All-append (IsKey receipts) (keys_of seat 0 own) (keys_from (suc seat) rest)
    (places_of receipts seat 0 own (slice_get_within receipts seat own at)
    (λ i r e. subst (λ (n : ℕ). slice_get (at_seat receipts seat) n ≡ Some r) (zero_is i)
    (ap (λ rs. slice_get rs i) here ∙ e)))
    (places_from receipts (suc seat) rest
    (λ s o e. subst (λ (n : ℕ). slice_get receipts n ≡ Some o) (shift s) (is (suc s) o e)))

-- the places of all receipts, in any order, are places
pub all_places : (receipts : List (List Receipt)) (keys : List ReceiptKey) → IsPermutation (keys_from 0 receipts) keys
    → All (IsKey receipts) keys
all_places receipts keys same =
    let zero_is : (s : ℕ) → s ≡ 0 + s = λ s. omega arith in
    All-permutation (IsKey receipts) (keys_from 0 receipts) keys same
    (places_from receipts 0 receipts (λ s own e. subst (λ (n : ℕ). slice_get receipts n ≡ Some own) (zero_is s) e))

-- a place is one of a transaction too
pub within : (seats : List (List CheckedView)) (receipts : List (List Receipt)) (key : ReceiptKey)
    → HasBegun receipts seats
    → IsKey receipts key
    → (key.seat < length seats) × (key.nth < length (at_seat seats key.seat))
within seats receipts key b place =
    let most : length (at_seat receipts key.seat) ≤ length (at_seat seats key.seat) =
    has_most receipts seats key.seat b place.seat in
    (omega (arith, b.each, place.seat), omega (arith, most, place.nth))

-- each transaction fits, so the one at a place does
pub fits_at : (kinds : ℕ → Option Kind) (seats : List (List CheckedView)) (receipts : List (List Receipt))
    (key : ReceiptKey)
    (plan : CheckedView)
    → All (All (λ (plan : CheckedView). Fits kinds plan.steps)) seats → HasBegun receipts seats → IsKey receipts key
    → plan ≡ slice_index_or (at_seat seats key.seat) key.nth no_plan → Fits kinds plan.steps
fits_at kinds seats receipts key plan all b place is =
    let there = within seats receipts key b place in
    subst (λ (p : CheckedView). Fits kinds p.steps) (sym is) (all key.seat [] there.0 key.nth no_plan there.1)
