-- The places of receipts, read as events.
use Rattle.std.proofs.Common.{◌≡◌, refl, sym, ◌∙◌, ap, subst, drop, append_assoc, add-one, ◌<◌, ℕ, suc, ◌+◌, Some, List}
use Rattle.std.proofs.Common.{[], ◌∷◌, ◌++◌, ◌≤◌, map, length, slice_get, slice_index_or, arith}
use Rattle.std.proofs.lemmas.List.{at_drop_more, map-append}
use Rattle.std.proofs.lemmas.Option.{get_or_from_slice_get}
use Rattle.txc_txn.specs.declared.receipt.Receipt.{Receipt}
use Rattle.txc_txn_check.specs.Limits.{CheckedView}
use Rattle.txc_table_audit.specs.declared.key.ReceiptKey.{ReceiptKey}
use Rattle.txc_txn_history.specs.Events.{Event, HasBegun, events_of, events_from}
use Rattle.txc_table_audit.specs.ReceiptKeys.{at_seat, event_at, no_plan, no_receipt, stamp_before, keys_of, keys_from}

-- the place of a receipt
abbrev pub key_of : ℕ → ℕ → Receipt → ReceiptKey
key_of seat nth receipt = record { stamp = receipt.tag.stamp; seat = seat; serial = receipt.tag.serial; nth = nth }

-- a transaction of a seat, with the one before it
abbrev pub event_of : ℕ → ℕ → CheckedView → Receipt → Event
event_of seat before plan receipt = record { seat = seat; plan = plan; before = before; receipt = receipt }

-- a reading of places says the events of a seat from the nth place on
abbrev ReadsSeat : (ReceiptKey → Event) → ℕ → ℕ → ℕ → List CheckedView → List Receipt → Type 0
ReadsSeat at seat nth before plans own = (i : ℕ) (plan : CheckedView) (receipt : Receipt)
    → slice_get plans i ≡ Some plan
    → slice_get own i ≡ Some receipt
    → at (key_of seat (nth + i) receipt) ≡ event_of seat (stamp_before before own i) plan receipt

-- .. so read, the places of the seat are its events
one_seat : (at : ReceiptKey → Event) (seat nth before : ℕ) (plans : List CheckedView) (own : List Receipt)
    → length own ≤ length plans
    → ReadsSeat at seat nth before plans own → map at (keys_of seat nth own) ≡ events_of seat before plans own
one_seat at seat nth before [] [] e is = refl
one_seat at seat nth before [] (receipt ∷ own) e is = absurd (omega (arith, e))
one_seat at seat nth before (plan ∷ plans) [] e is = refl
one_seat at seat nth before (plan ∷ plans) (receipt ∷ own) e is =
    let same : nth + 0 ≡ nth = omega arith in
    let first : at (key_of seat nth receipt) ≡ event_of seat before plan receipt =
    subst (λ (n : ℕ). at (key_of seat n receipt) ≡ event_of seat before plan receipt) same
    (is 0 plan receipt refl refl) in
    let shift : (i : ℕ) → nth + suc i ≡ suc nth + i = λ i. omega arith in
    let rest : ReadsSeat at seat (suc nth) receipt.tag.stamp plans own = λ i p r a b.
    subst (λ (n : ℕ). at (key_of seat n r) ≡ event_of seat (stamp_before receipt.tag.stamp own i) p r) (shift i)
    (is (suc i) p r a b) in
    λ j. first j ∷ one_seat at seat (suc nth) receipt.tag.stamp plans own (omega (arith, e)) rest j

-- a reading of places says the events of the seats from this one on
abbrev ReadsAll : (ReceiptKey → Event) → ℕ → List (List CheckedView) → List (List Receipt) → Type 0
ReadsAll at seat seats receipts = (s : ℕ) (plans : List CheckedView) (own : List Receipt)
    → slice_get seats s ≡ Some plans
    → slice_get receipts s ≡ Some own
    → ReadsSeat at (seat + s) 0 0 plans own

-- .. so read, the places of all receipts are all events
all_seats : (at : ReceiptKey → Event) (seat : ℕ) (seats : List (List CheckedView)) (receipts : List (List Receipt))
    → HasBegun receipts seats
    → ReadsAll at seat seats receipts → map at (keys_from seat receipts) ≡ events_from seat seats receipts
all_seats at seat [] [] b is = refl
all_seats at seat [] (own ∷ receipts) b is = absurd (omega (arith, b.each))
all_seats at seat (plans ∷ seats) [] b is = refl
all_seats at seat (plans ∷ seats) (own ∷ receipts) b is =
    let same : seat + 0 ≡ seat = omega arith in
    let long : length own ≤ length plans = b.most 0 own plans refl refl in
    let others : HasBegun receipts seats =
    record { each = omega (arith, b.each); most = λ s o p. b.most (suc s) o p } in
    let first : ReadsSeat at seat 0 0 plans own = subst (λ (n : ℕ). ReadsSeat at n 0 0 plans own) same
    (is 0 plans own refl refl) in
    let shift : (s : ℕ) → seat + suc s ≡ suc seat + s = λ s. omega arith in
    let rest : ReadsAll at (suc seat) seats receipts = λ s ps rs a b.
    subst (λ (n : ℕ). ReadsSeat at n 0 0 ps rs) (shift s) (is (suc s) ps rs a b) in
    map-append at (keys_of seat 0 own) (keys_from (suc seat) receipts)
    ∙ (λ j. one_seat at seat 0 0 plans own long first j ++ all_seats at (suc seat) seats receipts others rest j)

-- the places of all receipts are all events
pub places_are : (seats : List (List CheckedView)) (receipts : List (List Receipt)) → HasBegun receipts seats
    → map (event_at seats receipts) (keys_from 0 receipts) ≡ events_from 0 seats receipts
places_are seats receipts b = all_seats (event_at seats receipts) 0 seats receipts b reads
  where
    read : (seat nth s i : ℕ) (plans : List CheckedView) (own : List Receipt) (plan : CheckedView) (receipt : Receipt)
        → seat ≡ s → nth ≡ i
        → slice_get seats s ≡ Some plans → slice_get receipts s ≡ Some own → slice_get plans i ≡ Some plan
        → slice_get own i ≡ Some receipt
        → event_at seats receipts (key_of seat nth receipt) ≡ event_of seat (stamp_before 0 own i) plan receipt
    read seat nth s i plans own plan receipt es ei a b p r =
        let there : at_seat seats seat ≡ plans = ap (at_seat seats) es ∙ get_or_from_slice_get seats s plans [] a in
        let here : at_seat receipts seat ≡ own = ap (at_seat receipts) es ∙ get_or_from_slice_get receipts s own [] b in
        λ j. record {
          seat = seat;
          plan = ((λ k. slice_index_or (there k) (ei k) no_plan) ∙ get_or_from_slice_get plans i plan no_plan p) j;
          before = stamp_before 0 (here j) (ei j);
          receipt = ((λ k. slice_index_or (here k) (ei k) no_receipt)
              ∙ get_or_from_slice_get own i receipt no_receipt r) j;
        }

    reads : ReadsAll (event_at seats receipts) 0 seats receipts
    reads s plans own a b i plan receipt p r = read (0 + s) (0 + i) s i plans own plan receipt (omega arith)
        (omega arith) a b p r

-- the places of a seat's receipts from the nth on, where that of the nth was added to those before
pub keys_more : (keys more all : List ReceiptKey) (seat nth : ℕ) (receipts : List Receipt) (d : Receipt)
    → nth < length receipts
    → more ≡ keys ++ key_of seat nth (slice_index_or receipts nth d) ∷ []
    → keys ++ keys_of seat nth (drop nth receipts) ≡ all → more ++ keys_of seat (nth + 1) (drop (nth + 1) receipts)
    ≡ all
keys_more keys more all seat nth receipts d lt added so =
    let rest = drop (nth + 1) receipts in
    let key = key_of seat nth (slice_index_or receipts nth d) in
    ap (λ ts. ts ++ keys_of seat (nth + 1) rest) added ∙ append_assoc keys (key ∷ []) (keys_of seat (nth + 1) rest)
    ∙ ap (λ k. keys ++ key ∷ keys_of seat k rest) (add-one nth)
    ∙ sym (at_drop_more (λ rs. keys ++ keys_of seat nth rs) receipts nth d lt) ∙ so
