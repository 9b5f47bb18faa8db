-- A round, as far as it has come, and the rounds after it.
use Rattle.std.proofs.Common.{◌≡◌, refl, sym, ◌∙◌, ap, ℕ, zero, suc, ◌+◌, ◌<◌, ◌≤◌, add-one, append_assoc, drop-cons}
use Rattle.std.proofs.Common.{Bool, false, ◌||◌, Vec, Global, List, [], ◌∷◌, ◌++◌, map, length, take, drop}
use Rattle.std.proofs.Common.{slice_index_or, set, arith}
use Rattle.std.proofs.Math.Bool.{or_assoc, or-false}
use Rattle.std.proofs.Math.ListN.{drop_of_length-le}
use Rattle.std.proofs.lemmas.List.{take_more_set, drop-set-lt, get_or-map, take-append-drop}
use Rattle.txc_txn.specs.Limits.{CheckedView}
use Rattle.txc_txn.specs.Maps.{Map}
use Rattle.txc_cmd_replay.specs.Rounds.{Round, SeatProgress, Turn, round_from, round_to, rounds_within, turn, turn_to}
use Rattle.txc_cmd_replay.specs.Rounds.{with_turn}

-- a round after these turns of it
abbrev pub after_turns : List SeatProgress → Bool → Round → Round
after_turns done kept r = record { chans = r.chans; progress = done ++ r.progress; kept = kept || r.kept }

-- one more turn may be counted among those before it
turned : (done : List SeatProgress) (kept : Bool) (m : Map) (s : SeatProgress) (k : Bool) (t : Turn)
    (rest : Map → Round)
    → turn_to m s k ≡ t
    → after_turns done kept (with_turn t rest) ≡ after_turns (done ++ s ∷ []) (kept || k) (rest m)
turned done kept m s k t rest e =
    (λ j. after_turns done kept (with_turn (sym e j) rest))
    ∙ (λ j. record {
      chans = (rest m).chans;
      progress = sym (append_assoc done (s ∷ []) (rest m).progress) j;
      kept = sym (or_assoc kept k (rest m).kept) j;
    })

-- the rest of a round begins with the turn of its first seat
opened : (i : ℕ) (seats : List (List CheckedView)) (st : List SeatProgress) (m : Map) (plans : List CheckedView)
    (s : SeatProgress)
    → i < length seats → i < length st
    → plans ≡ slice_index_or seats i plans → s ≡ slice_index_or st i s
    → round_from i (drop i seats) (drop i st) m ≡ with_turn (turn i plans m s)
    (round_from (i + 1) (drop (i + 1) seats) (drop (i + 1) st))
opened i seats st m plans s lt lt' p q =
    let here : drop i seats ≡ plans ∷ drop (i + 1) seats =
    rw (add-one, drop-cons seats i plans) (ap (λ y. y ∷ drop (suc i) seats) (sym p)) in
    let there : drop i st ≡ s ∷ drop (i + 1) st =
    rw (add-one, drop-cons st i s) (ap (λ y. y ∷ drop (suc i) st) (sym q)) in
    (λ j. round_from i (here j) (there j) m)
    ∙ ap (λ n. with_turn (turn i plans m s) (round_from n (drop (i + 1) seats) (drop (i + 1) st))) (omega arith)

-- a round, after the next turn of it, comes to the same
pub turn_taken : (i : ℕ) (seats : List (List CheckedView)) (st : List SeatProgress) (m m' : Map)
    (plans : List CheckedView) (s s' : SeatProgress) (kept k : Bool)
    → i < length seats → i < length st → plans ≡ slice_index_or seats i plans → s ≡ slice_index_or st i s
    → turn_to m' s' k ≡ turn i plans m (slice_index_or st i s)
    → after_turns (take i st) kept (round_from i (drop i seats) (drop i st) m)
    ≡ after_turns (take (i + 1) (set st i s')) (kept || k)
    (round_from (i + 1) (drop (i + 1) seats) (drop (i + 1) (set st i s')) m')
turn_taken i seats st m m' plans s s' kept k lt lt' p q e =
    let more : take (i + 1) (set st i s') ≡ take i st ++ s' ∷ [] = take_more_set st i s' lt' in
    let rest : drop (i + 1) (set st i s') ≡ drop (i + 1) st = drop-set-lt (i + 1) st i s' (omega arith) in
    ap (after_turns (take i st) kept) (opened i seats st m plans s lt lt' p q)
    ∙ turned (take i st) kept m' s' k (turn i plans m s) (round_from (i + 1) (drop (i + 1) seats) (drop (i + 1) st))
    (e ∙ ap (λ (x : SeatProgress). turn i plans m x) (sym q))
    ∙ (λ j. after_turns (sym more j) (kept || k) (round_from (i + 1) (drop (i + 1) seats) (sym rest j) m'))

-- after the last turn nothing is left of a round
pub all_turns : (i : ℕ) (seats : List (List CheckedView)) (st : List SeatProgress) (m : Map) (kept : Bool)
    → length seats ≤ i
    → after_turns (take i st) kept (round_from i (drop i seats) (drop i st) m) ≡ round_to m st kept
all_turns i seats st m kept le =
    (λ j. after_turns (take i st) kept (round_from i (drop_of_length-le seats le j) (drop i st) m))
    ∙ (λ j. round_to m (take-append-drop i st j) (or-false kept j))

-- the plans of a seat, by its number
pub plans_at : (seats : List (Vec CheckedView Global)) (i : ℕ) (seat : Vec CheckedView Global) → i < length seats
    → seat ≡ slice_index_or seats i seat
    → slice_index_or (map (λ s. s.items) seats) i seat.items ≡ seat.items
plans_at seats i seat lt is = get_or-map (λ s. s.items) seats i seat seat.items lt
    ∙ sym (ap (λ (s : Vec CheckedView Global). s.items) is)

-- a round in which nothing was kept is the last
pub no_more : (n : ℕ) (seats : List (List CheckedView)) (r : Round) → r.kept ≡ false → rounds_within n seats r ≡ r
no_more zero seats r e = refl
no_more (suc n) seats r e = rw e refl
