-- What the code keeps along an order.
use Rattle.std.proofs.Common.{◌≡◌, refl, sym, ◌∙◌, ap, subst, inl, inr, ℕ, zero, suc, ◌+◌, ◌<◌, ◌≤◌, Bool, true, false, not, ◌&&◌}
use Rattle.std.proofs.Common.{◌||◌, ◌⊎◌, Vec, Global, List, [], ◌∷◌, ◌++◌, append_assoc, map, length, drop}
use Rattle.std.proofs.Common.{slice_index_or, set, arith}
use Rattle.std.proofs.lemmas.Bool.{cases_lt}
use Rattle.std.proofs.lemmas.List.{drop_more, drop_all, get_or_past, get_or_read, get_or_append_left, get_or_push}
use Rattle.txc_chan.specs.declared.decl.Decl.{Decl}
use Rattle.txc_txn.specs.Limits.{CheckedView}
use Rattle.txc_txn.specs.Maps.{Map}
use Rattle.txc_txn.specs.Opening.{opening_map}
use Rattle.txc_cmd_report.specs.declared.seat_end.SeatEnd.{SeatEnd}
use Rattle.txc_cmd_report.specs.declared.seat_end.SeatEnd.TheVariants.{Finished}
use Rattle.txc_cmd_report.specs.Text.{is_stopped}
use Rattle.txc_cmd_replay.specs.Rounds.{Round, SeatProgress, round_to, turn, turn_to, untried}
use Rattle.txc_cmd_script.specs.Script.{Script}
use Rattle.txc_cmd_explore.specs.declared.state.Shape.{Shape}
use Rattle.txc_cmd_explore.specs.Ends.{IsAmong, shape_of, shapes_from}
use Rattle.txc_cmd_explore.specs.Moves.{after_move, after_moves, can_move, is_move, reached, seat_in, turn_in}
use Rattle.txc_cmd_explore.specs.Followed.{HaveTried}
use Rattle.txc_cmd_explore.proofs.Searching.{no_turn, none_after}

-- a turn that the code ran is the one of the order
pub stepped : (seats : List (List CheckedView)) (seat : ℕ) (m m' : Map) (st : List SeatProgress)
    (plans : List CheckedView) (s s' : SeatProgress) (kept moved : Bool) → seat < length seats → seat < length st
    → plans ≡ slice_index_or seats seat plans → s ≡ slice_index_or st seat s
    → turn_to m' s' kept ≡ turn seat plans m s
    → moved ≡ (kept || (is_stopped s'.end && not (is_stopped s.end)))
    → round_to m' (set st seat s') moved ≡ after_move seats seat (round_to m st true)
stepped seats seat m m' st plans s s' kept moved lt lt' p q e is =
    let p' : plans ≡ slice_index_or seats seat [] = get_or_read seats seat plans lt p [] in
    let q' : s ≡ slice_index_or st seat untried = get_or_read st seat s lt' q untried in
    let e' : turn_to m' s' kept ≡ turn_in seats seat (round_to m st true) = e ∙ (λ i. turn seat (p' i) m (q' i)) in
    (λ i. round_to m' (set st seat s') (is i))
    ∙ (λ i. round_to (e' i).chans (set st seat (e' i).seat_progress) (is_move (q' i) (e' i)))

fresh_each : (seats : List (Vec CheckedView Global)) → map (λ (seat : Vec CheckedView Global). untried) seats
    ≡ map (λ (plans : List CheckedView). untried) (map (λ seat. seat.items) seats)
fresh_each [] = refl
fresh_each (seat ∷ seats) = ap (λ st. untried ∷ st) (fresh_each seats)

-- before the first turn
pub follow_begins : (script : Script) (seats : List (Vec CheckedView Global)) (st : List SeatProgress) (m : Map)
    (order : List ℕ) → map (λ seat. seat.items) seats ≡ script.seats
    → st ≡ map (λ (seat : Vec CheckedView Global). untried) seats → m ≡ opening_map script.decls
    → after_moves (map (λ seat. seat.items) seats) order (round_to m st true) ≡ reached script order
follow_begins script seats st m order e is opening =
    let stand : st ≡ map (λ (plans : List CheckedView). untried) script.seats =
    is ∙ (fresh_each seats ∙ ap (map (λ (plans : List CheckedView). untried)) e) in
    λ i. after_moves (e i) order (round_to (opening i) (stand i) true)

-- the order begins with its next seat
pub follow_next : (seats : List (List CheckedView)) (order : List ℕ) (i : ℕ) (r : Round) → i < length order
    → after_moves seats (drop i order) r
    ≡ after_moves seats (drop (i + 1) order) (after_move seats (slice_index_or order i 0) r)
follow_next seats order i r lt = ap (λ (o : List ℕ). after_moves seats o r) (drop_more order i 0 lt)

-- after the last one
pub follow_ends : (seats : List (List CheckedView)) (order : List ℕ) (i : ℕ) (r : Round) → length order ≤ i
    → after_moves seats (drop i order) r ≡ r
follow_ends seats order i r le = ap (λ (o : List ℕ). after_moves seats o r) (drop_all i order le)

-- a seat that is not there makes no move
pub follow_past : (seats : List (List CheckedView)) (seat : ℕ) (r : Round) → length seats ≤ seat
    → (after_move seats seat r).kept ≡ false
follow_past seats seat r le =
    let none : can_move seats seat r ≡ false =
    ap (λ (plans : List CheckedView). is_move (seat_in seat r) (turn seat plans r.chans (seat_in seat r)))
    (get_or_past seats seat [] le) ∙ no_turn seat r.chans (seat_in seat r) in
    ap (λ b. r.kept && b) none ∙ and_false r.kept
  where
    and_false : (b : Bool) → b && false ≡ false
    and_false true = refl
    and_false false = refl

-- a turn that was no move ends the follow
pub follow_fails : (seats : List (List CheckedView)) (order : List ℕ) (i : ℕ) (r : Round) → i < length order
    → (after_move seats (slice_index_or order i 0) r).kept ≡ false
    → (after_moves seats (drop i order) r).kept ≡ false
follow_fails seats order i r lt none =
    ap (λ (q : Round). q.kept) (follow_next seats order i r lt)
    ∙ none_after seats (drop (i + 1) order) (after_move seats (slice_index_or order i 0) r) none

-- what is seen of one channel more
pub shape_next : (decls : List Decl) (m : Map) (i chan : ℕ) (done : List Shape) (shape : Shape) → i < length decls
    → shape ≡ shape_of (m (chan + i)).channel
    → done ++ shapes_from (chan + i) (drop i decls) m ≡ shapes_from chan decls m
    → (done ++ shape ∷ []) ++ shapes_from (chan + (i + 1)) (drop (i + 1) decls) m ≡ shapes_from chan decls m
shape_next decls m i chan done shape lt is e =
    append_assoc done (shape ∷ []) (shapes_from (chan + (i + 1)) (drop (i + 1) decls) m)
    ∙ ((let step : shape ∷ shapes_from (chan + (i + 1)) (drop (i + 1) decls) m ≡ shapes_from (chan + i) (drop i decls) m =
    here decls m i chan shape lt is in ap (λ l. done ++ l) step) ∙ e)
  where
    here : (decls : List Decl) (m : Map) (i chan : ℕ) (shape : Shape) → i < length decls
        → shape ≡ shape_of (m (chan + i)).channel
        → shape ∷ shapes_from (chan + (i + 1)) (drop (i + 1) decls) m ≡ shapes_from (chan + i) (drop i decls) m
    here [] m i chan shape lt is = absurd (omega (arith, lt))
    here (decl ∷ decls) m zero chan shape lt is =
        let a : chan + (0 + 1) ≡ suc (chan + 0) = omega arith in
        λ j. is j ∷ shapes_from (a j) decls m
    here (decl ∷ decls) m (suc i) chan shape lt is =
        let a : chan + suc i ≡ suc chan + i = omega arith in
        let b : chan + (suc i + 1) ≡ suc chan + (i + 1) = omega arith in
        let c : suc i + 1 ≡ suc (i + 1) = omega arith in
        let is' : shape ≡ shape_of (m (suc chan + i)).channel = is ∙ ap (λ k. shape_of (m k).channel) a in
        (λ j. shape ∷ shapes_from (b j) (drop (c j) (decl ∷ decls)) m)
        ∙ (here decls m i (suc chan) shape (omega (arith, lt)) is'
        ∙ ap (λ k. shapes_from k (drop i decls) m) (sym a))

-- before the first turn is tried
pub tried_none : (script : Script) (order : List ℕ) (waiting : List (List ℕ)) (ends : List SeatEnd) → ends ≡ []
    → HaveTried script order 0 waiting waiting ends false
tried_none script order waiting ends e = record {
  more = λ o h. h;
  next = λ seat lt. absurd (omega (arith, lt));
  some = λ no. absurd (cc);
  none = λ _ seat lt. absurd (omega (arith, lt));
  many = ap length e;
  each = λ seat lt. absurd (omega (arith, lt));
}

-- after one more turn was tried
module _ (script : Script) (order : List ℕ) (tried : ℕ) (before waiting after : List (List ℕ))
    (ends : List SeatEnd) (end : SeatEnd) (any more moved : Bool)
    (done : HaveTried script order tried before waiting ends any)
    (moves : moved ≡ can_move script.seats tried (reached script order))
    (ended : end ≡ (turn_in script.seats tried (reached script order)).seat_progress.end)
    (waits : (o : List ℕ) → IsAmong waiting o → IsAmong after o)
    (now : moved ≡ true → IsAmong after (order ++ tried ∷ []))
    (some_of : more ≡ true → (any ≡ true) ⊎ (moved ≡ true))
    (any_of : more ≡ false → (any ≡ false) × (moved ≡ false)) where
  pub tried_more : HaveTried script order (tried + 1) before after (ends ++ end ∷ []) more
  tried_more = record {
    more = λ o h. waits o (done.more o h);
    next = λ seat lt can. elim (cases_lt seat tried) [
      | inl l ↦ waits (order ++ seat ∷ []) (done.next seat l can)
      | inr g ↦ (let e : tried ≡ seat = omega (arith, lt, g) in
          subst (λ k. IsAmong after (order ++ k ∷ [])) e (now (moves
          ∙ (ap (λ k. can_move script.seats k (reached script order)) e ∙ can))))
    ];
    some = λ yes. elim (some_of yes) [
      | inl was ↦ (let x = done.some was in (x.0, (omega (arith, x.1.0), x.1.1)))
      | inr now ↦ (tried, (omega arith, sym moves ∙ now))
    ];
    none = λ no seat lt. elim (cases_lt seat tried) [
      | inl l ↦ done.none (any_of no).0 seat l
      | inr g ↦ (let e : tried ≡ seat = omega (arith, lt, g) in
          sym (ap (λ k. can_move script.seats k (reached script order)) e) ∙ (sym moves ∙ (any_of no).1))
    ];
    many = let one = done.many in let two = length-push ends end in omega (arith, one, two);
    each = λ seat lt. elim (cases_lt seat tried) [
      | inl l ↦ get_or_append_left ends (end ∷ []) Finished seat (omega (arith, l, done.many)) ∙ done.each seat l
      | inr g ↦ (let e : tried ≡ seat = omega (arith, lt, g) in
          get_or_push ends end Finished seat (done.many ∙ e) ∙ (ended
          ∙ ap (λ k. (turn_in script.seats k (reached script order)).seat_progress.end) e))
    ];
  }
    where
      length-push : (xs : List SeatEnd) (y : SeatEnd) → length (xs ++ y ∷ []) ≡ length xs + 1
      length-push [] y = refl
      length-push (x ∷ xs) y = let more = length-push xs y in omega (arith, more)
