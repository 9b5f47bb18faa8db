-- A search over orders: what it has seen, what waits to be visited, and what it has found.
use Rattle.std.proofs.Common.{◌≡◌, ◌≢◌, refl, sym, ◌∙◌, ap, subst, inl, inr, ⊎_elim, ◌⊎◌, ℕ, zero, suc, ◌-◌, ◌<◌, ◌≤◌}
use Rattle.std.proofs.Common.{Bool, true, false, not, ◌&&◌, List, [], ◌∷◌, ◌++◌, append_assoc, append-nil, length}
use Rattle.std.proofs.Common.{length-append, slice_index_or, arith}
use Rattle.std.proofs.lemmas.Bool.{cases_lt}
use Rattle.std.proofs.lemmas.List.{get_or_past}
use Rattle.txc_base.specs.declared.limits.TheConstants.{GREATEST_NUMBER}
use Rattle.txc_txn.specs.Limits.{CheckedView}
use Rattle.txc_txn.specs.Maps.{Map}
use Rattle.txc_cmd_report.specs.declared.seat_end.SeatEnd.{SeatEnd}
use Rattle.txc_cmd_report.specs.declared.seat_end.SeatEnd.TheVariants.{Finished, Stalled, Stopped}
use Rattle.txc_cmd_report.specs.Text.{is_stopped}
use Rattle.txc_cmd_replay.specs.Rounds.{Round, SeatProgress, next_plan, try_next, turn}
use Rattle.txc_cmd_script.specs.Script.{IsSound, Script}
use Rattle.txc_cmd_explore.specs.declared.state.State.{State}
use Rattle.txc_cmd_explore.specs.declared.found_end.FoundEnd.{FoundEnd}
use Rattle.txc_cmd_explore.specs.Ends.{AreApart, IsAmong, IsEnd, IsExplored, IsSeen, state_of}
use Rattle.txc_cmd_explore.specs.Search.{IsVisited, IsSearch, Owed}
use Rattle.txc_cmd_explore.specs.Moves.{after_move, after_moves, can_move, is_move, reached, seat_in}
use Rattle.txc_cmd_explore.proofs.Moving.{AlikeRounds, alike_state, ends_alike, move_alike, moves_alike, state_alike}
use Rattle.txc_cmd_explore.proofs.Moving.{reached_alike, rounds_more}

-- lists with one more at the end
pub from_push : {X : Type 0} (xs : List X) (y x : X) → IsAmong (xs ++ y ∷ []) x → IsAmong xs x ⊎ (y ≡ x)
from_push [] y x (inl e) = inr e
from_push [] y x (inr h) = absurd h
from_push (z ∷ xs) y x (inl e) = inl (inl e)
from_push (z ∷ xs) y x (inr h) = ⊎_elim (λ (k : IsAmong xs x). inl (inr k)) (λ (e : y ≡ x). inr e) (from_push xs y x h)

pub to_push : {X : Type 0} (xs : List X) (y x : X) → IsAmong xs x → IsAmong (xs ++ y ∷ []) x
to_push [] y x h = absurd h
to_push (z ∷ xs) y x (inl e) = inl e
to_push (z ∷ xs) y x (inr h) = inr (to_push xs y x h)

pub pushed : {X : Type 0} (xs : List X) (y : X) → IsAmong (xs ++ y ∷ []) y
pushed [] y = inl refl
pushed (z ∷ xs) y = inr (pushed xs y)

pub got_among : {X : Type 0} (xs : List X) (k : ℕ) (x d : X) → k < length xs → slice_index_or xs k d ≡ x → IsAmong xs x
got_among [] k x d lt e = absurd (omega (arith, lt))
got_among (y ∷ xs) zero x d lt e = inl e
got_among (y ∷ xs) (suc k) x d lt e = inr (got_among xs k x d (omega (arith, lt)) e)

-- one more end, whose state no other has
pub apart_push : (script : Script) (found : List FoundEnd) (end : FoundEnd)
    → ((other : FoundEnd) → IsAmong found other
    → state_of script.decls (reached script other.order) ≢ state_of script.decls (reached script end.order))
    → AreApart script found → AreApart script (found ++ end ∷ [])
apart_push script [] end new apart = (λ other none. absurd none, tt)
apart_push script (first ∷ found) end new apart = (
  λ other h. ⊎_elim
      (λ (k : IsAmong found other). apart.0 other k)
      (λ (e : end ≡ other) same. new first (inl refl)
      (same ∙ ap (λ (x : FoundEnd). state_of script.decls (reached script x.order)) (sym e)))
      (from_push found end other h),
  apart_push script found end (λ other h. new other (inr h)) apart.1,
)

-- one more move
pub moves_push : (seats : List (List CheckedView)) (order : List ℕ) (seat : ℕ) (r : Round)
    → after_moves seats (order ++ seat ∷ []) r ≡ after_move seats seat (after_moves seats order r)
moves_push seats [] seat r = refl
moves_push seats (one ∷ order) seat r = moves_push seats order seat (after_move seats one r)

-- one order after another
pub moves_append : (seats : List (List CheckedView)) (one two : List ℕ) (r : Round)
    → after_moves seats (one ++ two) r ≡ after_moves seats two (after_moves seats one r)
moves_append seats [] two r = refl
moves_append seats (seat ∷ one) two r = moves_append seats one two (after_move seats seat r)

and_left : (a b : Bool) → a && b ≡ true → a ≡ true
and_left true b h = refl
and_left false b h = h

pub and_right : (a b : Bool) → a && b ≡ true → b ≡ true
and_right true b h = h
and_right false b h = cc

-- where each turn of an order was a move, each before it was
pub kept_before : (seats : List (List CheckedView)) (order : List ℕ) (r : Round)
    → (after_moves seats order r).kept ≡ true → r.kept ≡ true
kept_before seats [] r e = e
kept_before seats (seat ∷ order) r e = and_left r.kept (can_move seats seat r)
    (kept_before seats order (after_move seats seat r) e)

-- after a turn that was none, no order is one of moves
pub none_after : (seats : List (List CheckedView)) (order : List ℕ) (r : Round) → r.kept ≡ false
    → (after_moves seats order r).kept ≡ false
none_after seats [] r e = e
none_after seats (seat ∷ order) r e =
    none_after seats order (after_move seats seat r) (ap (λ b. b && can_move seats seat r) e)

and_not : (b : Bool) → b && not b ≡ false
and_not true = refl
and_not false = refl

-- a seat that has no transactions cannot move
pub no_turn : (seat : ℕ) (m : Map) (s : SeatProgress) → is_move s (turn seat [] m s) ≡ false
no_turn seat m s = of s.end
  where
    of : (end : SeatEnd) → is_move s (try_next seat (next_plan [] (length s.receipts) end) m s) ≡ false
    of Finished = and_not (is_stopped s.end)
    of (Stalled cause) = and_not (is_stopped s.end)
    of (Stopped stop) = and_not (is_stopped s.end)

-- so a seat that moves is there
pub in_range : (seats : List (List CheckedView)) (seat : ℕ) (r : Round) → can_move seats seat r ≡ true
    → seat < length seats
in_range seats seat r moves = ⊎_elim (λ (lt : seat < length seats). lt)
    (λ (le : length seats ≤ seat).
    let none : can_move seats seat r ≡ false =
    ap (λ (plans : List CheckedView). is_move (seat_in seat r) (turn seat plans r.chans (seat_in seat r)))
    (get_or_past seats seat [] le) ∙ no_turn seat r.chans (seat_in seat r) in absurd (cc))
    (cases_lt seat (length seats))

module _ (script : Script) where
  -- before the first visit
  pub search_begins : (seen : List State) (waiting : List (List ℕ)) (found : List FoundEnd) → seen ≡ []
      → waiting ≡ [] ∷ [] → found ≡ [] → IsSearch script seen waiting found
  search_begins seen waiting found a b c = record {
    first = λ _. inl (subst (λ (w : List (List ℕ)). IsAmong w []) (sym b) (inl refl));
    visited = λ state h. absurd (subst (λ (p : List State). IsAmong p state) a h);
    sound = λ end h. absurd (subst (λ (f : List FoundEnd). IsAmong f end) c h);
    within = λ end h. absurd (subst (λ (f : List FoundEnd). IsAmong f end) c h);
    once = subst (λ (f : List FoundEnd). AreApart script f) (sym c) tt;
  }

  module _ (seen seen' : List State) (rest waiting : List (List ℕ)) (found found' : List FoundEnd) (order : List ℕ)
      (seen_more : (state : State) → IsAmong seen state → IsAmong seen' state)
      (waiting_more : (o : List ℕ) → IsAmong rest o → IsAmong waiting o)
      (found_more : (end : FoundEnd) → IsAmong found end → IsAmong found' end)
      (done : (reached script order).kept ≡ true → IsAmong seen' (state_of script.decls (reached script order))) where
    owed_on : (o : List ℕ) → Owed script seen (rest ++ order ∷ []) o → Owed script seen' waiting o
    owed_on o owed kept =
        ⊎_elim
        (λ (h : IsAmong (rest ++ order ∷ []) o). ⊎_elim
        (λ (k : IsAmong rest o). inl (waiting_more o k))
        (λ (e : order ≡ o). inr (subst (λ (q : List ℕ). IsAmong seen' (state_of script.decls (reached script q))) e
        (done (subst (λ (q : List ℕ). (reached script q).kept ≡ true) (sym e) kept))))
        (from_push rest order o h))
        (λ (h : IsAmong seen (state_of script.decls (reached script o))). inr (seen_more _ h))
        (owed kept)

    visited_on : (state : State) → IsVisited script seen (rest ++ order ∷ []) found state → IsVisited script seen' waiting found' state
    visited_on state x = record {
      order = x.order;
      short = x.short;
      moved = x.moved;
      at = x.at;
      next = λ seat lt. owed_on (x.order ++ seat ∷ []) (x.next seat lt);
      ended = λ is. let e = x.ended is in (e.0, (found_more e.0 e.1.0, e.1.1));
    }

    -- after an order was visited
    pub search_goes_on : IsSearch script seen (rest ++ order ∷ []) found
        → ((state : State) → IsAmong seen' state → IsAmong seen state ⊎ IsVisited script seen' waiting found' state)
        → ((end : FoundEnd) → IsAmong found' end → IsEnd script end.order × IsSeen script end.order end)
        → ((end : FoundEnd) → IsAmong found' end → IsAmong seen' (state_of script.decls (reached script end.order)))
        → AreApart script found' → IsSearch script seen' waiting found'
    search_goes_on s fresh sound within once = record {
      first = owed_on [] s.first;
      visited = λ state h. ⊎_elim
          (λ (k : IsAmong seen state). visited_on state (s.visited state k))
          (λ (x : IsVisited script seen' waiting found' state). x) (fresh state h);
      sound = sound;
      within = within;
      once = once;
    }

  -- an order that is not one of moves, or whose state was seen, is done with
  pub search_drops : (seen : List State) (rest : List (List ℕ)) (found : List FoundEnd) (order : List ℕ)
      → ((reached script order).kept ≡ true → IsAmong seen (state_of script.decls (reached script order)))
      → IsSearch script seen (rest ++ order ∷ []) found → IsSearch script seen rest found
  search_drops seen rest found order done s =
      search_goes_on seen seen rest rest found found order (λ p h. h) (λ o h. h) (λ e h. h) done s
      (λ state h. inl h) s.sound s.within s.once

  -- a state that is new was visited: its next moves wait, and its end was found
  pub search_adds : (seen : List State) (rest waiting : List (List ℕ)) (found found' : List FoundEnd) (order : List ℕ)
      (state : State)
      → (reached script order).kept ≡ true → length order < GREATEST_NUMBER
      → state ≡ state_of script.decls (reached script order)
      → ((o : List ℕ) → IsAmong rest o → IsAmong waiting o)
      → ((seat : ℕ) → seat < length script.seats → (reached script (order ++ seat ∷ [])).kept ≡ true
      → IsAmong waiting (order ++ seat ∷ []))
      → ((end : FoundEnd) → IsAmong found end → IsAmong found' end)
      → ((end : FoundEnd) → IsAmong found' end → IsAmong found end
      ⊎ (IsEnd script end.order × IsSeen script end.order end))
      → (IsEnd script order → (end : FoundEnd) × (IsAmong found' end × IsSeen script order end))
      → ((end : FoundEnd) → IsAmong found' end
      → IsAmong (seen ++ state ∷ []) (state_of script.decls (reached script end.order)))
      → AreApart script found'
      → IsSearch script seen (rest ++ order ∷ []) found → IsSearch script (seen ++ state ∷ []) waiting found'
  search_adds seen rest waiting found found' order state kept short at waits next found_more sound ended within once s =
      search_goes_on seen (seen ++ state ∷ []) rest waiting found found' order (λ p h. to_push seen state p h) waits
      found_more
      (λ _. subst (λ (p : State). IsAmong (seen ++ state ∷ []) p) at (pushed seen state)) s
      (λ p h. ⊎_elim (λ (k : IsAmong seen p). inl k)
      (λ (e : state ≡ p). inr (record {
        order = order;
        short = short;
        moved = kept;
        at = sym e ∙ at;
        next = λ seat lt moved. inl (next seat lt moved);
        ended = ended;
      })) (from_push seen state p h))
      (λ end h. ⊎_elim (λ (k : IsAmong found end). s.sound end k)
      (λ (k : IsEnd script end.order × IsSeen script end.order end). k) (sound end h)) within once

  module _ (sound : IsSound script) where
    -- two short orders at one state stand alike
    at_one_state : (one other : List ℕ) → length one < GREATEST_NUMBER → length other < GREATEST_NUMBER
        → state_of script.decls (reached script one) ≡ state_of script.decls (reached script other)
        → AlikeRounds script.decls (GREATEST_NUMBER - 1) (reached script one) (reached script other)
    at_one_state one other lt lt' e =
        state_alike script.decls (GREATEST_NUMBER - 1) (reached script one) (reached script other)
        (rounds_more script.decls (length one) (GREATEST_NUMBER - 1) (reached script one) (reached script one)
        (omega (arith, lt)) (reached_alike script sound one (omega (arith, lt))))
        (rounds_more script.decls (length other) (GREATEST_NUMBER - 1) (reached script other) (reached script other)
        (omega (arith, lt')) (reached_alike script sound other (omega (arith, lt')))) e

    module _ (seen : List State) (found : List FoundEnd) (s : IsSearch script seen [] found) where
      seen_next : (order : List ℕ) (seat : ℕ) → length order < GREATEST_NUMBER
          → (reached script (order ++ seat ∷ [])).kept ≡ true
          → IsAmong seen (state_of script.decls (reached script order))
          → IsAmong seen (state_of script.decls (reached script (order ++ seat ∷ [])))
      seen_next order seat short kept h =
          let x = s.visited (state_of script.decls (reached script order)) h in
          let alike = at_one_state order x.order short x.short x.at in
          let below : GREATEST_NUMBER - 1 < GREATEST_NUMBER = omega (arith, short) in
          let here : (after_move script.seats seat (reached script order)).kept ≡ true =
          sym (ap (λ (r : Round). r.kept) (moves_push script.seats order seat (reached script []))) ∙ kept in
          let can : can_move script.seats seat (reached script order) ≡ true =
          and_right (reached script order).kept (can_move script.seats seat (reached script order)) here in
          let can' : can_move script.seats seat (reached script x.order) ≡ true =
          sym (moves_alike script.decls script.seats sound.fits (GREATEST_NUMBER - 1) below seat (reached script order)
          (reached script x.order) alike) ∙ can in
          let there : (reached script (x.order ++ seat ∷ [])).kept ≡ true =
          ap (λ (r : Round). r.kept) (moves_push script.seats x.order seat (reached script []))
          ∙ ((λ i. x.moved i && can' i)) in
          let same : state_of script.decls (reached script (x.order ++ seat ∷ []))
          ≡ state_of script.decls (reached script (order ++ seat ∷ [])) =
          ap (state_of script.decls) (moves_push script.seats x.order seat (reached script []))
          ∙ (sym (alike_state script.decls (suc (GREATEST_NUMBER - 1))
          (after_move script.seats seat (reached script order)) (after_move script.seats seat (reached script x.order))
          (move_alike script.decls script.seats sound.fits (GREATEST_NUMBER - 1) below seat (reached script order)
          (reached script x.order) alike))
          ∙ ap (state_of script.decls) (sym (moves_push script.seats order seat (reached script [])))) in
          ⊎_elim (λ (k : IsAmong {X = List ℕ} [] (x.order ++ seat ∷ [])). absurd k)
          (λ (k : IsAmong seen (state_of script.decls (reached script (x.order ++ seat ∷ [])))).
          subst (λ (p : State). IsAmong seen p) same k)
          (x.next seat (in_range script.seats seat (reached script order) can) there)

      -- each state of an order was seen
      seen_from : (before after : List ℕ) → length (before ++ after) < GREATEST_NUMBER
          → (reached script (before ++ after)).kept ≡ true
          → IsAmong seen (state_of script.decls (reached script before))
          → IsAmong seen (state_of script.decls (reached script (before ++ after)))
      seen_from before [] short kept h =
          subst (λ (o : List ℕ). IsAmong seen (state_of script.decls (reached script o))) (sym (append-nil before)) h
      seen_from before (seat ∷ after) short kept h =
          let assoc : (before ++ seat ∷ []) ++ after ≡ before ++ seat ∷ after = append_assoc before (seat ∷ []) after in
          let kept' : (reached script ((before ++ seat ∷ []) ++ after)).kept ≡ true =
          ap (λ (o : List ℕ). (reached script o).kept) assoc ∙ kept in
          let first : (reached script (before ++ seat ∷ [])).kept ≡ true =
          kept_before script.seats after (reached script (before ++ seat ∷ []))
          (sym (ap (λ (r : Round). r.kept) (moves_append script.seats (before ++ seat ∷ []) after (reached script []))) ∙ kept') in
          subst (λ (o : List ℕ). IsAmong seen (state_of script.decls (reached script o))) assoc
          (seen_from (before ++ seat ∷ []) after (subst (λ (o : List ℕ). length o < GREATEST_NUMBER) (sym assoc) short)
          kept' (seen_next before seat (omega (arith, short, length-append before (seat ∷ after))) first h))

      seen_all : (order : List ℕ) → length order < GREATEST_NUMBER → (reached script order).kept ≡ true
          → IsAmong seen (state_of script.decls (reached script order))
      seen_all order short kept = seen_from [] order short kept
          (⊎_elim (λ (k : IsAmong {X = List ℕ} [] []). absurd k)
          (λ (k : IsAmong seen (state_of script.decls (reached script []))). k)
          (s.first refl))

      -- once nothing waits, all ends were found
      pub search_ends : IsExplored script found
      search_ends = record {
        sound = s.sound;
        once = s.once;
        complete = λ order short is.
            let x = s.visited (state_of script.decls (reached script order)) (seen_all order short is.moved) in
            let alike = at_one_state order x.order short x.short x.at in
            let below : GREATEST_NUMBER - 1 < GREATEST_NUMBER = omega (arith, short) in
            let e = x.ended (record {
              moved = x.moved;
              last = λ seat lt. sym (moves_alike script.decls script.seats sound.fits (GREATEST_NUMBER - 1) below seat
                  (reached script order) (reached script x.order) alike) ∙ is.last seat lt;
            }) in (
              e.0,
              (
                e.1.0,
                record {
                  state = x.at ∙ e.1.1.state;
                  many = e.1.1.many;
                  each = λ seat lt. e.1.1.each seat lt ∙ sym (ends_alike script.decls script.seats sound.fits
                      (GREATEST_NUMBER - 1) below seat (reached script order) (reached script x.order) alike);
                },
              ),
            );
      }
