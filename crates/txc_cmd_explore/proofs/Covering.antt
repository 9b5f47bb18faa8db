-- The replay of a script is one of its orders.
use Rattle.std.proofs.Common.{◌≡◌, refl, sym, ◌∙◌, ap, subst, ℕ, zero, suc, ◌+◌, ◌<◌, Bool, true, false, ◌||◌}
use Rattle.std.proofs.Common.{List, [], ◌∷◌, ◌++◌, append_assoc, length, length-append, map, Option, Some, None, arith}
use Rattle.std.proofs.Common.{slice_get, slice_index_or, slice_set, if◌then◌else◌}
use Rattle.std.specs.Bool.{⊤}
use Rattle.txc_base.specs.declared.cause.Cause.{Cause}
use Rattle.txc_base.specs.declared.tag.Tag.{Tag}
use Rattle.txc_txn.specs.declared.receipt.Receipt.{Receipt}
use Rattle.txc_txn.specs.Limits.{CheckedView}
use Rattle.txc_txn.specs.Maps.{Map}
use Rattle.txc_txn.specs.Transaction.{Ending as Tried, Kept, Again, Aborted, kept_tag, transaction}
use Rattle.txc_cmd_report.specs.declared.seat_end.SeatEnd.{SeatEnd}
use Rattle.txc_cmd_report.specs.declared.seat_end.SeatEnd.TheVariants.{Finished, Stalled, Stopped}
use Rattle.txc_cmd_replay.specs.Rounds.{Round, SeatProgress, Turn, after_try, beginning, idle, last_round, next_plan}
use Rattle.txc_cmd_replay.specs.Rounds.{round_from, round_to, rounds_within, tag_after, transaction_count, try_next, turn}
use Rattle.txc_cmd_replay.specs.Rounds.{untried}
use Rattle.txc_cmd_replay.proofs.Left.{last_keeps_none}
use Rattle.txc_cmd_script.specs.Script.{Script}
use Rattle.txc_cmd_explore.specs.Ends.{IsReplayed}
use Rattle.txc_cmd_explore.specs.Moves.{after_move, after_moves, can_move, is_move, reached, seat_in, turn_in}
use Rattle.txc_cmd_explore.proofs.Searching.{moves_append}

-- how a seat ended, without a retry
abbrev pub settled_end : SeatEnd → SeatEnd
settled_end Finished = Finished
settled_end (Stalled cause) = Finished
settled_end (Stopped stop) = Stopped stop

-- a seat's progress, without a retry: that after moves
abbrev pub settled : SeatProgress → SeatProgress
settled s = record { receipts = s.receipts; end = settled_end s.end }

-- a seat that has to retry has a next transaction
abbrev pub HasNext : List CheckedView → SeatProgress → Type 0
HasNext plans s = (cause : Cause) → s.end ≡ Stalled cause
    → (plan : CheckedView) × (slice_get plans (length s.receipts) ≡ Some plan)

module _ (seat : ℕ) (plans : List CheckedView) (m : Map) where
  -- a turn in a round, and one after the moves of that round: a move leaves the same, and what is none leaves all
  pub record IsMirrored (s z : SeatProgress) (t u : Turn) : Type 0 where
    pub moves : is_move z u ≡ true → (u.chans ≡ t.chans) × (u.seat_progress ≡ settled t.seat_progress)
    pub stays : is_move z u ≡ false → (t.chans ≡ m) × (settled t.seat_progress ≡ z)
    pub rests : HasNext plans s → t.kept ≡ false → (t.chans ≡ m)
        × (is_move (settled t.seat_progress) (turn seat plans m (settled t.seat_progress)) ≡ false)
        × ((turn seat plans m (settled t.seat_progress)).seat_progress.end ≡ t.seat_progress.end)
    pub next : HasNext plans s → HasNext plans t.seat_progress

  -- a seat that has finished or has to retry, and tries a transaction
  by_try : (rs : List Receipt) (s : SeatProgress) (tag : Tag) (declared : List ℕ) (o : Tried) (plan : CheckedView)
      → slice_get plans (length rs) ≡ Some plan
      → turn seat plans m (record { receipts = rs; end = Finished })
      ≡ after_try m (record { receipts = rs; end = Finished }) tag declared o
      → IsMirrored s (record { receipts = rs; end = Finished })
      (after_try m (record { receipts = rs; end = Finished }) tag declared o)
      (after_try m (record { receipts = rs; end = Finished }) tag declared o)
  by_try rs s tag declared (Kept state) plan is again = record {
    moves = λ _. (refl, refl);
    stays = λ no. absurd (cc);
    rests = λ _ no. absurd (cc);
    next = λ _ cause no. absurd (cc);
  }
  by_try rs s tag declared (Again cause) plan is again = record {
    moves = λ yes. absurd (cc);
    stays = λ _. (refl, refl);
    rests = λ _ _. (
      refl,
      ap (is_move (record { receipts = rs; end = Finished })) again,
      ap (λ (u : Turn). u.seat_progress.end) again,
    );
    next = λ _ _ _. (plan, is);
  }
  by_try rs s tag declared (Aborted stop) plan is again = record {
    moves = λ _. (refl, refl);
    stays = λ no. absurd (cc);
    rests = λ _ _. (refl, refl, refl);
    next = λ _ cause no. absurd (cc);
  }

  -- a try looks at no end
  same_try : (rs : List Receipt) (end : SeatEnd) (tag : Tag) (declared : List ℕ) (o : Tried)
      → after_try m (record { receipts = rs; end = end }) tag declared o
      ≡ after_try m (record { receipts = rs; end = Finished }) tag declared o
  same_try rs end tag declared (Kept state) = refl
  same_try rs end tag declared (Again cause) = refl
  same_try rs end tag declared (Aborted stop) = refl

  tries : (rs : List Receipt) (end : SeatEnd) (plan : CheckedView) → slice_get plans (length rs) ≡ Some plan
      → next_plan plans (length rs) end ≡ slice_get plans (length rs)
      → IsMirrored (record { receipts = rs; end = end }) (record { receipts = rs; end = Finished })
      (turn seat plans m (record { receipts = rs; end = end }))
      (turn seat plans m (record { receipts = rs; end = Finished }))
  tries rs end plan is follows =
      let tag = kept_tag m (tag_after seat rs) plan.declared in
      let o = transaction m (tag_after seat rs) plan.declared plan.steps in
      let z : SeatProgress = record { receipts = rs; end = Finished } in
      let s : SeatProgress = record { receipts = rs; end = end } in
      let tz : turn seat plans m z ≡ after_try m z tag plan.declared o =
      ap (λ (n : Option CheckedView). try_next seat n m z) is in
      let ts : turn seat plans m s ≡ after_try m z tag plan.declared o =
      ap (λ (n : Option CheckedView). try_next seat n m s) (follows ∙ is) ∙ same_try rs end tag plan.declared o in
      subst (λ (u : Turn). IsMirrored s z u (turn seat plans m z)) (sym ts)
      (subst (λ (u : Turn). IsMirrored s z (after_try m z tag plan.declared o) u) (sym tz)
      (by_try rs s tag plan.declared o plan is tz))

  -- no transaction is left
  none_left : (rs : List Receipt) (end : SeatEnd) → slice_get plans (length rs) ≡ None
      → next_plan plans (length rs) end ≡ slice_get plans (length rs) → settled_end end ≡ Finished
      → (HasNext plans (record { receipts = rs; end = end }) → end ≡ Finished)
      → IsMirrored (record { receipts = rs; end = end }) (record { receipts = rs; end = Finished })
      (turn seat plans m (record { receipts = rs; end = end }))
      (turn seat plans m (record { receipts = rs; end = Finished }))
  none_left rs end is follows free finished =
      let z : SeatProgress = record { receipts = rs; end = Finished } in
      let s : SeatProgress = record { receipts = rs; end = end } in
      let tz : turn seat plans m z ≡ idle m z = ap (λ (n : Option CheckedView). try_next seat n m z) is in
      let ts : turn seat plans m s ≡ idle m s = ap (λ (n : Option CheckedView). try_next seat n m s) (follows ∙ is) in
      let same : settled s ≡ z = ap (λ (e : SeatEnd). record { receipts = rs; end = e }) free in
      subst (λ (u : Turn). IsMirrored s z u (turn seat plans m z)) (sym ts)
      (subst (λ (u : Turn). IsMirrored s z (idle m s) u) (sym tz) (record {
        moves = λ yes. absurd (cc);
        stays = λ _. (refl, same);
        rests = λ h _. (
          refl,
          ap (λ (x : SeatProgress). is_move x (turn seat plans m x)) same ∙ ap (is_move z) tz,
          ap (λ (x : SeatProgress). (turn seat plans m x).seat_progress.end) same
              ∙ (ap (λ (u : Turn). u.seat_progress.end) tz ∙ sym (finished h)),
        );
        next = λ h. h;
      }))

  mirrored_open : (rs : List Receipt) (end : SeatEnd) (next : Option CheckedView) → slice_get plans (length rs) ≡ next
      → next_plan plans (length rs) end ≡ slice_get plans (length rs) → settled_end end ≡ Finished
      → (slice_get plans (length rs) ≡ None → HasNext plans (record { receipts = rs; end = end }) → end ≡ Finished)
      → IsMirrored (record { receipts = rs; end = end }) (record { receipts = rs; end = Finished })
      (turn seat plans m (record { receipts = rs; end = end }))
      (turn seat plans m (record { receipts = rs; end = Finished }))
  mirrored_open rs end None is follows free finished = none_left rs end is follows free (finished is)
  mirrored_open rs end (Some plan) is follows free finished = tries rs end plan is follows

  pub mirrored : (rs : List Receipt) (end : SeatEnd)
      → IsMirrored (record { receipts = rs; end = end }) (record { receipts = rs; end = settled_end end })
      (turn seat plans m (record { receipts = rs; end = end }))
      (turn seat plans m (record { receipts = rs; end = settled_end end }))
  mirrored rs Finished = mirrored_open rs Finished (slice_get plans (length rs)) refl refl refl (λ _ _. refl)
  mirrored rs (Stalled cause) = mirrored_open rs (Stalled cause) (slice_get plans (length rs)) refl refl refl
      (λ none h. let some = (h cause refl).1 in absurd (cc))
  mirrored rs (Stopped stop) = record {
    moves = λ yes. absurd (cc);
    stays = λ _. (refl, refl);
    rests = λ _ _. (refl, refl, refl);
    next = λ h. h;
  }

-- an item after others
at_seam : {X : Type 0} (before after : List X) (x d : X) → slice_index_or (before ++ x ∷ after) (length before) d ≡ x
at_seam [] after x d = refl
at_seam (y ∷ before) after x d = at_seam before after x d

set_seam : {X : Type 0} (before after : List X) (x y : X)
    → slice_set (before ++ x ∷ after) (length before) y ≡ before ++ y ∷ after
set_seam [] after x y = refl
set_seam (z ∷ before) after x y = ap (λ (l : List _). z ∷ l) (set_seam before after x y)

-- the seats of a script
module _ (seats : List (List CheckedView)) where
  -- a move of the seat after these
  moved : (bp rp : List (List CheckedView)) (plans : List CheckedView) (before rest : List SeatProgress)
      (s : SeatProgress) (m : Map) → seats ≡ bp ++ plans ∷ rp → length before ≡ length bp
      → after_move seats (length before) (round_to m (before ++ s ∷ rest) true)
      ≡ round_to (turn (length before) plans m s).chans
      (before ++ (turn (length before) plans m s).seat_progress ∷ rest) (is_move s (turn (length before) plans m s))
  moved bp rp plans before rest s m is count =
      let seat = length before in
      let r : Round = round_to m (before ++ s ∷ rest) true in
      let mine : slice_index_or seats seat [] ≡ plans =
      ap (λ (l : List (List CheckedView)). slice_index_or l seat []) is
      ∙ (ap (λ (k : ℕ). slice_index_or (bp ++ plans ∷ rp) k []) count ∙ at_seam bp rp plans []) in
      let at : seat_in seat r ≡ s = at_seam before rest s untried in
      let is_turn : turn_in seats seat r ≡ turn seat plans m s = (λ i. turn seat (mine i) m (at i)) in
      (λ i. round_to (is_turn i).chans (slice_set (before ++ s ∷ rest) seat (is_turn i).seat_progress)
      (is_move (at i) (is_turn i)))
      ∙ ap (λ (l : List SeatProgress). round_to (turn seat plans m s).chans l (is_move s (turn seat plans m s)))
      (set_seam before rest s (turn seat plans m s).seat_progress)

  -- what an order of moves comes to, as the rest of a round does
  abbrev Comes : List SeatProgress → List (List CheckedView) → List SeatProgress → Map → Type 0
  Comes before rp rest m = (order : List ℕ) × (after_moves seats order (round_to m (before ++ map settled rest) true)
      ≡ round_to (round_from (length before) rp rest m).chans
      (before ++ map settled (round_from (length before) rp rest m).progress) true)

  one_turn : (bp rp : List (List CheckedView)) (plans : List CheckedView) (before rest : List SeatProgress)
      (s : SeatProgress) (m : Map) → seats ≡ bp ++ plans ∷ rp → length before ≡ length bp
      → Comes (before ++ settled (turn (length before) plans m s).seat_progress ∷ []) rp rest
      (turn (length before) plans m s).chans
      → (b : Bool) → is_move (settled s) (turn (length before) plans m (settled s)) ≡ b
      → Comes before (plans ∷ rp) (s ∷ rest) m
  one_turn bp rp plans before rest s m is count later b test = of b test
    where
      seat : ℕ
      seat = length before

      t : Turn
      t = turn seat plans m s

      x : IsMirrored seat plans m s (settled s) t (turn seat plans m (settled s))
      x = mirrored seat plans m s.receipts s.end

      longer : (l : List SeatProgress)
          → (before ++ settled t.seat_progress ∷ []) ++ l ≡ before ++ settled t.seat_progress ∷ l
      longer l = append_assoc before (settled t.seat_progress ∷ []) l

      after : Round
      after = round_from (suc seat) rp rest t.chans

      count_more : length (before ++ settled t.seat_progress ∷ []) ≡ suc seat
      count_more = omega (arith, length-append before (settled t.seat_progress ∷ []))

      goes_on : after_moves seats later.0 (round_to t.chans (before ++ settled t.seat_progress ∷ map settled rest) true)
          ≡ round_to after.chans (before ++ settled t.seat_progress ∷ map settled after.progress) true
      goes_on =
          ap (λ (l : List SeatProgress). after_moves seats later.0 (round_to t.chans l true))
          (sym (longer (map settled rest)))
          ∙ (later.1
          ∙ (ap (λ (k : ℕ). round_to (round_from k rp rest t.chans).chans ((before ++ settled t.seat_progress ∷ [])
          ++ map settled (round_from k rp rest t.chans).progress) true) count_more
          ∙ ap (λ (l : List SeatProgress). round_to after.chans l true) (longer (map settled after.progress))))

      of : (b : Bool) → is_move (settled s) (turn seat plans m (settled s)) ≡ b → Comes before (plans ∷ rp) (s ∷ rest) m
      of true moves =
          let u = turn seat plans m (settled s) in
          let left : after_move seats seat (round_to m (before ++ settled s ∷ map settled rest) true)
          ≡ round_to t.chans (before ++ settled t.seat_progress ∷ map settled rest) true =
          moved bp rp plans before (map settled rest) (settled s) m is count
          ∙ ((λ i. round_to ((x.moves moves).0 i) (before ++ (x.moves moves).1 i ∷ map settled rest) (moves i))) in
          (seat ∷ later.0, ap (after_moves seats later.0) left ∙ goes_on)
      of false none =
          let same : round_to m (before ++ settled s ∷ map settled rest) true
          ≡ round_to t.chans (before ++ settled t.seat_progress ∷ map settled rest) true =
          (λ i. round_to (sym (x.stays none).0 i) (before ++ sym (x.stays none).1 i ∷ map settled rest) true) in
          (later.0, ap (after_moves seats later.0) same ∙ goes_on)

  round_order : (bp rp : List (List CheckedView)) (before rest : List SeatProgress) (m : Map)
      → seats ≡ bp ++ rp → length before ≡ length bp → Comes before rp rest m
  round_order bp [] before rest m is count = ([], refl)
  round_order bp (plans ∷ rp) before [] m is count = ([], refl)
  round_order bp (plans ∷ rp) before (s ∷ rest) m is count =
      one_turn bp rp plans before rest s m is count
      (round_order (bp ++ plans ∷ []) rp (before ++ settled (turn (length before) plans m s).seat_progress ∷ []) rest
      (turn (length before) plans m s).chans (is ∙ sym (append_assoc bp (plans ∷ []) rp))
      (omega (
        arith,
        count,
        length-append bp (plans ∷ []),
        length-append before (settled (turn (length before) plans m s).seat_progress ∷ []),
      )))
      (is_move (settled s) (turn (length before) plans m (settled s))) refl

-- each seat that has to retry has a next transaction
abbrev pub AllNext : List (List CheckedView) → List SeatProgress → Type 0
AllNext [] progress = ⊤
AllNext (plans ∷ seats) [] = ⊤
AllNext (plans ∷ seats) (s ∷ progress) = HasNext plans s × AllNext seats progress

all_next : (seat : ℕ) (seats : List (List CheckedView)) (progress : List SeatProgress) (m : Map)
    → AllNext seats progress → AllNext seats (round_from seat seats progress m).progress
all_next seat [] progress m h = tt
all_next seat (plans ∷ seats) [] m h = tt
all_next seat (plans ∷ seats) (s ∷ progress) m h = (
  (mirrored seat plans m s.receipts s.end).next h.0,
  all_next (suc seat) seats progress (turn seat plans m s).chans h.1,
)

-- no seat can move, from this number on, and each one's turn ends as its progress says
abbrev pub AtRest : ℕ → List (List CheckedView) → List SeatProgress → Map → Type 0
AtRest seat [] progress m = ⊤
AtRest seat (plans ∷ seats) [] m = ⊤
AtRest seat (plans ∷ seats) (s ∷ progress) m =
    ((is_move (settled s) (turn seat plans m (settled s)) ≡ false)
    × ((turn seat plans m (settled s)).seat_progress.end ≡ s.end)) × AtRest (suc seat) seats progress m

or_left : (a b : Bool) → a || b ≡ false → a ≡ false
or_left true b h = absurd (cc)
or_left false b h = refl

or_right : (a b : Bool) → a || b ≡ false → b ≡ false
or_right true b h = absurd (cc)
or_right false b h = h

-- after a round that kept none
round_rests : (seat : ℕ) (seats : List (List CheckedView)) (progress : List SeatProgress) (m : Map)
    → AllNext seats progress → (round_from seat seats progress m).kept ≡ false
    → ((round_from seat seats progress m).chans ≡ m) × AtRest seat seats (round_from seat seats progress m).progress m
round_rests seat [] progress m h none = (refl, tt)
round_rests seat (plans ∷ seats) [] m h none = (refl, tt)
round_rests seat (plans ∷ seats) (s ∷ progress) m h none =
    let t = turn seat plans m s in
    let here = (mirrored seat plans m s.receipts s.end).rests h.0
    (or_left t.kept (round_from (suc seat) seats progress t.chans).kept none) in
    let later = round_rests (suc seat) seats progress t.chans h.1
    (or_right t.kept (round_from (suc seat) seats progress t.chans).kept none) in (
      later.0 ∙ here.0,
      (
        (here.1, here.2),
        subst (λ (n : Map). AtRest (suc seat) seats (round_from (suc seat) seats progress t.chans).progress n) here.0
            later.1,
      ),
    )

length_round : (seat : ℕ) (seats : List (List CheckedView)) (progress : List SeatProgress) (m : Map)
    → length (round_from seat seats progress m).progress ≡ length progress
length_round seat [] progress m = refl
length_round seat (plans ∷ seats) [] m = refl
length_round seat (plans ∷ seats) (s ∷ progress) m =
    ap suc (length_round (suc seat) seats progress (turn seat plans m s).chans)

rest_at : (first : ℕ) (seats : List (List CheckedView)) (progress : List SeatProgress) (m : Map)
    → AtRest first seats progress m → length progress ≡ length seats → (k : ℕ) → k < length seats
    → (is_move (settled (slice_index_or progress k untried)) (turn (first + k) (slice_index_or seats k []) m
    (settled (slice_index_or progress k untried))) ≡ false)
    × ((turn (first + k) (slice_index_or seats k []) m
    (settled (slice_index_or progress k untried))).seat_progress.end ≡ (slice_index_or progress k untried).end)
rest_at first [] progress m h many k lt = absurd (omega (arith, lt))
rest_at first (plans ∷ seats) [] m h many k lt = absurd (omega (arith, many))
rest_at first (plans ∷ seats) (s ∷ progress) m h many zero lt =
    subst (λ (n : ℕ). (is_move (settled s) (turn n plans m (settled s)) ≡ false)
    × ((turn n plans m (settled s)).seat_progress.end ≡ s.end)) (omega (arith)) h.0
rest_at first (plans ∷ seats) (s ∷ progress) m h many (suc k) lt =
    subst (λ (n : ℕ). (is_move (settled (slice_index_or progress k untried)) (turn n (slice_index_or seats k []) m
    (settled (slice_index_or progress k untried))) ≡ false)
    × ((turn n (slice_index_or seats k []) m
    (settled (slice_index_or progress k untried))).seat_progress.end ≡ (slice_index_or progress k untried).end))
    (omega (arith))
    (rest_at (suc first) seats progress m h.1 (omega (arith, many)) k (omega (arith, lt)))

-- a list of seats without their retries
got_settled : (progress : List SeatProgress) (k : ℕ)
    → slice_index_or (map settled progress) k untried ≡ settled (slice_index_or progress k untried)
got_settled [] k = refl
got_settled (s ∷ progress) zero = refl
got_settled (s ∷ progress) (suc k) = got_settled progress k

got_end : (progress : List SeatProgress) (k : ℕ)
    → slice_index_or (map (λ (s : SeatProgress). s.end) progress) k Finished ≡ (slice_index_or progress k untried).end
got_end [] k = refl
got_end (s ∷ progress) zero = refl
got_end (s ∷ progress) (suc k) = got_end progress k

same_receipts : (progress : List SeatProgress)
    → map (λ (s : SeatProgress). s.receipts) (map settled progress) ≡ map (λ (s : SeatProgress). s.receipts) progress
same_receipts [] = refl
same_receipts (s ∷ progress) = ap (λ (l : List (List Receipt)). s.receipts ∷ l) (same_receipts progress)

module _ (script : Script) where
  -- an order of moves comes to a round, and no seat can move after a round that kept none
  record Follows (r : Round) : Type 0 where
    order : List ℕ
    comes : reached script order ≡ round_to r.chans (map settled r.progress) true
    next : AllNext script.seats r.progress
    many : length r.progress ≡ length script.seats
    rests : r.kept ≡ false → AtRest 0 script.seats r.progress r.chans

  first : Follows (beginning script)
  first = record {
    order = [];
    comes = ap (λ (l : List SeatProgress). round_to (beginning script).chans l true) (sym (same script.seats));
    next = none script.seats;
    many = as_many script.seats;
    rests = λ no. absurd (cc);
  }
    where
      same : (seats : List (List CheckedView)) → map settled (map (λ plans. untried) seats) ≡ map (λ plans. untried) seats
      same [] = refl
      same (plans ∷ seats) = ap (λ (l : List SeatProgress). untried ∷ l) (same seats)

      none : (seats : List (List CheckedView)) → AllNext seats (map (λ plans. untried) seats)
      none [] = tt
      none (plans ∷ seats) = (λ cause no. absurd (cc), none seats)

      as_many : (seats : List (List CheckedView)) → length (map (λ plans. untried) seats) ≡ length seats
      as_many [] = refl
      as_many (plans ∷ seats) = ap suc (as_many seats)

  step : (r : Round) → Follows r → Follows (round_from 0 script.seats r.progress r.chans)
  step r f =
      let more = round_order script.seats [] script.seats [] r.progress r.chans refl refl in
      let after = round_from 0 script.seats r.progress r.chans in
      record {
        order = f.order ++ more.0;
        comes = moves_append script.seats f.order more.0 (reached script [])
            ∙ (ap (after_moves script.seats more.0) f.comes ∙ more.1);
        next = all_next 0 script.seats r.progress r.chans f.next;
        many = length_round 0 script.seats r.progress r.chans ∙ f.many;
        rests = λ none. let x = round_rests 0 script.seats r.progress r.chans f.next none in
            subst (λ (n : Map). AtRest 0 script.seats after.progress n) (sym x.0) x.1;
      }

  within : (n : ℕ) (r : Round) → Follows r → Follows (rounds_within n script.seats r)
  within zero r f = f
  within (suc n) r f =
      choose r.kept (rounds_within n script.seats (round_from 0 script.seats r.progress r.chans)) r
      (within n (round_from 0 script.seats r.progress r.chans) (step r f)) f
    where
      choose : (b : Bool) (x y : Round) → Follows x → Follows y → Follows (if b then x else y)
      choose true x y f g = f
      choose false x y f g = g

  pub replayed : (order : List ℕ) × IsReplayed script order
  replayed =
      let r = last_round script in
      let f = within (suc (transaction_count script.seats)) (beginning script) first in
      let rest = λ (k : ℕ) (lt : k < length script.seats).
      let alone : 0 + k ≡ k = omega (arith) in
      subst (λ (n : ℕ). (is_move (settled (slice_index_or r.progress k untried)) (turn n (slice_index_or script.seats k [])
      r.chans (settled (slice_index_or r.progress k untried))) ≡ false)
      × ((turn n (slice_index_or script.seats k []) r.chans
      (settled (slice_index_or r.progress k untried))).seat_progress.end ≡ (slice_index_or r.progress k untried).end))
      alone (rest_at 0 script.seats r.progress r.chans (f.rests (last_keeps_none script)) f.many k lt) in
      let seen : Round = round_to r.chans (map settled r.progress) true in (
        f.order,
        record {
          is_end = record {
            moved = ap (λ (x : Round). x.kept) f.comes;
            last = λ seat lt. ap (λ (x : Round). can_move script.seats seat x) f.comes
                ∙ (ap (λ (s : SeatProgress). is_move s (turn seat (slice_index_or script.seats seat []) r.chans s))
                (got_settled r.progress seat) ∙ (rest seat lt).0);
          };
          chans = ap (λ (x : Round). x.chans) f.comes;
          receipts = ap (λ (x : Round). map (λ (s : SeatProgress). s.receipts) x.progress) f.comes
              ∙ same_receipts r.progress;
          ends = λ seat lt. ap (λ (x : Round). (turn_in script.seats seat x).seat_progress.end) f.comes
              ∙ (ap (λ (s : SeatProgress). (turn seat (slice_index_or script.seats seat []) r.chans s).seat_progress.end)
              (got_settled r.progress seat) ∙ ((rest seat lt).1 ∙ sym (got_end r.progress seat)));
        },
      )
