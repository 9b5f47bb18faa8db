-- Rounds at one state move alike.
use Rattle.std.proofs.Common.{◌≡◌, refl, sym, ◌∙◌, ap, subst, ℕ, zero, suc, ◌+◌, ◌<◌, ◌≤◌}
use Rattle.std.proofs.Common.{not, ◌&&◌, ◌||◌, Option, Some, None, List, [], ◌∷◌, ◌++◌, map, length}
use Rattle.std.proofs.Common.{slice_get, slice_index_or, set, All, length-append, length-set}
use Rattle.std.proofs.Common.{arith}
use Rattle.std.proofs.lemmas.List.{length-map}
use Rattle.std.proofs.lemmas.Option.{slice_get_within, get_or_from_slice_get}
use Rattle.txc_base.specs.declared.limits.TheConstants.{GREATEST_NUMBER}
use Rattle.txc_base.specs.declared.tag.Tag.{Tag}
use Rattle.txc_chan.specs.declared.decl.Decl.{Decl}
use Rattle.txc_chan.specs.Decls.{kinds_in}
use Rattle.txc_chan.specs.Logged.{opened}
use Rattle.txc_txn_check.specs.Steps.{Fits}
use Rattle.txc_txn.specs.declared.receipt.Receipt.{Receipt}
use Rattle.txc_txn.specs.Limits.{CheckedView}
use Rattle.txc_txn.specs.Maps.{Map}
use Rattle.txc_txn.specs.Plain.{missing}
use Rattle.txc_txn.specs.Run.{receipt_of}
use Rattle.txc_txn.specs.Transaction.{Ending, Kept, Again, Aborted, kept_tag, transaction}
use Rattle.txc_cmd_report.specs.declared.seat_end.SeatEnd.{SeatEnd}
use Rattle.txc_cmd_report.specs.declared.seat_end.SeatEnd.TheVariants.{Finished, Stalled, Stopped}
use Rattle.txc_cmd_report.specs.Text.{is_stopped}
use Rattle.txc_cmd_replay.specs.Rounds.{Round, SeatProgress, Turn, after_try, beginning, last_stamp, next_plan}
use Rattle.txc_cmd_replay.specs.Rounds.{tag_after, try, try_next, turn, untried}
use Rattle.txc_cmd_script.specs.Script.{IsSound, Script}
use Rattle.txc_cmd_explore.specs.declared.state.Shape.{Shape}
use Rattle.txc_cmd_explore.specs.declared.state.State.{State}
use Rattle.txc_cmd_explore.specs.Ends.{state_of, shape_of, shapes_from}
use Rattle.txc_cmd_explore.specs.Moves.{after_move, after_moves, can_move, reached, seat_in, turn_in}
use Rattle.txc_cmd_explore.proofs.Tries.{AlikeEnds, AlikeMaps, greatest_low, settle_alike, transaction_alike}

-- two seats that stand alike
pub record AlikeSeats (most : ℕ) (s t : SeatProgress) : Type 0 where
  pub many : length s.receipts ≡ length t.receipts
  pub end : s.end ≡ t.end
  pub few : length s.receipts ≤ most
  pub low_s : last_stamp s.receipts ≤ most
  pub low_t : last_stamp t.receipts ≤ most

pub record AlikeTurns (decls : List Decl) (most : ℕ) (t u : Turn) : Type 0 where
  pub maps : AlikeMaps decls most t.chans u.chans
  pub seats : AlikeSeats most t.seat_progress u.seat_progress
  pub kept : t.kept ≡ u.kept

-- with a greater bound
pub maps_more : (decls : List Decl) (most top : ℕ) (m n : Map) → most ≤ top → AlikeMaps decls most m n
    → AlikeMaps decls top m n
maps_more decls most top m n le x = record {
  same = x.same;
  low_m = λ c. omega (arith, le, x.low_m c);
  low_n = λ c. omega (arith, le, x.low_n c);
}

pub seats_more : (most top : ℕ) (s t : SeatProgress) → most ≤ top → AlikeSeats most s t → AlikeSeats top s t
seats_more most top s t le x = record {
  many = x.many;
  end = x.end;
  few = omega (arith, le, x.few);
  low_s = omega (arith, le, x.low_s);
  low_t = omega (arith, le, x.low_t);
}

last_push : (receipts : List Receipt) (receipt : Receipt) → last_stamp (receipts ++ receipt ∷ []) ≡ receipt.tag.stamp
last_push [] receipt = refl
last_push (one ∷ []) receipt = refl
last_push (one ∷ other ∷ receipts) receipt = last_push (other ∷ receipts) receipt

module _ (decls : List Decl) (most : ℕ) where
  tried_alike : (m n : Map) (s t : SeatProgress) (tag tag' : Tag) (declared : List ℕ) (o p : Ending)
      → AlikeMaps decls most m n → AlikeSeats most s t → tag.stamp ≤ suc most → tag'.stamp ≤ suc most
      → AlikeEnds decls most o p
      → AlikeTurns decls (suc most) (after_try m s tag declared o) (after_try n t tag' declared p)
  tried_alike m n s t tag tag' declared (Kept a) (Kept b) x y low low' h = record {
    maps = settle_alike decls most a.chans b.chans tag.stamp tag'.stamp declared h.maps low low';
    seats = record {
      many = let one = length-append s.receipts (receipt_of tag a ∷ []) in
          let two = length-append t.receipts (receipt_of tag' b ∷ []) in omega (arith, one, two, y.many);
      end = refl;
      few = let one = length-append s.receipts (receipt_of tag a ∷ []) in omega (arith, one, y.few);
      low_s = let at = last_push s.receipts (receipt_of tag a) in omega (arith, at, low);
      low_t = let at = last_push t.receipts (receipt_of tag' b) in omega (arith, at, low');
    };
    kept = refl;
  }
  tried_alike m n s t tag tag' declared (Again cause) (Again why) x y low low' h = record {
    maps = maps_more decls most (suc most) m n (omega arith) x;
    seats = record {
      many = y.many;
      end = ap Stalled h;
      few = omega (arith, y.few);
      low_s = omega (arith, y.low_s);
      low_t = omega (arith, y.low_t);
    };
    kept = refl;
  }
  tried_alike m n s t tag tag' declared (Aborted stop) (Aborted other) x y low low' h = record {
    maps = maps_more decls most (suc most) m n (omega arith) x;
    seats = record {
      many = y.many;
      end = ap Stopped h;
      few = omega (arith, y.few);
      low_s = omega (arith, y.low_s);
      low_t = omega (arith, y.low_t);
    };
    kept = refl;
  }
  tried_alike m n s t tag tag' declared (Kept a) (Again why) x y low low' h = absurd h
  tried_alike m n s t tag tag' declared (Kept a) (Aborted other) x y low low' h = absurd h
  tried_alike m n s t tag tag' declared (Again cause) (Kept b) x y low low' h = absurd h
  tried_alike m n s t tag tag' declared (Again cause) (Aborted other) x y low low' h = absurd h
  tried_alike m n s t tag tag' declared (Aborted stop) (Kept b) x y low low' h = absurd h
  tried_alike m n s t tag tag' declared (Aborted stop) (Again why) x y low low' h = absurd h

  try_alike : (seat : ℕ) (plan : CheckedView) (m n : Map) (s t : SeatProgress)
      → Fits (slice_get (kinds_in decls)) plan.steps → most < GREATEST_NUMBER
      → AlikeMaps decls most m n → AlikeSeats most s t
      → AlikeTurns decls (suc most) (try seat plan m s) (try seat plan n t)
  try_alike seat plan m n s t fits lt x y =
      let below_m = greatest_low decls most m (last_stamp s.receipts) plan.declared y.low_s x.low_m in
      let below_n = greatest_low decls most n (last_stamp t.receipts) plan.declared y.low_t x.low_n in
      tried_alike m n s t (kept_tag m (tag_after seat s.receipts) plan.declared)
      (kept_tag n (tag_after seat t.receipts) plan.declared) plan.declared
      (transaction m (tag_after seat s.receipts) plan.declared plan.steps)
      (transaction n (tag_after seat t.receipts) plan.declared plan.steps) x y
      (omega (arith, below_m)) (omega (arith, below_n))
      (transaction_alike decls most m n (tag_after seat s.receipts) (tag_after seat t.receipts) plan.declared plan.steps
      fits x lt refl y.few (omega (arith, y.few, y.many)) y.low_s y.low_t)

  next_alike : (seat : ℕ) (next : Option CheckedView) (m n : Map) (s t : SeatProgress)
      → ((plan : CheckedView) → next ≡ Some plan → Fits (slice_get (kinds_in decls)) plan.steps)
      → most < GREATEST_NUMBER → AlikeMaps decls most m n → AlikeSeats most s t
      → AlikeTurns decls (suc most) (try_next seat next m s) (try_next seat next n t)
  next_alike seat None m n s t fits lt x y = record {
    maps = maps_more decls most (suc most) m n (omega arith) x;
    seats = seats_more most (suc most) s t (omega arith) y;
    kept = refl;
  }
  next_alike seat (Some plan) m n s t fits lt x y = try_alike seat plan m n s t (fits plan refl) lt x y

  -- the next transaction of a seat fits, where all of its do
  got_fits : (plans : List CheckedView) → All (λ (plan : CheckedView). Fits (slice_get (kinds_in decls)) plan.steps) plans
      → (k : ℕ) (plan : CheckedView) → slice_get plans k ≡ Some plan → Fits (slice_get (kinds_in decls)) plan.steps
  got_fits plans fits k plan is =
      subst (λ (p : CheckedView). Fits (slice_get (kinds_in decls)) p.steps) (get_or_from_slice_get plans k plan plan is)
      (fits k plan (slice_get_within plans k plan is))

  next_fits : (plans : List CheckedView) → All (λ (plan : CheckedView). Fits (slice_get (kinds_in decls)) plan.steps) plans
      → (k : ℕ) (end : SeatEnd) (plan : CheckedView) → next_plan plans k end ≡ Some plan
      → Fits (slice_get (kinds_in decls)) plan.steps
  next_fits plans fits k (Stopped stop) plan is = absurd (cc)
  next_fits plans fits k Finished plan is = got_fits plans fits k plan is
  next_fits plans fits k (Stalled cause) plan is = got_fits plans fits k plan is

  pub turn_alike : (seat : ℕ) (plans : List CheckedView) (m n : Map) (s t : SeatProgress)
      → All (λ (plan : CheckedView). Fits (slice_get (kinds_in decls)) plan.steps) plans
      → most < GREATEST_NUMBER → AlikeMaps decls most m n → AlikeSeats most s t
      → AlikeTurns decls (suc most) (turn seat plans m s) (turn seat plans n t)
  turn_alike seat plans m n s t fits lt x y =
      subst (λ next. AlikeTurns decls (suc most) (turn seat plans m s) (try_next seat next n t))
      (λ i. next_plan plans (y.many i) (y.end i))
      (next_alike seat (next_plan plans (length s.receipts) s.end) m n s t
      (next_fits plans fits (length s.receipts) s.end) lt x y)

-- two rounds that stand alike
pub record AlikeRounds (decls : List Decl) (most : ℕ) (r q : Round) : Type 0 where
  pub maps : AlikeMaps decls most r.chans q.chans
  pub many : length r.progress ≡ length q.progress
  pub seats : (seat : ℕ) → AlikeSeats most (seat_in seat r) (seat_in seat q)

pub rounds_more : (decls : List Decl) (most top : ℕ) (r q : Round) → most ≤ top → AlikeRounds decls most r q
    → AlikeRounds decls top r q
rounds_more decls most top r q le x = record {
  maps = maps_more decls most top r.chans q.chans le x.maps;
  many = x.many;
  seats = λ n. seats_more most top (seat_in n r) (seat_in n q) le (x.seats n);
}

-- every transaction of each seat fits
abbrev pub AllFit : List Decl → List (List CheckedView) → Type 0
AllFit decls seats = All (λ (plans : List CheckedView).
    All (λ (plan : CheckedView). Fits (slice_get (kinds_in decls)) plan.steps) plans) seats

plans_fit : (decls : List Decl) (seats : List (List CheckedView)) → AllFit decls seats → (seat : ℕ)
    → All (λ (plan : CheckedView). Fits (slice_get (kinds_in decls)) plan.steps) (slice_index_or seats seat [])
plans_fit decls [] fits seat = λ k d lt. absurd (omega (arith, lt))
plans_fit decls (plans ∷ seats) fits zero = fits 0 [] (omega arith)
plans_fit decls (plans ∷ seats) fits (suc seat) =
    plans_fit decls seats (λ k d lt. fits (suc k) d (omega (arith, lt))) seat

module _ (decls : List Decl) (seats : List (List CheckedView)) (fits : AllFit decls seats) (most : ℕ)
    (lt : most < GREATEST_NUMBER) where
  turns_alike : (seat : ℕ) (r q : Round) → AlikeRounds decls most r q
      → AlikeTurns decls (suc most) (turn_in seats seat r) (turn_in seats seat q)
  turns_alike seat r q x =
      turn_alike decls most seat (slice_index_or seats seat []) r.chans q.chans (seat_in seat r) (seat_in seat q)
      (plans_fit decls seats fits seat) lt x.maps (x.seats seat)

  pub moves_alike : (seat : ℕ) (r q : Round) → AlikeRounds decls most r q → can_move seats seat r ≡ can_move seats seat q
  moves_alike seat r q x =
      let t = turns_alike seat r q x in
      λ i. t.kept i || (is_stopped (t.seats.end i) && not (is_stopped ((x.seats seat).end i)))

  pub ends_alike : (seat : ℕ) (r q : Round) → AlikeRounds decls most r q
      → (turn_in seats seat r).seat_progress.end ≡ (turn_in seats seat q).seat_progress.end
  ends_alike seat r q x = (turns_alike seat r q x).seats.end

  set_alike : (seat n : ℕ) (xs ys : List SeatProgress) (s t : SeatProgress) → length xs ≡ length ys
      → AlikeSeats most (slice_index_or xs n untried) (slice_index_or ys n untried)
      → AlikeSeats (suc most) s t
      → AlikeSeats (suc most) (slice_index_or (set xs seat s) n untried) (slice_index_or (set ys seat t) n untried)
  set_alike seat n [] [] s t many x y = seats_more most (suc most) _ _ (omega arith) x
  set_alike seat n [] (b ∷ ys) s t many x y = absurd (omega (arith, many))
  set_alike seat n (a ∷ xs) [] s t many x y = absurd (omega (arith, many))
  set_alike zero zero (a ∷ xs) (b ∷ ys) s t many x y = y
  set_alike zero (suc n) (a ∷ xs) (b ∷ ys) s t many x y = seats_more most (suc most) _ _ (omega arith) x
  set_alike (suc seat) zero (a ∷ xs) (b ∷ ys) s t many x y = seats_more most (suc most) _ _ (omega arith) x
  set_alike (suc seat) (suc n) (a ∷ xs) (b ∷ ys) s t many x y =
      set_alike seat n xs ys s t (omega (arith, many)) x y

  pub move_alike : (seat : ℕ) (r q : Round) → AlikeRounds decls most r q
      → AlikeRounds decls (suc most) (after_move seats seat r) (after_move seats seat q)
  move_alike seat r q x =
      let t = turns_alike seat r q x in
      record {
        maps = t.maps;
        many = length-set r.progress seat (turn_in seats seat r).seat_progress ∙ (x.many
            ∙ sym (length-set q.progress seat (turn_in seats seat q).seat_progress));
        seats = λ n. set_alike seat n r.progress q.progress (turn_in seats seat r).seat_progress
            (turn_in seats seat q).seat_progress x.many (x.seats n) t.seats;
      }

-- rounds that stand alike still do after an order
pub order_alike : (decls : List Decl) (seats : List (List CheckedView)) → AllFit decls seats → (order : List ℕ)
    (most : ℕ) (r q : Round) → most + length order ≤ GREATEST_NUMBER → AlikeRounds decls most r q
    → AlikeRounds decls (most + length order) (after_moves seats order r) (after_moves seats order q)
order_alike decls seats fits [] most r q le x =
    subst (λ k. AlikeRounds decls k r q) (let e : most ≡ most + 0 = omega arith in e) x
order_alike decls seats fits (seat ∷ order) most r q le x =
    let e : suc most + length order ≡ most + suc (length order) = omega arith in
    subst (λ k. AlikeRounds decls k (after_moves seats order (after_move seats seat r))
    (after_moves seats order (after_move seats seat q))) e
    (order_alike decls seats fits order (suc most) (after_move seats seat r) (after_move seats seat q)
    (omega (arith, le)) (move_alike decls seats fits most (omega (arith, le)) seat r q x))

all_untried : (seats : List (List CheckedView)) (n : ℕ) → slice_index_or (map (λ plans. untried) seats) n untried ≡ untried
all_untried [] n = refl
all_untried (plans ∷ seats) zero = refl
all_untried (plans ∷ seats) (suc n) = all_untried seats n

opening_stamp : (decls : List Decl) (c : ℕ) → (slice_index_or (map opened decls) c missing.logged).stamp ≡ 0
opening_stamp [] c = refl
opening_stamp (decl ∷ decls) zero = refl
opening_stamp (decl ∷ decls) (suc c) = opening_stamp decls c

beginning_alike : (script : Script) → AlikeRounds script.decls 0 (beginning script) (beginning script)
beginning_alike script = record {
  maps = record {
    same = λ c lt. record {
      kind_c = refl;
      kind_d = refl;
      bound_c = refl;
      bound_d = refl;
      closed = refl;
      left = refl;
    };
    low_m = λ c. let e = opening_stamp script.decls c in omega (arith, e);
    low_n = λ c. let e = opening_stamp script.decls c in omega (arith, e);
  };
  many = refl;
  seats = λ n. subst (λ (s : SeatProgress). AlikeSeats 0 s s) (sym (all_untried script.seats n)) (record {
    many = refl;
    end = refl;
    few = omega arith;
    low_s = omega arith;
    low_t = omega arith;
  });
}

-- what an order comes to stands like itself
pub reached_alike : (script : Script) → IsSound script → (order : List ℕ) → length order ≤ GREATEST_NUMBER
    → AlikeRounds script.decls (length order) (reached script order) (reached script order)
reached_alike script sound order le =
    subst (λ k. AlikeRounds script.decls k (reached script order) (reached script order))
    (let e : 0 + length order ≡ length order = omega arith in e)
    (order_alike script.decls script.seats sound.fits order 0 (beginning script) (beginning script)
    (omega (arith, le)) (beginning_alike script))

-- what is seen of the channel with a number
shape_at : (i : ℕ) (decls : List Decl) (m n : Map) → shapes_from i decls m ≡ shapes_from i decls n → (c : ℕ)
    → c < length decls → shape_of (m (i + c)).channel ≡ shape_of (n (i + c)).channel
shape_at i [] m n e c lt = absurd (omega (arith, lt))
shape_at i (decl ∷ decls) m n e zero lt =
    let head : shape_of (m i).channel ≡ shape_of (n i).channel = cc in
    let at : i ≡ i + 0 = omega arith in
    subst (λ k. shape_of (m k).channel ≡ shape_of (n k).channel) at head
shape_at i (decl ∷ decls) m n e (suc c) lt =
    let tail : shapes_from (suc i) decls m ≡ shapes_from (suc i) decls n = cc in
    let at : suc i + c ≡ i + suc c = omega arith in
    subst (λ k. shape_of (m k).channel ≡ shape_of (n k).channel) at
    (shape_at (suc i) decls m n tail c (omega (arith, lt)))

shapes_alike : (i : ℕ) (decls : List Decl) (m n : Map)
    → ((c : ℕ) → c < length decls → shape_of (m (i + c)).channel ≡ shape_of (n (i + c)).channel)
    → shapes_from i decls m ≡ shapes_from i decls n
shapes_alike i [] m n h = refl
shapes_alike i (decl ∷ decls) m n h =
    let at : i + 0 ≡ i = omega arith in
    let head : shape_of (m i).channel ≡ shape_of (n i).channel =
    subst (λ k. shape_of (m k).channel ≡ shape_of (n k).channel) at (h 0 (omega arith)) in
    let tail : shapes_from (suc i) decls m ≡ shapes_from (suc i) decls n =
    shapes_alike (suc i) decls m n (λ c lt. let next : i + suc c ≡ suc i + c = omega arith in
    subst (λ k. shape_of (m k).channel ≡ shape_of (n k).channel) next (h (suc c) (omega (arith, lt)))) in
    λ j. head j ∷ tail j

-- a value of each seat, by its number
at_each : {X : Type 0} (f : SeatProgress → X) (xs : List SeatProgress) (n : ℕ)
    → slice_index_or (map f xs) n (f untried) ≡ f (slice_index_or xs n untried)
at_each f [] n = refl
at_each f (x ∷ xs) zero = refl
at_each f (x ∷ xs) (suc n) = at_each f xs n

each_alike : {X : Type 0} (f : SeatProgress → X) (xs ys : List SeatProgress) → length xs ≡ length ys
    → ((n : ℕ) → f (slice_index_or xs n untried) ≡ f (slice_index_or ys n untried)) → map f xs ≡ map f ys
each_alike f [] [] many h = refl
each_alike f [] (y ∷ ys) many h = absurd (omega (arith, many))
each_alike f (x ∷ xs) [] many h = absurd (omega (arith, many))
each_alike f (x ∷ xs) (y ∷ ys) many h =
    λ i. h 0 i ∷ each_alike f xs ys (omega (arith, many)) (λ n. h (suc n)) i

-- rounds that stand alike are at one state
pub alike_state : (decls : List Decl) (most : ℕ) (r q : Round) → AlikeRounds decls most r q
    → state_of decls r ≡ state_of decls q
alike_state decls most r q x = λ i. record {
  shapes = shapes_alike 0 decls r.chans q.chans
      (λ c lt. let at : c ≡ 0 + c = omega arith in
      subst (λ k. shape_of (r.chans k).channel ≡ shape_of (q.chans k).channel) at
      (λ j. record { closed = (x.maps.same c lt).closed j; left = (x.maps.same c lt).left j })) i;
  commits = each_alike (λ (s : SeatProgress). length s.receipts) r.progress q.progress x.many
      (λ n. (x.seats n).many) i;
  stops = each_alike (λ (s : SeatProgress). s.end) r.progress q.progress x.many (λ n. (x.seats n).end) i;
}

-- rounds at one state that stand like themselves stand alike
pub state_alike : (decls : List Decl) (most : ℕ) (r q : Round) → AlikeRounds decls most r r → AlikeRounds decls most q q
    → state_of decls r ≡ state_of decls q → AlikeRounds decls most r q
state_alike decls most r q x y e = record {
  maps = record {
    same = λ c lt.
        let shape : shape_of (r.chans c).channel ≡ shape_of (q.chans c).channel =
        let at : 0 + c ≡ c = omega arith in
        subst (λ k. shape_of (r.chans k).channel ≡ shape_of (q.chans k).channel) at
        (shape_at 0 decls r.chans q.chans (ap (λ (p : State). p.shapes) e) c lt) in
        record {
          kind_c = (x.maps.same c lt).kind_c;
          kind_d = (y.maps.same c lt).kind_d;
          bound_c = (x.maps.same c lt).bound_c;
          bound_d = (y.maps.same c lt).bound_d;
          closed = ap (λ (p : Shape). p.closed) shape;
          left = ap (λ (p : Shape). p.left) shape;
        };
    low_m = x.maps.low_m;
    low_n = y.maps.low_n;
  };
  many = sym (length-map r.progress (λ (s : SeatProgress). s.end)) ∙ (ap (λ (p : State). length p.stops) e
      ∙ length-map q.progress (λ (s : SeatProgress). s.end));
  seats = λ n. record {
    many = sym (at_each (λ s. length s.receipts) r.progress n)
        ∙ (ap (λ (p : State). slice_index_or p.commits n 0) e ∙ at_each (λ s. length s.receipts) q.progress n);
    end = sym (at_each (λ s. s.end) r.progress n)
        ∙ (ap (λ (p : State). slice_index_or p.stops n Finished) e ∙ at_each (λ s. s.end) q.progress n);
    few = (x.seats n).few;
    low_s = (x.seats n).low_s;
    low_t = (y.seats n).low_t;
  };
}
