-- How many transactions are left, which falls in each round that keeps one.
use Rattle.std.proofs.Common.{◌≡◌, refl, sym, ◌∙◌, ap, subst, ℕ, zero, suc, ◌+◌, ◌-◌, ◌<◌, ◌≤◌, Bool, true, false, ◌||◌}
use Rattle.std.proofs.Common.{Option, Some, None, Vec, Global, List, [], ◌∷◌, ◌++◌, map, length, length-append, arith}
use Rattle.std.proofs.Common.{if◌then◌else◌}
use Rattle.std.proofs.lemmas.List.{with_items_is}
use Rattle.std.proofs.lemmas.Option.{slice_get_within}
use Rattle.std.specs.Vec.{vec_len, with_items}
use Rattle.txc_base.specs.declared.tag.Tag.{Tag}
use Rattle.txc_txn.specs.Limits.{CheckedView}
use Rattle.txc_txn.specs.Maps.{Map}
use Rattle.txc_txn.specs.Run.{receipt_of}
use Rattle.txc_txn.specs.Transaction.{Ending as Tried, Kept, Again, Aborted, kept_tag, transaction}
use Rattle.txc_cmd_report.specs.declared.seat_end.SeatEnd.{SeatEnd}
use Rattle.txc_cmd_report.specs.declared.seat_end.SeatEnd.TheVariants.{Finished, Stalled, Stopped}
use Rattle.txc_txn.specs.Opening.{opening_map}
use Rattle.txc_cmd_replay.specs.Rounds.{Round, SeatProgress, beginning, after_try, untried, tag_after, round_from}
use Rattle.txc_cmd_replay.specs.Rounds.{round_to}
use Rattle.txc_cmd_replay.specs.Rounds.{rounds_within, last_round, next_plan, transaction_count, try_next, turn}
use Rattle.txc_cmd_script.specs.Script.{Script}
use Rattle.txc_cmd_replay.proofs.Turning.{no_more}

-- how many transactions of these seats are not kept yet
abbrev pub transactions_left : List (List CheckedView) → List SeatProgress → ℕ
transactions_left [] progress = 0
transactions_left (plans ∷ seats) [] = 0
transactions_left (plans ∷ seats) (s ∷ progress) = (length plans - length s.receipts) + transactions_left seats
    progress

-- a number that does not rise, and falls where this is true
pub record Falls (before after : ℕ) (kept : Bool) : Type 0 where
  pub within : after ≤ before
  pub falls : kept ≡ true → after < before

-- before the first round all are left
pub all_left : (seats : List (List CheckedView)) → transactions_left seats (map (λ plans. untried) seats)
    ≡ transaction_count seats
all_left [] = refl
all_left (plans ∷ seats) = omega (arith, all_left seats)

-- a try that keeps a transaction leaves one less
tried_left : (most : ℕ) (m : Map) (s : SeatProgress) (tag : Tag) (declared : List ℕ) (o : Tried)
    → length s.receipts < most
    → Falls (most - length s.receipts) (most - length (after_try m s tag declared o).seat_progress.receipts)
    (after_try m s tag declared o).kept
tried_left most m s tag declared (Kept state) lt =
    let one : length (s.receipts ++ receipt_of tag state ∷ []) ≡ length s.receipts + 1 =
    length-append s.receipts (receipt_of tag state ∷ []) in
    record { within = omega (arith, one, lt); falls = λ _. omega (arith, one, lt) }
tried_left most m s tag declared (Again cause) lt = record { within = omega arith; falls = λ e. absurd (cc) }
tried_left most m s tag declared (Aborted stop) lt = record { within = omega arith; falls = λ e. absurd (cc) }

-- so does a try of the next one, where there is one
next_left : (most seat : ℕ) (next : Option CheckedView) (m : Map) (s : SeatProgress)
    → ((plan : CheckedView) → next ≡ Some plan → length s.receipts < most)
    → Falls (most - length s.receipts) (most - length (try_next seat next m s).seat_progress.receipts)
    (try_next seat next m s).kept
next_left most seat None m s lt = record { within = omega arith; falls = λ e. absurd (cc) }
next_left most seat (Some plan) m s lt =
    tried_left most m s (kept_tag m (tag_after seat s.receipts) plan.declared) plan.declared
    (transaction m (tag_after seat s.receipts) plan.declared plan.steps) (lt plan refl)

-- the next transaction is one of the seat's
next_within : (plans : List CheckedView) (kept : ℕ) (end : SeatEnd) (plan : CheckedView)
    → next_plan plans kept end ≡ Some plan
    → kept < length plans
next_within plans kept (Stopped stop) plan e = absurd (cc)
next_within plans kept Finished plan e = slice_get_within plans kept plan e
next_within plans kept (Stalled cause) plan e = slice_get_within plans kept plan e

-- so does a turn
turn_left : (seat : ℕ) (plans : List CheckedView) (m : Map) (s : SeatProgress)
    → Falls (length plans - length s.receipts) (length plans - length (turn seat plans m s).seat_progress.receipts)
    (turn seat plans m s).kept
turn_left seat plans m s =
    next_left (length plans) seat (next_plan plans (length s.receipts) s.end) m s
    (next_within plans (length s.receipts) s.end)

-- two numbers together, where one that falls is enough
both_fall : (a a' b b' : ℕ) (x y : Bool) → Falls a a' x → Falls b b' y → Falls (a + b) (a' + b') (x || y)
both_fall a a' b b' true y f g = let lt : a' < a = f.falls refl in
    record { within = omega (arith, f.within, g.within); falls = λ _. omega (arith, lt, g.within) }
both_fall a a' b b' false y f g =
    record { within = omega (arith, f.within, g.within); falls = λ e. omega (arith, f.within, g.falls e) }

-- so does a round
pub round_left : (seat : ℕ) (seats : List (List CheckedView)) (progress : List SeatProgress) (m : Map)
    → Falls (transactions_left seats progress) (transactions_left seats (round_from seat seats progress m).progress)
    (round_from seat seats progress m).kept
round_left seat [] progress m = record { within = omega arith; falls = λ e. absurd (cc) }
round_left seat (plans ∷ seats) [] m = record { within = omega arith; falls = λ e. absurd (cc) }
round_left seat (plans ∷ seats) (s ∷ progress) m =
    both_fall _ _ _ _ _ _ (turn_left seat plans m s) (round_left (suc seat) seats progress (turn seat plans m s).chans)

-- a round that keeps a transaction leaves fewer
pub fewer_left : (seats : List (List CheckedView)) (st st' : List SeatProgress) (m m' : Map)
    → round_to m' st' true ≡ round_from 0 seats st m
    → transactions_left seats st' < transactions_left seats st
fewer_left seats st st' m m' e =
    subst (λ (r : Round). transactions_left seats r.progress < transactions_left seats st) (sym e)
    ((round_left 0 seats st m).falls (sym (ap (λ (r : Round). r.kept) e)))

-- what the rounds from here on come to, where each but the last keeps a transaction
pub record ComesTo (seats : List (List CheckedView)) (r last : Round) : Type 0 where
  pub most : ℕ
  pub left : transactions_left seats r.progress ≤ most
  pub last_is : rounds_within (suc most) seats r ≡ last

-- a round that keeps a transaction does not change what the rounds come to
pub one_round : (seats : List (List CheckedView)) (st st' : List SeatProgress) (m m' : Map) (last : Round)
    → round_to m' st' true ≡ round_from 0 seats st m
    → ComesTo seats (round_to m st true) last → ComesTo seats (round_to m' st' true) last
one_round seats st st' m m' last e to = at to.most to.left to.last_is
  where
    at : (most : ℕ) → transactions_left seats st ≤ most → rounds_within (suc most) seats (round_to m st true) ≡ last
        → ComesTo seats (round_to m' st' true) last
    at zero le is = absurd (omega (arith, fewer_left seats st st' m m' e, le))
    at (suc most) le is = record {
      most = most;
      left = omega (arith, fewer_left seats st st' m m' e, le);
      last_is = ap (rounds_within (suc most) seats) e ∙ is;
    }

-- a round that keeps none is what they come to
pub last_one : (seats : List (List CheckedView)) (st st' : List SeatProgress) (m m' : Map) (last : Round)
    → round_to m' st' false ≡ round_from 0 seats st m
    → ComesTo seats (round_to m st true) last → round_to m' st' false ≡ last
last_one seats st st' m m' last e to =
    sym (no_more to.most seats (round_to m' st' false) refl) ∙ ap (rounds_within to.most seats) e ∙ to.last_is

-- a round whose next one keeps none, where it is the last or the ones after it come to one that keeps none
ends_by : (n : ℕ) (seats : List (List CheckedView)) (r : Round) (b : Bool) → r.kept ≡ b
    → (rounds_within n seats (round_from 0 seats r.progress r.chans)).kept ≡ false
    → (rounds_within (suc n) seats r).kept ≡ false
ends_by n seats r true e after =
    ap (λ b. (if b then rounds_within n seats (round_from 0 seats r.progress r.chans) else r).kept) e ∙ after
ends_by n seats r false e after =
    ap (λ b. (if b then rounds_within n seats (round_from 0 seats r.progress r.chans) else r).kept) e ∙ e

-- what the rounds after a round come to, by whether it kept any
ends_after : (n : ℕ) (seats : List (List CheckedView)) (r : Round) (b : Bool) → r.kept ≡ b
    → (b ≡ true → (rounds_within n seats r).kept ≡ false)
    → (rounds_within n seats r).kept ≡ false
ends_after n seats r true e more = more refl
ends_after n seats r false e more = ap (λ (x : Round). x.kept) (no_more n seats r e) ∙ e

-- rounds end: with a round more than there are transactions left, the last one keeps none
rounds_end : (n : ℕ) (seats : List (List CheckedView)) (r : Round) → transactions_left seats r.progress < n
    → (rounds_within n seats r).kept ≡ false
rounds_end zero seats r lt = absurd (omega arith)
rounds_end (suc n) seats r lt =
    let next = round_from 0 seats r.progress r.chans in
    ends_by n seats r r.kept refl (ends_after n seats next next.kept refl
    (λ e. let fewer = (round_left 0 seats r.progress r.chans).falls e in
    rounds_end n seats next (omega (arith, fewer))))

-- the last round of a script keeps none
pub last_keeps_none : (script : Script) → (last_round script).kept ≡ false
last_keeps_none script =
    let left = all_left script.seats in
    rounds_end (suc (transaction_count script.seats)) script.seats (beginning script) (omega (arith, left))

-- fresh progress for each seat, whatever its plans are
fresh_each : (seats : List (Vec CheckedView Global)) → map (λ plans. untried) (map (λ seat. seat.items) seats)
    ≡ map (λ (seat : Vec CheckedView Global). untried) seats
fresh_each [] = refl
fresh_each (seat ∷ seats) = ap (λ st. untried ∷ st) (fresh_each seats)

-- what the rounds come to before the first one
pub at_first : (script : Script) (seats : List (Vec CheckedView Global)) (st : List SeatProgress) (m : Map)
    → map (λ seat. seat.items) seats ≡ script.seats
    → st ≡ map (λ (seat : Vec CheckedView Global). untried) seats → m ≡ opening_map script.decls
    → ComesTo (map (λ seat. seat.items) seats) (round_to m st true) (last_round script)
at_first script seats st m e is opening =
    let stand : st ≡ map (λ plans. untried) script.seats = is ∙ sym (fresh_each seats)
    ∙ ap (map (λ plans. untried)) e in
    let left : transactions_left (map (λ seat. seat.items) seats) st ≡ transaction_count script.seats =
    (λ j. transactions_left (e j) (stand j)) ∙ all_left script.seats in
    record {
      most = transaction_count script.seats;
      left = omega (arith, left);
      last_is = λ j. rounds_within (suc (transaction_count script.seats)) (e j) (round_to (opening j) (stand j) true);
    }

-- what a round over the borrowed progress of a list left in it
pub after_round : (seats : List (List CheckedView)) (progress : Vec SeatProgress Global) (now st' : List SeatProgress)
    (m m' : Map)
    (kept b : Bool) → length st' ≡ length now
    → length now ≡ vec_len progress → now ≡ progress.items → round_to m' st' kept ≡ round_from 0 seats now m
    → kept ≡ b
    → round_to m' (with_items progress st').items b ≡ round_from 0 seats progress.items m
after_round seats progress now st' m m' kept b same long is e k =
    (λ j. round_to m' (with_items_is progress st' (same ∙ long) j) (sym k j)) ∙ e ∙ (λ j. round_from 0 seats (is j) m)
