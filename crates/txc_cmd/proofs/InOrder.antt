-- A history is a run of the script's transactions in some order.
use Rattle.std.proofs.Common.{◌≡◌, refl, sym, ◌∙◌, ap, subst, inl, inr, ℕ, zero, suc, ◌<◌, true}
use Rattle.std.proofs.Common.{Option, Some, List, [], ◌∷◌, ◌++◌, append_assoc, length, length-append, length-set}
use Rattle.std.proofs.Common.{map, drop, slice_get, slice_index_or, set, get_or-set_other, get_or-set_same, arith}
use Rattle.std.proofs.lemmas.Bool.Decides.{eqb_tells}
use Rattle.txc_base.specs.declared.tag.Tag.{Tag}
use Rattle.txc_txn.specs.declared.receipt.Receipt.{Receipt}
use Rattle.txc_txn.specs.Limits.{CheckedView}
use Rattle.txc_txn.specs.Maps.{Map, settle_all}
use Rattle.txc_txn.specs.Run.{receipt_of}
use Rattle.txc_txn.specs.Transaction.{Kept, kept_tag, transaction}
use Rattle.txc_cmd_report.specs.declared.seat_end.SeatEnd.TheVariants.{Finished}
use Rattle.txc_table_seat.specs.Seated.{AreReceiptsOf}
use Rattle.txc_txn_history.specs.Commits.{Has}
use Rattle.txc_txn_history.specs.Events.{Event, asked, events_of}
use Rattle.txc_txn_history.specs.OneOrder.{Occurs, Runs}
use Rattle.txc_cmd_replay.specs.Rounds.{SeatProgress, after_try, last_stamp, next_plan, round_to, tag_after, try_next}
use Rattle.txc_cmd_replay.specs.Rounds.{turn}
use Rattle.txc_cmd_replay.specs.Rounds.{turn_to, untried}
use Rattle.txc_cmd.specs.InOrder.{after_turn, turns}
use Rattle.txc_cmd.proofs.SeatOrder.{first_its, first_other, of_seat}

-- where a seat stands after one more receipt
abbrev with_one : SeatProgress → Receipt → SeatProgress
with_one s receipt = record { receipts = s.receipts ++ receipt ∷ []; end = Finished }

-- an event that occurs is the turn of its seat, which keeps its next transaction
turn_is : (seat : ℕ) (plans : List CheckedView) (plan : CheckedView) (receipt : Receipt) (m next : Map)
    (s : SeatProgress)
    → s.end ≡ Finished → slice_get plans (length s.receipts) ≡ Some plan → receipt.tag.serial ≡ length s.receipts
    → Occurs m (record { seat = seat; plan = plan; before = last_stamp s.receipts; receipt = receipt }) next
    → turn seat plans m s ≡ turn_to next (with_one s receipt) true
turn_is seat plans plan receipt m next s going there serial occurs =
    ap (λ e. try_next seat (next_plan plans (length s.receipts) e) m s) going
    ∙ (ap (λ (o : Option CheckedView). try_next seat o m s) there
    ∙ (ap (after_try m s kept plan.declared) ends
    ∙ (λ i. turn_to (left i) (with_one s (sym gives i)) true)))
  where
    same : asked (record { seat = seat; plan = plan; before = last_stamp s.receipts; receipt = receipt })
        ≡ tag_after seat s.receipts
    same = λ i. record { seat = seat; serial = serial i; stamp = last_stamp s.receipts }

    kept : Tag
    kept = kept_tag m (tag_after seat s.receipts) plan.declared

    ends : transaction m (tag_after seat s.receipts) plan.declared plan.steps ≡ Kept occurs.state
    ends = sym (ap (λ t. transaction m t plan.declared plan.steps) same) ∙ occurs.kept

    gives : receipt ≡ receipt_of kept occurs.state
    gives = occurs.gives ∙ ap (λ t. receipt_of (kept_tag m t plan.declared) occurs.state) same

    left : settle_all occurs.state.chans kept.stamp plan.declared ≡ next
    left = sym (occurs.leaves
        ∙ ap (λ (r : Receipt). settle_all occurs.state.chans r.tag.stamp plan.declared) gives)

-- what a seat did and has still to do: the events are those of the receipts that it has not got
pub record Stands (seat : ℕ) (plans : List CheckedView) (receipts : List Receipt) (s : SeatProgress)
    (events : List Event) : Type 0 where
  pub later : List Receipt
  pub split : receipts ≡ s.receipts ++ later
  pub going : s.end ≡ Finished
  pub its : events ≡ events_of seat (last_stamp s.receipts) (drop (length s.receipts) plans) later
  pub own : AreReceiptsOf seat (length s.receipts) later

-- the stamp of a receipt that was added last
last_pushed : (receipts : List Receipt) (receipt : Receipt) → last_stamp (receipts ++ receipt ∷ []) ≡ receipt.tag.stamp
last_pushed [] receipt = refl
last_pushed (one ∷ []) receipt = refl
last_pushed (one ∷ other ∷ receipts) receipt = last_pushed (other ∷ receipts) receipt

-- what comes first after so many is at that place
at_drop : (plans : List CheckedView) (k : ℕ) (plan : CheckedView) (more : List CheckedView) → drop k plans ≡ plan ∷ more
    → slice_get plans k ≡ Some plan
at_drop [] zero plan more e = absurd (cc)
at_drop [] (suc k) plan more e = absurd (cc)
at_drop (p ∷ plans) zero plan more e = let same : p ≡ plan = cc in ap Some same
at_drop (p ∷ plans) (suc k) plan more e = at_drop plans k plan more e

-- .. and after one more the rest is left
next_drop : (plans : List CheckedView) (k : ℕ) (plan : CheckedView) (more : List CheckedView)
    → drop k plans ≡ plan ∷ more
    → drop (suc k) plans ≡ more
next_drop [] zero plan more e = absurd (cc)
next_drop [] (suc k) plan more e = absurd (cc)
next_drop (p ∷ plans) zero plan more e = cc
next_drop (p ∷ plans) (suc k) plan more e = next_drop plans k plan more e

-- a turn, as it leaves the seat
record Took (plans : List CheckedView) (receipts : List Receipt) (m next : Map) (s : SeatProgress) (e : Event)
    (es : List Event)
    : Type 0 where
  turn_kept : turn e.seat plans m s ≡ turn_to next (with_one s e.receipt) true
  stands : Stands e.seat plans receipts (with_one s e.receipt) es

-- an event of a seat is its turn, and leaves the seat so
took_of : (seat : ℕ) (plans : List CheckedView) (receipts : List Receipt) (m next : Map) (s : SeatProgress) (e : Event)
    (es : List Event) (left : List CheckedView) (later : List Receipt)
    → drop (length s.receipts) plans ≡ left → receipts ≡ s.receipts ++ later → s.end ≡ Finished
    → e ∷ es ≡ events_of seat (last_stamp s.receipts) left later → AreReceiptsOf seat (length s.receipts) later
    → Occurs m e next → Took plans receipts m next s e es
took_of seat plans receipts m next s e es [] later dropped split going same own occurs = absurd (cc)
took_of seat plans receipts m next s e es (plan ∷ left) [] dropped split going same own occurs = absurd (cc)
took_of seat plans receipts m next s e es (plan ∷ left) (receipt ∷ later) dropped split going same own occurs =
    let here : e ≡ record { seat = seat; plan = plan; before = last_stamp s.receipts; receipt = receipt } = cc in
    let rest : es ≡ events_of seat receipt.tag.stamp left later = cc in
    let one : length (s.receipts ++ receipt ∷ []) ≡ suc (length s.receipts) =
    omega (arith, length-append s.receipts (receipt ∷ [])) in
    subst (λ (x : Event). Took plans receipts m next s x es) (sym here) (record {
      turn_kept = turn_is seat plans plan receipt m next s going (at_drop plans (length s.receipts) plan left dropped)
          own.1 (subst (λ (x : Event). Occurs m x next) here occurs);
      stands = record {
        later = later;
        split = split ∙ sym (append_assoc s.receipts (receipt ∷ []) later);
        going = refl;
        its = rest ∙ (λ i. events_of seat (sym (last_pushed s.receipts receipt) i)
            (sym (ap (λ k. drop k plans) one ∙ next_drop plans (length s.receipts) plan left dropped) i) later);
        own = subst (λ k. AreReceiptsOf seat k later) (sym one) own.3;
      };
    })

took : (plans : List CheckedView) (receipts : List Receipt) (m next : Map) (s : SeatProgress) (e : Event)
    (es : List Event)
    → Stands e.seat plans receipts s (e ∷ es) → Occurs m e next → Took plans receipts m next s e es
took plans receipts m next s e es stands occurs =
    took_of e.seat plans receipts m next s e es (drop (length s.receipts) plans) stands.later refl stands.split
    stands.going stands.its stands.own occurs

-- each seat stands so, of those with these transactions and receipts
pub record ArePlacedEvents (seats : List (List CheckedView)) (receipts : List (List Receipt))
    (progress : List SeatProgress)
    (events : List Event) : Type 0 where
  pub many : length progress ≡ length seats
  pub within : (e : Event) → Has events e → e.seat < length seats
  pub each : (n : ℕ) → n < length seats → Stands n (slice_index_or seats n []) (slice_index_or receipts n [])
      (slice_index_or progress n untried) (of_seat n events)

-- the seats after the turn of the first event
stand_next : (seats : List (List CheckedView)) (receipts : List (List Receipt)) (progress : List SeatProgress)
    (m next : Map)
    (e : Event) (es : List Event) → ArePlacedEvents seats receipts progress (e ∷ es)
    → Took (slice_index_or seats e.seat []) (slice_index_or receipts e.seat []) m next
    (slice_index_or progress e.seat untried) e (of_seat e.seat es)
    → ArePlacedEvents seats receipts (set progress e.seat (with_one (slice_index_or progress e.seat untried) e.receipt))
    es
stand_next seats receipts progress m next e es all turned = record {
  many = length-set progress e.seat now ∙ all.many;
  within = λ x h. all.within x (inr h);
  each = λ n lt. elim (eqb_tells e.seat n) [
    | inl t ↦ subst (λ k. Stands k (slice_index_or seats k []) (slice_index_or receipts k [])
        (slice_index_or (set progress e.seat now) k untried) (of_seat k es)) t.1
        (subst (λ s. Stands e.seat (slice_index_or seats e.seat []) (slice_index_or receipts e.seat []) s
        (of_seat e.seat es)) (sym (get_or-set_same progress e.seat now untried here)) turned.stands)
    | inr t ↦ subst (λ s. Stands n (slice_index_or seats n []) (slice_index_or receipts n []) s (of_seat n es))
        (sym (get_or-set_other progress e.seat n now untried (λ is. t.1 (sym is))))
        (subst (λ (l : List Event). Stands n (slice_index_or seats n []) (slice_index_or receipts n [])
        (slice_index_or progress n untried) l) (first_other n e es t.1) (all.each n lt))
  ];
}
  where
    now : SeatProgress
    now = with_one (slice_index_or progress e.seat untried) e.receipt

    here : e.seat < length progress
    here = omega (arith, all.within e (inl refl), all.many)

-- what a run of events comes to: turns of their seats, each of which keeps a transaction
pub record Turned (seats : List (List CheckedView)) (receipts : List (List Receipt)) (m left : Map) (order : List Event)
    (progress : List SeatProgress) : Type 0 where
  pub after : List SeatProgress
  pub comes : turns seats (map (λ (e : Event). e.seat) order) (round_to m progress true) ≡ round_to left after true
  pub stand : ArePlacedEvents seats receipts after []

pub turned : (seats : List (List CheckedView)) (receipts : List (List Receipt)) (m left : Map) (order : List Event)
    (progress : List SeatProgress) → ArePlacedEvents seats receipts progress order → Runs m order left
    → Turned seats receipts m left order progress
turned seats receipts m left [] progress all runs = record {
  after = progress;
  comes = ap (λ (n : Map). round_to n progress true) (sym runs);
  stand = all;
}
turned seats receipts m left (e ∷ order) progress all runs =
    let stands = subst (λ (l : List Event). Stands e.seat (slice_index_or seats e.seat [])
    (slice_index_or receipts e.seat []) (slice_index_or progress e.seat untried) l) (first_its e.seat e order refl)
    (all.each e.seat (all.within e (inl refl))) in
    let one : Took (slice_index_or seats e.seat []) (slice_index_or receipts e.seat []) m runs.0
    (slice_index_or progress e.seat untried) e (of_seat e.seat order) =
    took (slice_index_or seats e.seat []) (slice_index_or receipts e.seat []) m runs.0
    (slice_index_or progress e.seat untried) e (of_seat e.seat order) stands runs.1.0 in
    let more : Turned seats receipts runs.0 left order
    (set progress e.seat (with_one (slice_index_or progress e.seat untried) e.receipt)) =
    turned seats receipts runs.0 left order
    (set progress e.seat (with_one (slice_index_or progress e.seat untried) e.receipt))
    (stand_next seats receipts progress m runs.0 e order all one) runs.1.1 in
    record {
      after = more.after;
      comes = ap (λ t. turns seats (map (λ (x : Event). x.seat) order)
          (after_turn e.seat (round_to m progress true) t))
          one.turn_kept ∙ more.comes;
      stand = more.stand;
    }
