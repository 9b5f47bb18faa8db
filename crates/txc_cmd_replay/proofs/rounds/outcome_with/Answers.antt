use Rattle.std.proofs.Common.{◌≡◌, ◌≢◌, ◌++◌, sym, ◌∙◌, ap, List, [], ◌∷◌, map, length, append_assoc, append-nil, arith}
use Rattle.std.proofs.lemmas.List.{length-map, nil_from_length}
use Rattle.std.proofs.lemmas.List.Elements.{All-push}
use Rattle.std.specs.Vec.Iter.{into_iter_items}
use Rattle.txc_base.specs.declared.stop.Stop.TheVariants.{NoMemory}
use Rattle.txc_cmd_report.specs.declared.seat_end.SeatEnd.TheVariants.{Stopped}
use Rattle.txc_cmd_replay.specs.Rounds.{SeatProgress}
use Rattle.txc_cmd_replay.proofs.rounds.outcome_with.Goals as goal

-- one more of what was made of each
one_more : {X : Type 0} → (f : SeatProgress → X) (done : List X) (x : X) (s : SeatProgress)
    (left now : List SeatProgress)
    (all : List X) → x ≡ f s → now ≡ s ∷ left
    → done ++ map f now ≡ all → (done ++ x ∷ []) ++ map f left ≡ all
one_more f done x s left now all is next e =
    append_assoc done (x ∷ []) (map f left) ∙ ap (λ y. done ++ y ∷ map f left) is ∙ ap (λ l. done ++ map f l) (sym next)
    ∙ e

-- each
none_left : {X : Type 0} → (f : SeatProgress → X) (done : List X) (left : List SeatProgress) (all : List X) → left ≡ []
    → done ++ map f left ≡ all → done ≡ all
none_left f done left all none e = sym (append-nil done) ∙ ap (λ l. done ++ map f l) (sym none) ∙ e

pub loop-seat_progress-preserved : goal.loop-seat_progress-preserved
loop-seat_progress-preserved c =
    let at = c.loop-seat_progress in
    let steps : into_iter_items at.seat_progress-iterator ≡ c.in-Some.seat_progress ∷ into_iter_items c.next.new.self =
    c.in-Some.ensures.steps.0 in
    record {
      receipts = rw c.in_ok-push-2.ensures.items
          (one_more (λ s. s.receipts) at.receipts.items c.from_vec.result c.in-Some.seat_progress
          (into_iter_items c.next.new.self) (into_iter_items at.seat_progress-iterator) _
          (c.from_vec.ensures ∙ c.into_receipts.ensures) steps at.invariant.receipts);
      ends = rw c.in_ok-push.ensures.items
          (one_more (λ s. s.end) at.ends.items c.end.result c.in-Some.seat_progress (into_iter_items c.next.new.self)
          (into_iter_items at.seat_progress-iterator) _
          c.end.ensures.end steps at.invariant.ends);
      known = rw c.in_ok-push.ensures.items
          (All-push (λ end. end ≢ Stopped NoMemory) at.ends.items c.end.result at.invariant.known c.end.ensures.known);
      left = let was = at.invariant.left in let gone = c.in-Some.ensures.steps.1 in let short = ap length steps in
          omega arith;
    }

pub returns-clause-receipts : goal.returns-clause-receipts
returns-clause-receipts c =
    let empty : into_iter_items c.loop-seat_progress.seat_progress-iterator ≡ [] =
    nil_from_length _ (sym c.loop-seat_progress.invariant.left ∙ c.in-None.ensures.steps.0) in
    c.from_vec-3.ensures ∙ none_left (λ s. s.receipts) c.loop-seat_progress.receipts.items
    (into_iter_items c.loop-seat_progress.seat_progress-iterator) _ empty c.loop-seat_progress.invariant.receipts

pub returns-clause-ends : goal.returns-clause-ends
returns-clause-ends c =
    let empty : into_iter_items c.loop-seat_progress.seat_progress-iterator ≡ [] =
    nil_from_length _ (sym c.loop-seat_progress.invariant.left ∙ c.in-None.ensures.steps.0) in
    c.from_vec-4.ensures ∙ none_left (λ s. s.end) c.loop-seat_progress.ends.items
    (into_iter_items c.loop-seat_progress.seat_progress-iterator) _ empty c.loop-seat_progress.invariant.ends

pub returns-clause-outcome : goal.returns-clause-outcome
returns-clause-outcome c = record {
  each = ap length (returns-clause-ends c) ∙ length-map c.args.progress.items (λ s. s.end)
      ∙ sym (ap length (returns-clause-receipts c) ∙ length-map c.args.progress.items (λ s. s.receipts));
  known = rw c.from_vec-4.ensures c.loop-seat_progress.invariant.known;
}
