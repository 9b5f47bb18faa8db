use Rattle.std.proofs.Common.{◌≡◌, sym, ◌∙◌, ap, true, false, ◌≤◌, List, map, length, slice_index_or}
use Rattle.std.proofs.lemmas.List.{length-map}
use Rattle.txc_txn.specs.Limits.{CheckedView}
use Rattle.txc_txn.specs.Plain.{chan_in}
use Rattle.txc_cmd_replay.specs.Rounds.{Round, SeatProgress, round_to}
use Rattle.txc_cmd_explore.specs.Moves.{after_move}
use Rattle.txc_cmd_explore.proofs.Following.{follow_begins, follow_fails, follow_past}
use Rattle.txc_cmd_explore.proofs.follow.follow.Goals as goal

pub loop-number-init : goal.loop-number-init
loop-number-init g c = record {
  kinds = c.in_ok-channels.ensures.kinds;
  many = ap length c.in_ok-progress.ensures.ok ∙ length-map c.seats-seats.result.now _;
  rest = follow_begins c.args.script.now c.seats-seats.result.now c.in_ok-progress.progress.items
      (chan_in c.in_ok-channels.channels.held) c.args.order.now c.seats-seats.ensures c.in_ok-progress.ensures.ok
      c.in_ok-channels.ensures.opening;
}

pub returns-then-seat-seats : goal.returns-then-seat-seats
returns-then-seat-seats g c =
    let seats : List (List CheckedView) = map (λ seat. seat.items) c.seats-seats.result.now in
    let r : Round = round_to (chan_in c.loop-number.channels.held) c.loop-number.progress.items true in
    let le : length seats ≤ slice_index_or c.args.order.now c.loop-number.number-index 0 =
    rw length-map c.if-seat-seats.true in
    sym (ap (λ (q : Round). q.kept) c.loop-number.invariant.rest)
    ∙ follow_fails seats c.args.order.now c.loop-number.number-index r c.loop-number-test.true
    (follow_past seats (slice_index_or c.args.order.now c.loop-number.number-index 0) r le)

pub returns-then-not-branch : goal.returns-then-not-branch
returns-then-not-branch g c =
    let seats : List (List CheckedView) = map (λ seat. seat.items) c.seats-seats.result.now in
    let seat = slice_index_or c.args.order.now c.loop-number.number-index 0 in
    let r : Round = round_to (chan_in c.loop-number.channels.held) c.loop-number.progress.items true in
    let e : round_to (chan_in c.step.new.channels.held) c.step.new.progress c.in_ok-step.field-0
    ≡ after_move seats seat r =
    c.in_ok-step.ensures.ok ∙ ap (λ (p : List SeatProgress). after_move seats seat
    (round_to (chan_in c.loop-number.channels.held) p true)) c.as_mut_slice.ensures.value in
    let no : c.in_ok-step.field-0 ≡ false = cc in
    sym (ap (λ (q : Round). q.kept) c.loop-number.invariant.rest)
    ∙ follow_fails seats c.args.order.now c.loop-number.number-index r c.loop-number-test.true
    (sym (ap (λ (q : Round). q.kept) e) ∙ no)
