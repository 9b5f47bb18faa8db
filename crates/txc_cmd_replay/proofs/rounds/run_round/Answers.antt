use Rattle.std.proofs.Common.{◌≡◌, refl, sym, ◌∙◌, ◌<◌, ◌≤◌, map, length, slice_get, slice_index_or, subst, List, All}
use Rattle.std.proofs.Common.{arith}
use Rattle.std.proofs.lemmas.List.{length-map}
use Rattle.txc_txn.specs.Limits.{CheckedView}
use Rattle.txc_txn.specs.Plain.{chan_in}
use Rattle.txc_txn.specs.Steps.{Fits}
use Rattle.txc_cmd_replay.proofs.Turning.{all_turns, plans_at, turn_taken}
use Rattle.txc_cmd_replay.proofs.rounds.run_round.Goals as goal

pub loop-seat-init : goal.loop-seat-init
loop-seat-init g c = record { kinds = refl; rest = refl }

pub turn-requires : goal.turn-requires
turn-requires g c =
    let lt : c.loop-seat.seat < length (map (λ seat. seat.items) c.args.seats.now) =
    rw length-map c.loop-seat-test.true in
    record {
      fits = rw c.loop-seat.invariant.kinds (subst
          (λ (plans : List CheckedView). All (λ plan. Fits (slice_get c.args.channels.now.kinds) plan.steps) plans)
          (plans_at c.args.seats.now c.loop-seat.seat c.index-seats-seat.result c.loop-seat-test.true
          c.index-seats-seat.is ∙ sym c.as_slice-plans.ensures.value)
          (c.requires.fits c.loop-seat.seat c.index-seats-seat.result.items lt));
    }

pub loop-seat-preserved : goal.loop-seat-preserved
loop-seat-preserved g c =
    let lt : c.loop-seat.seat < length (map (λ seat. seat.items) c.args.seats.now) =
    rw length-map c.loop-seat-test.true in
    let at : c.loop-seat.seat < length c.loop-seat.progress = omega arith in
    let plans : c.as_slice-plans.result.now ≡ slice_index_or (map (λ seat. seat.items) c.args.seats.now)
    c.loop-seat.seat c.as_slice-plans.result.now =
    rw c.as_slice-plans.ensures.value
    (sym (plans_at c.args.seats.now c.loop-seat.seat c.index-seats-seat.result c.loop-seat-test.true
    c.index-seats-seat.is)) in
    record {
      kinds = c.turn.ensures.kinds ∙ c.loop-seat.invariant.kinds;
      rest = c.loop-seat.invariant.rest
          ∙ turn_taken c.loop-seat.seat (map (λ seat. seat.items) c.args.seats.now) c.loop-seat.progress
          (chan_in c.loop-seat.channels.held) (chan_in c.turn.new.channels.held)
          c.as_slice-plans.result.now c.index-progress-seat.result c.turn.new.self c.loop-seat.kept
          c.in_ok-kept.field-0 lt at plans c.index-progress-seat.is c.in_ok-kept.ensures.ok;
    }

pub returns-clause-ok : goal.returns-clause-ok
returns-clause-ok g c =
    let le : length (map (λ seat. seat.items) c.args.seats.now) ≤ c.loop-seat.seat =
    rw length-map c.loop-seat-test.false in
    sym (c.loop-seat.invariant.rest
    ∙ all_turns c.loop-seat.seat (map (λ seat. seat.items) c.args.seats.now) c.loop-seat.progress
    (chan_in c.loop-seat.channels.held) c.loop-seat.kept le)
