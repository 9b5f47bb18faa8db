use Rattle.std.proofs.Common.{refl, ◌∙◌, ap, true, false, map, length}
use Rattle.std.proofs.lemmas.List.{length-map, with_items_is}
use Rattle.txc_txn.specs.Plain.{chan_in}
use Rattle.txc_cmd_replay.proofs.Left.{after_round, at_first, fewer_left, last_one, one_round}
use Rattle.txc_cmd_replay.proofs.rounds.run_rounds.Goals as goal

pub loop-progress-init : goal.loop-progress-init
loop-progress-init g c = record {
  kinds = refl;
  each = ap length c.in_ok-progress.ensures.ok ∙ length-map c.seats-seats.result.now _;
  comes = at_first c.args.script.now c.seats-seats.result.now c.in_ok-progress.progress.items
      (chan_in c.args.channels.now.held) c.seats-seats.ensures c.in_ok-progress.ensures.ok c.requires.opening;
}

pub run_round-requires-clause-each : goal.run_round-requires-clause-each
run_round-requires-clause-each g c = ap length c.as_mut_slice.ensures.value ∙ c.loop-progress.invariant.each

pub loop-progress-smaller : goal.loop-progress-smaller
loop-progress-smaller g c =
    let round = after_round (map (λ seat. seat.items) c.seats-seats.result.now) c.loop-progress.progress
    c.as_mut_slice.result.now c.run_round.new.progress
    (chan_in c.loop-progress.channels.held) (chan_in c.run_round.new.channels.held) c.in_ok-run_round.field-0 true
    c.run_round.auto.progress c.as_mut_slice.ensures.len c.as_mut_slice.ensures.value
    c.in_ok-run_round.ensures.ok c.if-branch.true in
    fewer_left _ _ _ _ _ round

pub loop-progress-preserved : goal.loop-progress-preserved
loop-progress-preserved g c =
    let back = with_items_is c.loop-progress.progress c.run_round.new.progress (c.run_round.auto.progress
    ∙ c.as_mut_slice.ensures.len) in
    let round = after_round (map (λ seat. seat.items) c.seats-seats.result.now) c.loop-progress.progress
    c.as_mut_slice.result.now c.run_round.new.progress
    (chan_in c.loop-progress.channels.held) (chan_in c.run_round.new.channels.held) c.in_ok-run_round.field-0 true
    c.run_round.auto.progress c.as_mut_slice.ensures.len c.as_mut_slice.ensures.value
    c.in_ok-run_round.ensures.ok c.if-branch.true in
    record {
      kinds = c.run_round.ensures.kinds ∙ c.loop-progress.invariant.kinds;
      each = ap length back ∙ c.run_round.auto.progress ∙ ap length c.as_mut_slice.ensures.value
          ∙ c.loop-progress.invariant.each;
      comes = one_round _ _ _ _ _ _ round c.loop-progress.invariant.comes;
    }

pub returns-clause-ok : goal.returns-clause-ok
returns-clause-ok g c =
    let round = after_round (map (λ seat. seat.items) c.seats-seats.result.now) c.loop-progress.progress
    c.as_mut_slice.result.now c.run_round.new.progress
    (chan_in c.loop-progress.channels.held) (chan_in c.run_round.new.channels.held) c.in_ok-run_round.field-0 false
    c.run_round.auto.progress c.as_mut_slice.ensures.len c.as_mut_slice.ensures.value
    c.in_ok-run_round.ensures.ok c.if-branch.false in
    last_one _ _ _ _ _ _ round c.loop-progress.invariant.comes
