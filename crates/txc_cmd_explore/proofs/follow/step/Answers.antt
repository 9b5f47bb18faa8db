use Rattle.std.proofs.Common.{sym, ◌∙◌, ◌<◌, map, length, slice_get, subst, List, All}
use Rattle.std.proofs.lemmas.List.{length-map}
use Rattle.txc_txn.specs.Limits.{CheckedView}
use Rattle.txc_txn.specs.Steps.{Fits}
use Rattle.txc_cmd_replay.proofs.Turning.{plans_at}
use Rattle.txc_cmd_explore.proofs.follow.step.Goals as goal

pub turn-requires : goal.turn-requires
turn-requires g c =
    let lt : c.args.seat < length (map (λ seat. seat.items) c.args.seats.now) = rw length-map c.requires.there in
    record {
      fits = subst
          (λ (plans : List CheckedView). All (λ plan. Fits (slice_get c.args.channels.now.kinds) plan.steps) plans)
          (plans_at c.args.seats.now c.args.seat c.index-seats-seat.result c.requires.there
          c.index-seats-seat.is ∙ sym c.as_slice-plans.ensures.value)
          (c.requires.fits c.args.seat c.index-seats-seat.result.items lt);
    }
