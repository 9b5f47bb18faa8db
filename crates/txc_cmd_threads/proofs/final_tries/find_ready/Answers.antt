use Rattle.std.proofs.Common.{◌≡◌, ◌∙◌, ◌<◌, List, [], All, ap, arith, length, map, slice_get, slice_index_or}
use Rattle.std.proofs.Common.{subst, sym}
use Rattle.std.proofs.lemmas.List.{get_or_default, get_or-map, length-map}
use Rattle.txc_txn_check.specs.Limits.{CheckedView}
use Rattle.txc_txn_check.specs.Steps.{Fits}
use Rattle.txc_table.specs.Table.{TableView, decls_of}
use Rattle.txc_cmd_report.specs.declared.seat_end.SeatEnd.TheVariants.{Finished, Stalled}
use Rattle.txc_table_seat.specs.Seated.{no_commits}
use Rattle.txc_table.specs.Seat.{DepartedSeatView}
use Rattle.txc_cmd_threads.specs.Serves.{Serves}
use Rattle.txc_cmd_threads.specs.Stuck.{IsStuck}
use Rattle.txc_cmd_threads.proofs.FinalTries.{back_set, items_at, stuck_more, stuck_next}
use Rattle.txc_cmd_threads.proofs.final_tries.find_ready.Goals as goal

pub retry_cause-requires-clause-fits : goal.retry_cause-requires-clause-fits
retry_cause-requires-clause-fits g c =
    let seats : List (List CheckedView) = map (λ seat. seat.items) c.args.plans.now in
    let below : c.loop-at.at < length seats =
    omega (arith, c.loop-at-test.true, length-map c.args.plans.now (λ seat. seat.items)) in
    subst (All (λ (plan : CheckedView). Fits (slice_get c.loop-at.idle.table.kinds) plan.steps))
    (sym c.as_slice.ensures.value)
    (subst (λ (t : TableView). All (λ (plan : CheckedView). Fits (slice_get t.kinds) plan.steps)
    c.index-plans-at.result.items) (sym c.loop-at.invariant.0)
    (items_at (All (λ (plan : CheckedView). Fits (slice_get c.args.idle.now.table.kinds) plan.steps))
    (λ seat. seat.items) c.args.plans.now c.loop-at.at [] c.index-plans-at.result c.loop-at-test.true
    c.index-plans-at.is (c.requires.served.fits c.loop-at.at [] below)))

pub loop-at-preserved : goal.loop-at-preserved
loop-at-preserved g c =
    let seats : List (List CheckedView) = map (λ seat. seat.items) c.args.plans.now in
    let left : List DepartedSeatView = c.args.idle.now.left in
    let own : c.as_slice.result.now ≡ slice_index_or seats c.loop-at.at [] =
    c.as_slice.ensures.value
    ∙ sym (get_or-map (λ seat. seat.items) c.args.plans.now c.loop-at.at c.index-plans-at.result [] c.loop-at-test.true
    ∙ ap (λ seat. seat.items) (sym c.index-plans-at.is)) in
    let there : c.loop-at.at < length c.loop-at.ends.items =
    omega (arith, c.loop-at-test.true, c.loop-at.ends.ok.0, c.loop-at.invariant.2) in (
      c.retry_cause.ensures.table ∙ c.loop-at.invariant.0,
      c.retry_cause.ensures.left ∙ c.loop-at.invariant.1,
      c.loop-at.invariant.2,
      back_set (decls_of c.args.idle.now.table.lines) seats left c.loop-at.ends.items c.loop-at.at
          (Stalled c.in-Some.cause) there
          (λ d. subst (λ (ps : List CheckedView). Serves (decls_of c.args.idle.now.table.lines) ps
          (no_commits c.loop-at.at)
          (slice_index_or left c.loop-at.at d).commits (Stalled c.in-Some.cause)) own
          (subst (λ (ls : List DepartedSeatView). Serves (decls_of c.args.idle.now.table.lines) c.as_slice.result.now
          (no_commits c.loop-at.at) (slice_index_or ls c.loop-at.at d).commits
          (Stalled c.in-Some.cause)) c.loop-at.invariant.1
          (subst (λ (t : TableView). Serves (decls_of t.lines) c.as_slice.result.now (no_commits c.loop-at.at)
          (slice_index_or c.loop-at.idle.left c.loop-at.at d).commits (Stalled c.in-Some.cause)) c.loop-at.invariant.0
          (c.in-Some.ensures.serves d)))) c.loop-at.invariant.3,
      stuck_more c.loop-at.idle.helds c.retry_cause.new.idle.helds seats left c.loop-at.ends.items c.loop-at.at
          (Stalled c.in-Some.cause) there c.in-Some.ensures.same
          (λ d. subst (λ (ps : List CheckedView). IsStuck c.retry_cause.new.idle.helds ps
          (slice_index_or left c.loop-at.at d).commits (Stalled c.in-Some.cause)) own
          (subst (λ (ls : List DepartedSeatView). IsStuck c.retry_cause.new.idle.helds c.as_slice.result.now
          (slice_index_or ls c.loop-at.at d).commits (Stalled c.in-Some.cause)) c.loop-at.invariant.1
          (c.in-Some.ensures.stuck d)))
          c.loop-at.invariant.4,
    )

pub loop-at-preserved-in_default : goal.loop-at-preserved-in_default
loop-at-preserved-in_default g c =
    let ends = c.loop-at.ends.items in
    let there : c.loop-at.at < length ends =
    omega (arith, c.loop-at-test.true, c.loop-at.ends.ok.0, c.loop-at.invariant.2) in
    let same : c.index-end.result.now ≡ slice_index_or ends c.loop-at.at Finished =
    c.index-end.ensures ∙ get_or_default ends c.loop-at.at c.index-end.result.now Finished there in (
      c.loop-at.invariant.0,
      c.loop-at.invariant.1,
      c.loop-at.invariant.2,
      c.loop-at.invariant.3,
      stuck_next c.loop-at.idle.helds (map (λ seat. seat.items) c.args.plans.now) c.args.idle.now.left ends c.loop-at.at
          (λ cause is. c.in_default.not-Stalled cause (same ∙ is)) c.loop-at.invariant.4,
    )
