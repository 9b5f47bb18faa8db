use Rattle.std.proofs.Common.{◌∙◌, ◌≤◌, ◌<◌, List, arith, length, refl, slice_get, slice_index_or, subst, sym}
use Rattle.std.proofs.Common.{zero-add}
use Rattle.std.proofs.Math.ListN.{drop_of_length-le}
use Rattle.txc_txn_check.specs.Limits.{CheckedView}
use Rattle.txc_txn_check.specs.Steps.{Fits}
use Rattle.txc_table.specs.Table.{TableView, decls_of}
use Rattle.txc_table.specs.Outcome.{IsTransacted}
use Rattle.txc_cmd_report.specs.declared.seat_end.SeatEnd.TheVariants.{Finished, Stalled, Stopped}
use Rattle.txc_table_seat.specs.Seated.{SeatCommits, no_commits}
use Rattle.txc_cmd_threads.specs.Serves.{Serves}
use Rattle.txc_cmd_threads.proofs.FinalTries.{others_then}
use Rattle.txc_cmd_threads.proofs.Serving.{ends_here, goes_on, halted, retried, serves_then, was_kept}
use Rattle.txc_cmd_threads.proofs.final_tries.resume.Goals as goal

pub attempt-after-requires : goal.attempt-after-requires
attempt-after-requires g c =
    let there = subst (λ n. c.args.at < n) (sym c.loop-next.invariant.1.many) c.requires.there in
    let fits = subst (λ (t : TableView). Fits (slice_get t.kinds) c.index-plans-next.result.steps)
    (sym c.loop-next.invariant.0)
    (subst (λ (p : CheckedView). Fits (slice_get c.args.idle.table.kinds) p.steps) (sym c.index-plans-next.is)
    (c.requires.fits c.loop-next.next c.index-plans-next.result c.loop-next-test.true)) in
    record { there = there; fits = fits }

pub returns-in-Ok-Retry-clause-serves : goal.returns-in-Ok-Retry-clause-serves
returns-in-Ok-Retry-clause-serves g c d =
    let lines = (decls_of c.args.idle.table.lines) in
    let before : SeatCommits = (slice_index_or c.loop-next.idle.left c.args.at d).commits in
    let after : SeatCommits = (slice_index_or c.attempt-after.result.0.left c.args.at d).commits in
    let tried : IsTransacted (λ t. t) lines c.index-plans-next.result before c.attempt-after.result.1 after =
    subst (λ (t : TableView). IsTransacted (λ t. t)
    (decls_of t.lines) c.index-plans-next.result before c.attempt-after.result.1
    after) c.loop-next.invariant.0 (c.attempt-after.ensures.tried d) in
    let also = rw c.in-Ok-Retry.is at c.in-Ok-Retry.field-0-is in
    let ended = retried (λ t. t) lines c.index-plans-next.result before c.attempt-after.result.1 after tried
    c.in-Ok-Retry.field-0 c.in-Ok-Retry.cause c.in-Ok-Retry.is also in
    c.loop-next.invariant.2 d after (Stalled c.in-Ok-Retry.cause)
    (ends_here lines c.args.plans.now c.loop-next.next c.index-plans-next.result before after
    (Stalled c.in-Ok-Retry.cause) c.loop-next-test.true c.index-plans-next.is ended.0 ended.1)

pub returns-in-Err-clause-serves : goal.returns-in-Err-clause-serves
returns-in-Err-clause-serves g c d =
    let lines = (decls_of c.args.idle.table.lines) in
    let before : SeatCommits = (slice_index_or c.loop-next.idle.left c.args.at d).commits in
    let after : SeatCommits = (slice_index_or c.attempt-after.result.0.left c.args.at d).commits in
    let tried : IsTransacted (λ t. t) lines c.index-plans-next.result before c.attempt-after.result.1 after =
    subst (λ (t : TableView). IsTransacted (λ t. t)
    (decls_of t.lines) c.index-plans-next.result before c.attempt-after.result.1
    after) c.loop-next.invariant.0 (c.attempt-after.ensures.tried d) in
    let ended = halted (λ t. t) lines c.index-plans-next.result before c.attempt-after.result.1 after tried
    c.in-Err.stop c.in-Err.is in
    c.loop-next.invariant.2 d after (Stopped c.in-Err.stop)
    (ends_here lines c.args.plans.now c.loop-next.next c.index-plans-next.result before after
    (Stopped c.in-Err.stop) c.loop-next-test.true c.index-plans-next.is ended.0 ended.1)

pub loop-next-preserved : goal.loop-next-preserved
loop-next-preserved g c = (
  c.attempt-after.ensures.table ∙ c.loop-next.invariant.0,
  others_then c.args.at _ _ _ c.loop-next.invariant.1 c.attempt-after.ensures.others,
  λ d last end rest.
      let lines = (decls_of c.args.idle.table.lines) in
      let before : SeatCommits = (slice_index_or c.loop-next.idle.left c.args.at d).commits in
      let after : SeatCommits = (slice_index_or c.attempt-after.result.0.left c.args.at d).commits in
      let tried : IsTransacted (λ t. t) lines c.index-plans-next.result before c.attempt-after.result.1 after =
      subst (λ (t : TableView). IsTransacted (λ t. t)
      (decls_of t.lines) c.index-plans-next.result before c.attempt-after.result.1
      after) c.loop-next.invariant.0 (c.attempt-after.ensures.tried d) in
      let also = rw c.in-Ok-Kept.is at c.in-Ok-Kept.field-0-is in
      let ended = was_kept (λ t. t) lines c.index-plans-next.result before c.attempt-after.result.1 after tried
      c.in-Ok-Kept.field-0 c.in-Ok-Kept.field-0-0 c.in-Ok-Kept.is also in
      c.loop-next.invariant.2 d last end
      (goes_on lines c.args.plans.now c.loop-next.next c.index-plans-next.result before after last end
      c.loop-next-test.true c.index-plans-next.is ended.0 ended.1 ended.2 rest),
)

pub returns-clause-serves : goal.returns-clause-serves
returns-clause-serves g c d =
    let seat : SeatCommits = (slice_index_or c.loop-next.idle.left c.args.at d).commits in
    let past : length c.args.plans.now ≤ c.loop-next.next = omega (arith, c.loop-next-test.false) in
    c.loop-next.invariant.2 d seat Finished
    (subst (λ (ps : List CheckedView). Serves (decls_of c.args.idle.table.lines) ps seat seat Finished)
    (sym (drop_of_length-le c.args.plans.now past)) (refl, refl))

pub loop-next-init : goal.loop-next-init
loop-next-init g c = (
  refl,
  record { many = refl; same = λ k d other. refl },
  λ d after end rest. serves_then (decls_of c.args.idle.table.lines) c.args.plans.now (no_commits c.args.at)
      (slice_index_or c.args.idle.left c.args.at d).commits after c.requires.stalled.0 end (c.requires.stalled.1 d)
      c.count-first.result (sym (c.count-first.ensures d) ∙ sym (zero-add c.count-first.result)) rest,
)
