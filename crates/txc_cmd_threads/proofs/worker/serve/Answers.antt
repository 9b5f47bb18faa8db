use Rattle.std.proofs.Common.{◌∙◌, ap}
use Rattle.txc_table.specs.Ended.{as_tried}
use Rattle.txc_table.specs.Table.{decls_of}
use Rattle.txc_table.specs.Outcome.{IsTransacted}
use Rattle.txc_table.proofs.Trying.{as_transacted}
use Rattle.txc_cmd_report.specs.declared.seat_end.SeatEnd.TheVariants as SeatEnd
use Rattle.txc_cmd_threads.proofs.Serving.{ends_here, goes_on, halted, retried, was_kept}
use Rattle.txc_cmd_threads.proofs.worker.serve.Goals as goal

pub returns-in-Ok-Stalled : goal.returns-in-Ok-Stalled
returns-in-Ok-Stalled g c =
    let decls = decls_of c.args.table.now.lines in
    let before = c.loop-plan.seat.commits in
    let after = c.transact.new.seat.commits in
    let tried : IsTransacted as_tried decls c.plan-item.result before c.transact.result after =
    as_transacted as_tried decls c.plan-item.result c.loop-plan.seat c.transact.result c.transact.new.seat
    c.transact.ensures.outcome in
    let ended = retried as_tried decls c.plan-item.result before c.transact.result after tried c.in-Ok-Stalled.field-0
    c.in-Ok-Stalled.cause c.in-Ok-Stalled.is (ap as_tried c.in-Ok-Stalled.field-0-is) in
    record {
      serves = c.loop-plan.invariant.1 after (SeatEnd.Stalled c.in-Ok-Stalled.cause)
          (ends_here decls c.args.plans.now c.loop-plan.plan-index c.plan-item.result before after
          (SeatEnd.Stalled c.in-Ok-Stalled.cause) c.loop-plan-test.true c.plan-item.is ended.0 ended.1);
      lines = c.transact.ensures.lines ∙ c.loop-plan.invariant.0;
    }

pub returns-in-Err : goal.returns-in-Err
returns-in-Err g c =
    let decls = decls_of c.args.table.now.lines in
    let before = c.loop-plan.seat.commits in
    let after = c.transact.new.seat.commits in
    let tried : IsTransacted as_tried decls c.plan-item.result before c.transact.result after =
    as_transacted as_tried decls c.plan-item.result c.loop-plan.seat c.transact.result c.transact.new.seat
    c.transact.ensures.outcome in
    let ended = halted as_tried decls c.plan-item.result before c.transact.result after tried c.in-Err.stop
    c.in-Err.is in
    record {
      serves = c.loop-plan.invariant.1 after (SeatEnd.Stopped c.in-Err.stop)
          (ends_here decls c.args.plans.now c.loop-plan.plan-index c.plan-item.result before after
          (SeatEnd.Stopped c.in-Err.stop) c.loop-plan-test.true c.plan-item.is ended.0 ended.1);
      lines = c.transact.ensures.lines ∙ c.loop-plan.invariant.0;
    }

pub loop-plan-preserved : goal.loop-plan-preserved
loop-plan-preserved g c = (
  c.transact.ensures.lines ∙ c.loop-plan.invariant.0,
  λ last end rest.
      let decls = decls_of c.args.table.now.lines in
      let before = c.loop-plan.seat.commits in
      let after = c.transact.new.seat.commits in
      let tried : IsTransacted as_tried decls c.plan-item.result before c.transact.result after =
      as_transacted as_tried decls c.plan-item.result c.loop-plan.seat c.transact.result c.transact.new.seat
      c.transact.ensures.outcome in
      let ended = was_kept as_tried decls c.plan-item.result before c.transact.result after tried
      c.in-Ok-Kept.field-0 c.in-Ok-Kept.field-0-0 c.in-Ok-Kept.is (ap as_tried c.in-Ok-Kept.field-0-is) in
      c.loop-plan.invariant.1 last end
      (goes_on decls c.args.plans.now c.loop-plan.plan-index c.plan-item.result before after last end
      c.loop-plan-test.true c.plan-item.is ended.0 ended.1 ended.2 rest),
)
