use Rattle.std.proofs.Common.{◌≡◌, ◌≢◌, ◌∙◌, All, List, ap, length, map, subst, sym}
use Rattle.std.proofs.lemmas.List.{length-map}
use Rattle.txc_base.specs.declared.stop.Stop.TheVariants.{NoMemory}
use Rattle.txc_txn_check.specs.Limits.{CheckedView}
use Rattle.txc_table.specs.Finished.{IsFinished}
use Rattle.txc_table.specs.Table.{TableView, decls_of}
use Rattle.txc_table_lines.specs.Accounted.{AreAccounts}
use Rattle.txc_cmd_report.specs.declared.seat_end.SeatEnd.{SeatEnd}
use Rattle.txc_cmd_report.specs.declared.seat_end.SeatEnd.TheVariants.{Stopped}
use Rattle.txc_table.specs.Seat.{DepartedSeatView}
use Rattle.txc_cmd_threads.specs.Pool.{HaveRun, HaveServed}
use Rattle.txc_cmd_threads.specs.Stuck.{AreStuck}
use Rattle.txc_cmd_threads.proofs.closing.close.Goals as goal

pub returns-in-Ok-finish-clause-ok : goal.returns-in-Ok-finish-clause-ok
returns-in-Ok-finish-clause-ok g c =
    let retried = c.retry_stalled-idle.result in
    let seats : List (List CheckedView) = map (λ seat. seat.items) c.args.plans.now in
    let table : retried.idle.table ≡ c.args.table = c.retry_stalled-idle.ensures.table ∙ c.in-Ok.ensures.table in
    let many : length seats ≡ length c.args.plans.now = length-map c.args.plans.now (λ seat. seat.items) in
    record {
      left = retried.idle.left;
      many = c.retry_stalled-idle.ensures.left ∙ sym many;
      finished = subst (λ (t : TableView). IsFinished t retried.idle.left c.in-Ok-finish.report) table
          c.in-Ok-finish.ensures.finished;
      counted = ap (λ (es : List SeatEnd). length es) c.from_vec.ensures ∙ sym retried.ends.ok.0
          ∙ c.retry_stalled-idle.ensures.ended ∙ sym many;
      back = subst (λ (es : List SeatEnd). HaveServed (decls_of c.args.table.lines) seats retried.idle.left es)
          (sym c.from_vec.ensures)
          (subst (λ (t : TableView). HaveServed
          (decls_of t.lines) seats retried.idle.left retried.ends.items) c.in-Ok.ensures.table
          c.retry_stalled-idle.ensures.back);
      known = subst (λ (es : List SeatEnd). All (λ end. end ≢ Stopped NoMemory) es)
          (c.as_slice.ensures.value ∙ sym c.from_vec.ensures)
          (c.any_without_memory.ensures c.if-any_without_memory.false);
      helds = retried.idle.helds;
      accounts = subst (λ (t : TableView). AreAccounts (decls_of t.lines) retried.idle.helds
          (length t.kinds) c.in-Ok-finish.report.accounts)
          table c.in-Ok-finish.ensures.accounts;
      stuck = subst (λ (es : List SeatEnd). AreStuck (length seats) retried.idle.helds seats retried.idle.left es)
          (sym c.from_vec.ensures)
          (subst (λ n. AreStuck n retried.idle.helds seats retried.idle.left retried.ends.items) (sym many)
          c.retry_stalled-idle.ensures.stuck);
    }

pub retry_stalled-idle-requires-clause-served : goal.retry_stalled-idle-requires-clause-served
retry_stalled-idle-requires-clause-served g c =
    let seats : List (List CheckedView) = map (λ seat. seat.items) c.args.plans.now in
    subst (λ (t : TableView). HaveRun t seats c.in-Ok.idle.left c.args.results.ends.items) (sym c.in-Ok.ensures.table)
    (subst (λ (ls : List DepartedSeatView). HaveRun c.args.table seats ls c.args.results.ends.items)
    (sym c.in-Ok.ensures.left)
    (record { fits = c.requires.fits; back = c.requires.served }))
