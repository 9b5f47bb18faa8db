use Rattle.std.proofs.Common.{subst, sym}
use Rattle.txc_table_lines.specs.Locked.{lines_of}
use Rattle.txc_table.specs.Closing.{IsConsistentSummary}
use Rattle.txc_table.proofs.Reporting.{can_close, finished_in_brief}
use Rattle.txc_table.proofs.table.Table.into_summaries.Goals as goal

pub report_in_summary-requires : goal.report_in_summary-requires
report_in_summary-requires g c = record {
  can = can_close c.args.self _ c.lock-locked.result.lines c.args.left.items c.lock-locked.ensures.same
      c.lock-locked.ensures.tabled c.lock-locked.ensures.clean c.requires;
}

pub returns-in-Ok-report_in_summary-clause-finished : goal.returns-in-Ok-report_in_summary-clause-finished
returns-in-Ok-report_in_summary-clause-finished g c =
    finished_in_brief _ c.args.self c.args.left.items _ (sym c.lock-locked.ensures.same) c.lock-locked.ensures.tabled
    (subst (λ bs. IsConsistentSummary (lines_of c.lock-locked.result.lines) c.lock-locked.result.table_seats.seats
    c.args.left.items bs) (sym c.from_vec.ensures) c.in-Ok-report_in_summary.ensures.ok)
