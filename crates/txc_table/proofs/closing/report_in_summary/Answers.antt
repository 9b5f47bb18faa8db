use Rattle.std.proofs.Common.{◌≡◌, ◌∙◌, List, length, subst, sym}
use Rattle.txc_chan.specs.declared.decl.Decl.{Decl}
use Rattle.txc_table_line.specs.LineChan.{LineChanView}
use Rattle.txc_table_lines.specs.Accounted.{AreAccounts}
use Rattle.txc_table_lines.specs.Locked.{helds_of, lines_of}
use Rattle.txc_table.specs.Closing.{IsConsistentReport, receipts_of}
use Rattle.txc_table.specs.Table.{line_decls}
use Rattle.txc_table.proofs.Reporting.{declared_in}
use Rattle.txc_table.proofs.closing.report_in_summary.Goals as goal

pub returns-in-Ok-summaries-clause-ok : goal.returns-in-Ok-summaries-clause-ok
returns-in-Ok-summaries-clause-ok g c =
    let channels : List LineChanView = c.empty_shares.new.self in
    let briefs = c.in-Ok-summaries.ensures.ok in
    let same : c.summaries.new.self ≡ channels = c.in-Ok-summaries.ensures.same in
    let are : AreAccounts (line_decls (lines_of c.summaries.new.self)) (helds_of c.summaries.new.self)
    (length c.summaries.new.self) briefs.accounts =
    subst (λ (cs : List LineChanView). AreAccounts (line_decls (lines_of cs)) (helds_of cs) (length cs)
    briefs.accounts) (sym same)
    (subst (λ (ds : List Decl). AreAccounts ds (helds_of channels) (length channels) briefs.accounts)
    (declared_in channels) briefs.are) in
    record {
      report = record { accounts = briefs.accounts; receipts = receipts_of c.close.new.histories.items };
      standing = subst (λ (cs : List LineChanView). IsConsistentReport (lines_of cs) c.args.table_seats.now.seats
          c.args.left.items
          (record { accounts = briefs.accounts; receipts = receipts_of c.close.new.histories.items }))
          (same ∙ c.empty_shares.ensures.same) (c.close.ensures.report briefs.accounts are);
      summarized = briefs.summarized;
    }
