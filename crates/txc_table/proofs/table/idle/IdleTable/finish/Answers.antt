use Rattle.std.proofs.Common.{◌≡◌, ◌∙◌, List, length, refl, subst, sym}
use Rattle.txc_table_line.specs.LineChan.{LineChanView}
use Rattle.txc_table_lines.specs.Accounted.{AreAccounts}
use Rattle.txc_table_lines.specs.Locked.{helds_of, lines_of}
use Rattle.txc_table.specs.Closing.{IsConsistentReport}
use Rattle.txc_table.specs.Finished.{IsFinished}
use Rattle.txc_table.specs.IdleTableView.{IdleTableView}
use Rattle.txc_table.specs.Table.{line_decls, decls_of}
use Rattle.txc_table.proofs.Reporting.{as_many_kinds, finished, lines_long}
use Rattle.txc_table.proofs.table.idle.IdleTable.finish.Goals as goal

pub returns-clause-finished : goal.returns-clause-finished
returns-clause-finished g c =
    subst (λ (i : IdleTableView). IsFinished i.table i.left c.report.result) c.self.view_is
    (finished _ _ c.self.inside.left.items c.report.result refl c.self.invariant.tabled
    (subst (λ (cs : List LineChanView). IsConsistentReport (lines_of cs) c.self.inside.locked.table_seats.seats
    c.self.inside.left.items
    c.report.result) c.buffers_for.ensures.same c.report.ensures.standing))

pub returns-clause-accounts : goal.returns-clause-accounts
returns-clause-accounts g c =
    let channels : List LineChanView = c.self.inside.locked.lines in
    let many : length channels ≡ length c.self.inside.locked.kinds =
    sym (lines_long channels)
    ∙ as_many_kinds (lines_of channels) c.self.inside.locked.kinds c.self.invariant.tabled.declared in
    subst (λ (i : IdleTableView). AreAccounts (decls_of i.table.lines) i.helds
    (length i.table.kinds) c.report.result.accounts)
    c.self.view_is
    (subst (λ n. AreAccounts (line_decls (lines_of channels)) (helds_of channels) n c.report.result.accounts) many
    (subst (λ (cs : List LineChanView). AreAccounts (line_decls (lines_of cs)) (helds_of cs) (length cs)
    c.report.result.accounts) c.buffers_for.ensures.same c.report.ensures.accounts))
