use Rattle.std.proofs.Common.{◌∙◌, sym, ap}
use Rattle.txc_table_line.specs.LineChan.{LineChanView}
use Rattle.txc_table_lines.proofs.Accounting.{snapshot_at}
use Rattle.txc_table_lines.proofs.Collecting.{clean_at}
use Rattle.txc_table_lines.proofs.Locking.{read}
use Rattle.txc_table_lines.proofs.locked_lines.LockedLines.take_snapshot.Goals as goal

pub extract-requires : goal.extract-requires
extract-requires g c =
    ap (λ (x : LineChanView). x.held.logged.pending) (sym (read _ _ _ _ _ _ c.self.view_is
    c.as_mut_slice.ensures.value c.requires.there c.in-Some.is))
    ∙ clean_at c.args.self.now c.args.at c.requires.clean c.requires.there

pub returns-clause-ok : goal.returns-clause-ok
returns-clause-ok g c =
    snapshot_at g.T.SnapshotKind.snapshot_of c.args.self.now c.args.at c.in-Some.line c.extract.result
    (read _ _ _ _ _ _ c.self.view_is c.as_mut_slice.ensures.value c.requires.there c.in-Some.is)
    c.extract.ensures.of c.extract.ensures.ok
