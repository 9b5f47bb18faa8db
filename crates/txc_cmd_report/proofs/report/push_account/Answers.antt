use Rattle.std.proofs.Common.{◌++◌, sym, ap}
use Rattle.txc_cmd_report.specs.Text.{counts_text, readers_text}
use Rattle.txc_cmd_report.proofs.ReportLemmas.{said_then}
use Rattle.txc_cmd_report.proofs.report.push_account.Goals as goal

pub returns : goal.returns
returns c =
    said_then c.push_readers.result _ _ _ _ _ _ c.in_ok-push_counts.ensures c.push_readers.ensures
    (ap (λ lists. counts_text c.args.chan c.args.account.now ++ readers_text c.args.chan 0 lists)
    (sym c.as_slice.ensures))
