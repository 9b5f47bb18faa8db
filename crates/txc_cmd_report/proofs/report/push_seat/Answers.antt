use Rattle.std.proofs.Common.{refl}
use Rattle.txc_cmd_report.proofs.ReportLemmas.{said_then}
use Rattle.txc_cmd_report.proofs.report.push_seat.Goals as goal

pub returns : goal.returns
returns c = said_then c.push_end.result _ _ _ _ _ _ c.in_ok-push_receipts.ensures c.push_end.ensures refl
