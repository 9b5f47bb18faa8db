use Rattle.txc_cmd_report.proofs.ReportLemmas.{written, transaction_said}
use Rattle.txc_cmd_report.proofs.report.push_transaction.Goals as goal

pub returns : goal.returns
returns c = written c.write.result _ _ _ _ c.write.ensures.bytes (transaction_said c.args.seat c.args.number)
