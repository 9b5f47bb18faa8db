use Rattle.std.proofs.Common.{rules, string_bytes}
use Rattle.txc_cmd_report.proofs.ReportLemmas.{report_parts, when_ok}
use Rattle.txc_cmd_report.proofs.report.push_report.Goals as goal

pub returns : goal.returns
returns c = when_ok _ _ _ _ _ c.push_str.ensures.bytes (λ e.
    report_parts c.args.outcome.now (string_bytes c.args.text.now) (string_bytes c.push_seats.new.text)
    (string_bytes c.push_accounts.new.text) (string_bytes c.push_str.new.self) (search rules) (search rules)
    (search rules))
