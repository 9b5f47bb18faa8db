use Rattle.std.proofs.Common.{◌++◌, ◌∙◌, ap}
use Rattle.txc_cmd_report.specs.Outcome.{outcome_of}
use Rattle.txc_cmd_report.specs.Text.{text_of}
use Rattle.txc_cmd_report.proofs.report.report_text.Goals as goal

pub returns-clause-ok : goal.returns-clause-ok
returns-clause-ok c = c.in_ok-push_report.ensures
    ∙ ap (λ begin. begin ++ text_of (outcome_of c.args.outcome.now)) c.new-text.ensures.bytes
