use Rattle.std.proofs.Common.{◌≡◌, ◌++◌, string_bytes, drop}
use Rattle.txc_cmd_report.specs.Text.{accounts_text}
use Rattle.txc_cmd_report.proofs.report.push_accounts.Given as goal

abbrev pub invariant-loop-chan : goal.invariant-loop-chan
invariant-loop-chan l = string_bytes l.text ++ accounts_text l.chan (drop l.chan l.accounts)
    ≡ string_bytes l.initial.text ++ accounts_text 0 l.accounts
