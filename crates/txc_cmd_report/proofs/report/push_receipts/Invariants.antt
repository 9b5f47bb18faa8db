use Rattle.std.proofs.Common.{◌≡◌, ◌++◌, string_bytes, drop}
use Rattle.txc_cmd_report.specs.Text.{receipts_text}
use Rattle.txc_cmd_report.proofs.report.push_receipts.Given as goal

abbrev pub invariant-loop-number : goal.invariant-loop-number
invariant-loop-number l = string_bytes l.text ++ receipts_text l.fn.seat l.number (drop l.number l.receipts)
    ≡ string_bytes l.initial.text ++ receipts_text l.fn.seat 0 l.receipts
