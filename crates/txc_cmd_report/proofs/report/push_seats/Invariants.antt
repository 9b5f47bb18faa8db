use Rattle.std.proofs.Common.{◌≡◌, ◌++◌, string_bytes, drop}
use Rattle.txc_cmd_report.specs.Text.{seats_text}
use Rattle.txc_cmd_report.proofs.report.push_seats.Given as goal

abbrev pub invariant-loop-seat : goal.invariant-loop-seat
invariant-loop-seat l = string_bytes l.text ++ seats_text l.seat (drop l.seat l.fn.receipts) (drop l.seat l.fn.ends)
    ≡ string_bytes l.initial.text ++ seats_text 0 l.fn.receipts l.fn.ends
