use Rattle.std.proofs.Common.{◌≡◌, ◌++◌, string_bytes, take}
use Rattle.txc_cmd_report.specs.Text.{further_text}
use Rattle.txc_cmd_report.proofs.report.push_replies.Given as goal

abbrev pub invariant-loop-reply : goal.invariant-loop-reply
invariant-loop-reply l =
    string_bytes l.text ≡ string_bytes l.initial.text ++ further_text (take l.reply-index l.further)
