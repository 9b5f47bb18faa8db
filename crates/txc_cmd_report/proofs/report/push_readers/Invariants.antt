use Rattle.std.proofs.Common.{◌≡◌, ◌++◌, string_bytes, drop}
use Rattle.txc_cmd_report.specs.Text.{readers_text}
use Rattle.txc_cmd_report.proofs.report.push_readers.Given as goal

abbrev pub invariant-loop-reader : goal.invariant-loop-reader
invariant-loop-reader l = string_bytes l.text ++ readers_text l.fn.chan l.reader (drop l.reader l.lists)
    ≡ string_bytes l.initial.text ++ readers_text l.fn.chan 0 l.lists
