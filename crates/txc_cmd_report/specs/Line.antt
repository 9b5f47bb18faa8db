-- The bytes of a text, and the lines of the faults.
use Rattle.std.specs.Prelude.{ℕ, List, ◌++◌, codes, string_bytes}
use Rattle.txc_cmd_report.specs.declared.line.Text.{Text}
use Rattle.txc_cmd_report.specs.declared.line.Text.TheVariants as text
use Rattle.txc_cmd_script.specs.declared.fault.ScriptFault.{ScriptFault}
use Rattle.txc_cmd_script.specs.Fault.{script_fault_text}

-- the bytes of a text
abbrev pub bytes_of : Text → List ℕ
bytes_of (text.Fixed words) = words.now
bytes_of (text.Made string) = string_bytes string

-- the line of a fault
abbrev pub fault_text : ScriptFault → List ℕ
fault_text fault = codes "fault: " ++ script_fault_text fault ++ codes "\n"
