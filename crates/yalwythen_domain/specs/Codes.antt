-- The results of a check and of a replay, for callers in other languages.
use Rattle.std.specs.Prelude.{ℕ, Result, Ok, Err, List, length, nat_lt, if◌then◌else◌}
use Rattle.txc_cmd_script.specs.declared.fault.ScriptFault.{ScriptFault}
use Rattle.txc_cmd_script.specs.Fault.{script_fault_code}
use Rattle.txc_cmd_script.specs.Script.{Script}
use Rattle.txc_cmd_report.specs.Text.{text_of}
use Rattle.txc_cmd_replay.specs.Rounds.{rounds}
use Rattle.yalwythen_domain.specs.declared.script.ReplayResult.{ReplayResult}
use Rattle.yalwythen_domain.specs.Opening.{has_broadcast}

-- 0 for a script, otherwise the number of its fault
abbrev pub code_in : {A : Type 0} → Result A ScriptFault → ℕ
code_in (Ok _) = 0
code_in (Err fault) = script_fault_code fault

-- the result for a report and this many bytes for it: its length, with 0 if it fits, otherwise with 14
abbrev pub fitted : List ℕ → ℕ → ReplayResult
fitted report room = record { code = if nat_lt room (length report) then 14 else 0; length = length report }

-- the result of a replay into this many bytes, unless an allocation failed; 13 if a channel is a broadcast
abbrev pub replayed : Result Script ScriptFault → ℕ → ReplayResult
replayed (Err fault) room = record { code = script_fault_code fault; length = 0 }
replayed (Ok script) room = if has_broadcast script.decls then record { code = 13; length = 0 }
    else fitted (text_of (rounds script)) room
