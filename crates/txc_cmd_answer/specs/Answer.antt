-- The answer of the program: its whole output and its exit status.
use Rattle.std.specs.Prelude.{◌≡◌, ◌≢◌, ◌⊎◌, ℕ, Bool, true, false, List, ◌++◌, length, take, codes, Option, Some, None}
use Rattle.std.specs.Prelude.{IfSome, Result, Ok, Err, if◌then◌else◌}
use Rattle.std.specs.Fmt.{decimal}
use Rattle.std.specs.List.{list_any}
use Rattle.std.specs.Io.KnownBytes.{Appends}
use Rattle.txc_cmd_answer.specs.declared.answer.Answer.{Answer as Made}
use Rattle.txc_cmd_script.specs.declared.fault.ScriptFault.{ScriptFault}
use Rattle.txc_cmd_script.specs.declared.fault.ScriptFault.TheVariants.{ReadFailed, NoMemory}
use Rattle.txc_cmd_report.specs.declared.seat_end.SeatEnd.{SeatEnd}
use Rattle.txc_cmd_io.specs.declared.words.Action.{Action}
use Rattle.txc_cmd_io.specs.declared.words.Action.TheVariants.{Check, Replay, Explore, Run}
use Rattle.txc_cmd_io.specs.declared.words.ArgsFault.{ArgsFault}
use Rattle.txc_cmd_io.specs.declared.words.ArgsFault.TheVariants.{Usage}
use Rattle.txc_cmd_io.specs.declared.words.ArgsFault.TheVariants as args_fault
use Rattle.txc_cmd_report.specs.Line.{bytes_of, fault_text}
use Rattle.txc_cmd_report.specs.Outcome.{Outcome}
use Rattle.txc_cmd_script.specs.Reading.{script_in}
use Rattle.txc_cmd_replay.specs.Rounds.{rounds, transaction_count}
use Rattle.txc_cmd_script.specs.Script.{Script}
use Rattle.txc_cmd_explore.specs.declared.found_end.FoundEnd.{FoundEnd}
use Rattle.txc_cmd_explore.specs.Ends.{IsExplored}
use Rattle.txc_cmd_explore.specs.Text.{explored_status, explored_text}
use Rattle.txc_cmd_report.specs.Text.{is_stopped, is_stalled, text_of}

-- the program's whole output, and its exit status
pub record Answer : Type 0 where
  pub text : List ℕ
  pub status : ℕ

-- the answer to words that are not a command of the program
abbrev pub usage : Answer
usage = record { text = codes "usage: chanrun check|replay|run < script\n"; status = 2 }

-- the answer to a fault
abbrev pub faulty : ScriptFault → Answer
faulty fault = record { text = fault_text fault; status = 1 }

-- the line of a valid script with these numbers of channels, seats and transactions
abbrev pub ok_text : ℕ → ℕ → ℕ → List ℕ
ok_text channels seats transactions =
    codes "ok " ++ decimal channels ++ codes " channels " ++ decimal seats ++ codes " seats " ++ decimal transactions
    ++ codes " transactions\n"

-- the answer to words that request nothing
abbrev pub refused_by : ArgsFault → Answer
refused_by Usage = usage
refused_by args_fault.NoMemory = faulty NoMemory

-- the answer to `check`
abbrev pub checked : Result Script ScriptFault → Answer
checked (Ok script) = record {
  text = ok_text (length script.decls) (length script.seats)
      (transaction_count script.seats);
  status = 0;
}
checked (Err fault) = faulty fault

-- the status for how the seats ended
abbrev pub status_of : List SeatEnd → ℕ
status_of ends = if list_any is_stopped ends then 1 else if list_any is_stalled ends then 3 else 0

-- the report of an outcome, with its status
abbrev pub reported : Outcome → Answer
reported outcome = record { text = text_of outcome; status = status_of outcome.ends }

-- the answer to `replay`
abbrev pub replayed : Result Script ScriptFault → Answer
replayed (Ok script) = reported (rounds script)
replayed (Err fault) = faulty fault

-- the answer to `explore` of a script with too many orders
abbrev pub too_many : Answer
too_many = record { text = codes "fault: too many orders\n"; status = 1 }

-- a possible answer to `explore` of a valid script: the ends of all its orders, or that there are too many orders
abbrev pub ComesOfAll : Script → Answer → Type 0
ComesOfAll script answer =
    ((found : List FoundEnd) × IsExplored script found
    × (answer ≡ record { text = explored_text found; status = explored_status found }))
    ⊎ (answer ≡ too_many)

-- a possible answer to `explore`
abbrev pub MayExplore : Result Script ScriptFault → Answer → Type 0
MayExplore (Ok script) answer = ComesOfAll script answer
MayExplore (Err fault) answer = answer ≡ faulty fault

-- a possible answer to a request and a script's text, by what is a possible answer to `run`
abbrev pub AnswersBy : (Result Script ScriptFault → Answer → Type 0) → Option Action → List ℕ → Answer → Type 0
AnswersBy MayRun None bytes answer = answer ≡ usage
AnswersBy MayRun (Some Check) bytes answer = answer ≡ checked (script_in bytes)
AnswersBy MayRun (Some Replay) bytes answer = answer ≡ replayed (script_in bytes)
AnswersBy MayRun (Some Explore) bytes answer = MayExplore (script_in bytes) answer
AnswersBy MayRun (Some Run) bytes answer = MayRun (script_in bytes) answer

-- the answer that a value represents
abbrev pub answer_of : Made → Answer
answer_of made = record { text = bytes_of made.text; status = made.status }

-- a possible answer to a request and a reader's bytes, if known; failed allocations and reads cannot be predicted
pub record MayAnswerBy (MayRun : Result Script ScriptFault → Answer → Type 0) (asked : Option Action)
    (known : Option (List ℕ)) (answer : Answer) : Type 0 where
  pub refused : asked ≡ None → answer ≢ faulty NoMemory → answer ≡ usage
  pub answers : answer ≢ faulty NoMemory → answer ≢ faulty ReadFailed
      → IfSome known (λ bytes. AnswersBy MayRun asked bytes answer)

-- a status after an answer was written: that of the answer, after the whole text and a flush, or 1 after a failure.
-- Whether the writer was flushed, and whether it failed, are facts about the writer
abbrev pub IsWritten : Answer → Option (List ℕ) → Option (List ℕ) → Type 0 → Type 0 → ℕ → Type 0
IsWritten answer before after Flushed Failed status =
    (Appends before after answer.text × Flushed × (status ≡ answer.status)) ⊎ (Failed × (status ≡ 1))

-- a run of a program, by the request, the reader's bytes before, the writer's before and after, and the status
pub record IsAnsweredBy (MayRun : Result Script ScriptFault → Answer → Type 0) (asked : Option Action)
    (known before after : Option (List ℕ)) (Flushed Failed : Type 0) (status : ℕ) : Type 0 where
  pub answer : Answer
  pub may : MayAnswerBy MayRun asked known answer
  pub part : (n : ℕ) × Appends before after (take n answer.text)
  pub written : IsWritten answer before after Flushed Failed status

-- a run that wrote an answer completely, with its status
pub record WroteWholeBy (MayRun : Result Script ScriptFault → Answer → Type 0) (asked : Option Action)
    (known before after : Option (List ℕ)) (status : ℕ) : Type 0 where
  pub answer : Answer
  pub may : MayAnswerBy MayRun asked known answer
  pub whole : Appends before after answer.text
  pub ends : status ≡ answer.status

-- `run` has no possible answer
abbrev pub NoRun : Result Script ScriptFault → Answer → Type 0
NoRun script answer = ⊥

-- the request to a program without threads, which has no `run`
abbrev pub without_run : Option Action → Option Action
without_run None = None
without_run (Some Check) = Some Check
without_run (Some Replay) = Some Replay
without_run (Some Explore) = Some Explore
without_run (Some Run) = None
