-- The answer of the program, including the answer to `run`.
use Rattle.std.specs.Prelude.{◌≡◌, ◌⊎◌, ℕ, List, ◌++◌, codes, Option, Result, Ok, Err}
use Rattle.std.specs.Fmt.{decimal}
use Rattle.txc_cmd_script.specs.declared.fault.ScriptFault.{ScriptFault}
use Rattle.txc_cmd_io.specs.declared.words.Action.{Action}
use Rattle.txc_cmd_answer.specs.Answer.{Answer, faulty, reported}
use Rattle.txc_cmd_answer.specs.Answer.{AnswersBy, IsAnsweredBy, WroteWholeBy}
use Rattle.txc_cmd_report.specs.declared.outcome.Outcome.{Outcome as Ran}
use Rattle.txc_cmd_report.specs.Outcome.{outcome_of}
use Rattle.txc_cmd_script.specs.Script.{Script}
use Rattle.txc_cmd_threads.specs.declared.run_fault.RunFault.{RunFault}
use Rattle.txc_cmd_threads.specs.declared.run_fault.RunFault.TheVariants as run
use Rattle.txc_cmd_threads.specs.Ran.{IsRan, IsNotTorn}
use Rattle.txc_cmd.specs.InOrder.{IsOfSomeOrder}
use Rattle.txc_cmd_io.specs.Words.{action_in}

-- the line of a torn act
abbrev pub torn_text : ℕ → ℕ → ℕ → List ℕ
torn_text seat chan place = codes "fault: torn at seat " ++ decimal seat ++ codes " chan " ++ decimal chan
    ++ codes " place " ++ decimal place ++ codes "\n"

-- the line of a fault of the threads
abbrev pub run_fault_text : RunFault → List ℕ
run_fault_text run.NoThread = codes "fault: no thread\n"
run_fault_text (run.Torn seat chan place report) = torn_text seat chan place
run_fault_text run.NoMemory = codes "fault: no memory\n"

-- the answer to a fault of the threads
abbrev pub failed : RunFault → Answer
failed fault = record { text = run_fault_text fault; status = 1 }

-- a possible answer to `run` of a valid script: the report of its outcome in some order, or the line of a fault
abbrev pub ComesOf : Script → Answer → Type 0
ComesOf script answer =
    ((outcome : Ran) × IsRan script.decls script.seats outcome × IsOfSomeOrder script (outcome_of outcome)
    × (answer ≡ reported (outcome_of outcome)))
    ⊎ ((fault : RunFault) × IsNotTorn fault × (answer ≡ failed fault))

-- a possible answer to `run`
abbrev pub MayRun : Result Script ScriptFault → Answer → Type 0
MayRun (Ok script) answer = ComesOf script answer
MayRun (Err fault) answer = answer ≡ faulty fault

-- a possible answer to an action, or to words that are no action, and a script's text
abbrev pub AnswersTo : Option Action → List ℕ → Answer → Type 0
AnswersTo asked bytes answer = AnswersBy MayRun asked bytes answer

-- a run of the program, by its words, the reader's bytes before, the writer's before and after, whether the writer was
-- flushed and whether it failed, and the status
abbrev pub IsAnswered : List (List ℕ) → Option (List ℕ) → Option (List ℕ) → Option (List ℕ) → Type 0 → Type 0 → ℕ
    → Type 0
IsAnswered words known before after Flushed Failed status =
    IsAnsweredBy MayRun (action_in words) known before after Flushed Failed status

-- a run that wrote the whole of an answer, with its status
abbrev pub WroteWhole : List (List ℕ) → Option (List ℕ) → Option (List ℕ) → Option (List ℕ) → ℕ → Type 0
WroteWhole words known before after status = WroteWholeBy MayRun (action_in words) known before after status
