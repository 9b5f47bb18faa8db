use Rattle.std.proofs.Common.{◌∙◌, ap}
use Rattle.std.proofs.lemmas.Result.{IfOk-weaker}
use Rattle.txc_cmd_answer.specs.Answer.{NoRun, answer_of, checked}
use Rattle.txc_cmd_script.specs.Reading.{script_in}
use Rattle.txc_cmd_answer.proofs.AnswerLemmas.{may_answer, may_fault}
use Rattle.txc_cmd_io.specs.declared.words.Action.TheVariants.{Check}
use Rattle.txc_cmd_answer.proofs.program.check_reader.Goals as goal

pub returns-in-Ok-clause-may : goal.returns-in-Ok-clause-may
returns-in-Ok-clause-may g c =
    IfOk-weaker c.check_answer.result _ _
    (λ a is. may_answer NoRun _ (answer_of a) Check c.in-Ok.bytes.items c.in-Ok.ensures.ok.1
    (is ∙ ap (λ bytes. checked (script_in bytes)) c.as_slice.ensures.value))
    c.check_answer.ensures

pub returns-in-Err-clause-may : goal.returns-in-Err-clause-may
returns-in-Err-clause-may g c =
    IfOk-weaker c.fault_answer.result _ _
    (λ a is. may_fault NoRun _ (answer_of a) Check c.in-Err.fault (λ e. cc) is c.in-Err.ensures.only
    c.in-Err.ensures.too_large)
    c.fault_answer.ensures
