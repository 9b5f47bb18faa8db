use Rattle.std.proofs.lemmas.Result.{IfOk-weaker}
use Rattle.txc_cmd_answer.proofs.AnswerLemmas.{may_answer, may_fault}
use Rattle.txc_cmd_answer.specs.Answer.{answer_of}
use Rattle.txc_cmd.specs.Answer.{MayRun}
use Rattle.txc_cmd.proofs.program.find_answer.Goals as goal

pub returns-in-Ok-clause-may : goal.returns-in-Ok-clause-may
returns-in-Ok-clause-may g c = IfOk-weaker c.make_answer.result _ _ (λ a is.
    may_answer MayRun _ (answer_of a) c.args.action c.in-Ok.bytes.items c.in-Ok.ensures.ok.1 is)
    c.make_answer.ensures

pub returns-in-Err-clause-may : goal.returns-in-Err-clause-may
returns-in-Err-clause-may g c = IfOk-weaker c.fault_answer.result _ _ (λ a is.
    may_fault MayRun _ (answer_of a) c.args.action c.in-Err.fault (λ _ fault answer is'. is') is
    c.in-Err.ensures.only c.in-Err.ensures.too_large)
    c.fault_answer.ensures
