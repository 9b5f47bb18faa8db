use Rattle.std.proofs.lemmas.Result.{IfOk-weaker}
use Rattle.txc_cmd.proofs.Orders.{comes_of}
use Rattle.txc_cmd_answer.specs.Answer.{answer_of}
use Rattle.txc_cmd.proofs.answer.threads_answer.Goals as goal

pub returns-in-Ok : goal.returns-in-Ok
returns-in-Ok g c =
    IfOk-weaker c.run_outcome_answer.result _ _
    (λ a is. comes_of c.args.script c.in-Ok.outcome (answer_of a) c.show.ensures c.in-Ok.ensures.ok is)
    c.run_outcome_answer.ensures
