use Rattle.std.proofs.Common.{sym, ap, ◌∙◌, ℕ, List}
use Rattle.txc_cmd_answer.specs.Answer.{Answer, checked}
use Rattle.txc_cmd_answer.proofs.answer.check_answer.Goals as goal

pub returns-in_ok-line-in-Ok : goal.returns-in_ok-line-in-Ok
returns-in_ok-line-in-Ok c =
    let made : List ℕ → Answer = λ text. record { text = text; status = 0 } in
    ap made c.in_ok-line-in-Ok.ensures ∙ sym (ap checked c.in-Ok.ensures.ok)
