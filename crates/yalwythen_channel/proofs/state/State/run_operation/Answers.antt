use Rattle.std.proofs.Common.{rules, refl, sym}
use Rattle.yalwythen_channel.proofs.OpenTransaction.{both_ok, then_on_err}
use Rattle.yalwythen_channel.proofs.state.State.run_operation.Goals as goal

pub returns-in-Ok-Done-clause-ok : goal.returns-in-Ok-Done-clause-ok
returns-in-Ok-Done-clause-ok g c = rw (sym c.self.view_is) (record {
  result = c.apply-ran.result;
  applied = c.apply-ran.ensures.applied;
  faulty = c.apply-ran.ensures.faulty;
  answered = λ known. search rules;
  memory = λ refused. absurd (c.last_reply.ensures.code refused);
  status = c.status_after-self-inside.ensures;
  marked = c.apply-ran.ensures.marked;
  goes_on = c.apply-ran.ensures.goes_on;
  saved = c.apply-ran.ensures.saved;
  rest = (c.apply-ran.ensures.rest.0, c.apply-ran.ensures.rest.1, c.apply-ran.ensures.rest.2, refl, refl, refl);
})

pub returns-in-Ok-Retry-clause-ok : goal.returns-in-Ok-Retry-clause-ok
returns-in-Ok-Retry-clause-ok g c = rw (sym c.self.view_is) (record {
  result = c.apply-ran.result;
  applied = c.apply-ran.ensures.applied;
  faulty = c.apply-ran.ensures.faulty;
  answered = λ known. search rules;
  memory = λ refused. search rules;
  status = c.status_after-self-inside.ensures;
  marked = c.apply-ran.ensures.marked;
  goes_on = c.apply-ran.ensures.goes_on;
  saved = c.apply-ran.ensures.saved;
  rest = (c.apply-ran.ensures.rest.0, c.apply-ran.ensures.rest.1, c.apply-ran.ensures.rest.2, refl, refl, refl);
})

pub returns-in-Err-clause-ok : goal.returns-in-Err-clause-ok
returns-in-Err-clause-ok g c = both_ok c.response_of_error.result _ _ _ c.response_of_error.ensures.response
    c.response_of_error.ensures.code (λ response answered code. rw (sym c.self.view_is) (record {
      result = c.apply-ran.result;
      applied = c.apply-ran.ensures.applied;
      faulty = c.apply-ran.ensures.faulty;
      answered = λ known. search rules;
      memory = λ refused. absurd (code.1 refused);
      status = c.status_after-self-inside.ensures;
      marked = c.apply-ran.ensures.marked;
      goes_on = c.apply-ran.ensures.goes_on;
      saved = c.apply-ran.ensures.saved;
      rest = (c.apply-ran.ensures.rest.0, c.apply-ran.ensures.rest.1, c.apply-ran.ensures.rest.2, refl, refl, refl);
    }))

pub returns-in-Err-clause-err : goal.returns-in-Err-clause-err
returns-in-Err-clause-err g c = then_on_err c.response_of_error.result _ _ c.response_of_error.ensures.memory
    (λ stopped. rw (sym c.self.view_is) (record {
      result = c.apply-ran.result;
      applied = c.apply-ran.ensures.applied;
      faulty = c.apply-ran.ensures.faulty;
      answered = λ known. absurd (known refl);
      memory = λ refused. search rules;
      status = c.status_after-self-inside.ensures;
      marked = c.apply-ran.ensures.marked;
      goes_on = c.apply-ran.ensures.goes_on;
      saved = c.apply-ran.ensures.saved;
      rest = (c.apply-ran.ensures.rest.0, c.apply-ran.ensures.rest.1, c.apply-ran.ensures.rest.2, refl, refl, refl);
    }))
