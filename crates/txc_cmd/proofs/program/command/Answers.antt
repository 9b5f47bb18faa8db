use Rattle.std.proofs.Common.{refl}
use Rattle.txc_cmd_answer.specs.Answer.{answer_of}
use Rattle.txc_cmd.specs.Answer.{MayRun}
use Rattle.txc_cmd_answer.proofs.AnswerLemmas.{may_respond, never_none, unread_by, wrote_whole}
use Rattle.txc_cmd.proofs.program.command.Goals as goal

pub returns-clause-run : goal.returns-clause-run
returns-clause-run g c = record {
  answer = answer_of c.respond-answer.result;
  may = rw (← c.as_slice.ensures.value) (may_respond MayRun (λ a. a) refl _ _ (answer_of c.respond-answer.result)
      c.parse_args-request.result c.parse_args-request.ensures.ok c.parse_args-request.ensures.usage
      c.respond-answer.ensures.refused c.respond-answer.ensures.may);
  part = c.write_answer.ensures.part;
  written = c.write_answer.ensures.written;
}

pub returns-clause-whole : goal.returns-clause-whole
returns-clause-whole g c =
    wrote_whole MayRun _ _ _ _ (answer_of c.respond-answer.result) _ _ c.write_answer.result
    (rw (← c.as_slice.ensures.value) (may_respond MayRun (λ a. a) refl _ _ (answer_of c.respond-answer.result)
    c.parse_args-request.result c.parse_args-request.ensures.ok c.parse_args-request.ensures.usage
    c.respond-answer.ensures.refused c.respond-answer.ensures.may))
    c.write_answer.ensures.written

pub returns-clause-unread : goal.returns-clause-unread
returns-clause-unread g c = rw (← c.as_slice.ensures.value)
    (unread_by (λ a. a) _ c.parse_args-request.result c.parse_args-request.ensures.ok
    (never_none _ c.parse_args-request.result) c.respond-answer.ensures.unread)
