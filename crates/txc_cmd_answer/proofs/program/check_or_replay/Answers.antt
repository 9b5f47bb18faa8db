use Rattle.std.proofs.Common.{refl}
use Rattle.txc_cmd_answer.specs.Answer.{NoRun, answer_of, without_run}
use Rattle.txc_cmd_answer.proofs.AnswerLemmas.{may_respond, unread_by, wrote_whole}
use Rattle.txc_cmd_answer.proofs.program.check_or_replay.Goals as goal

pub returns-clause-run : goal.returns-clause-run
returns-clause-run g c = record {
  answer = answer_of c.respond-answer.result;
  may = rw (← c.as_slice.ensures.value) (may_respond NoRun without_run refl _ _ (answer_of c.respond-answer.result)
      c.parse_args-request.result c.parse_args-request.ensures.ok c.parse_args-request.ensures.usage
      c.respond-answer.ensures.refused c.respond-answer.ensures.may);
  part = c.write_answer.ensures.part;
  written = c.write_answer.ensures.written;
}

pub returns-clause-whole : goal.returns-clause-whole
returns-clause-whole g c =
    wrote_whole NoRun _ _ _ _ (answer_of c.respond-answer.result) _ _ c.write_answer.result
    (rw (← c.as_slice.ensures.value) (may_respond NoRun without_run refl _ _ (answer_of c.respond-answer.result)
    c.parse_args-request.result c.parse_args-request.ensures.ok c.parse_args-request.ensures.usage
    c.respond-answer.ensures.refused c.respond-answer.ensures.may))
    c.write_answer.ensures.written

pub returns-clause-unread : goal.returns-clause-unread
returns-clause-unread g c = rw (← c.as_slice.ensures.value)
    (unread_by without_run _ c.parse_args-request.result c.parse_args-request.ensures.ok
    c.respond-answer.ensures.unread_run c.respond-answer.ensures.unread)
