use Rattle.std.proofs.Common.{None, Ok, Err}
use Rattle.txc_base.specs.Operation.{operate}
use Rattle.txc_base.specs.declared.stop.Stop.TheVariants.{NoMemory}
use Rattle.txc_chan.specs.declared.answer.Answer.TheVariants.{Replied}
use Rattle.txc_chan.specs.Committed.{reply_to}
use Rattle.yalwythen_channel.proofs.OneOperation.{committed_so, memory_so}
use Rattle.yalwythen_channel.proofs.one_operation.commit_under.Goals as goal

pub returns-in-Ok-Some : goal.returns-in-Ok-Some
returns-in-Ok-Some g c =
    let done = rw c.in-Ok-Some.field-0-is at c.in-Ok-Some.ensures.done in
    record {
      ended = Ok (Replied (reply_to c.in-Ok-Some.act));
      ends = committed_so _ _ _ _ _ done;
      answered = c.response_to_act.ensures;
    }

pub returns-in-Err : goal.returns-in-Err
returns-in-Err g c = record {
  ended = Err NoMemory;
  ends = memory_so c.args.tag (operate c.args.chan.now.logged.channel c.args.tag.seat None c.args.op.now)
      c.args.chan.now.logged _ c.in-Err.ensures.unchanged;
  answered = λ j. record { code = c.call_result.ensures.code j; value = c.call_result.ensures.value j };
}
