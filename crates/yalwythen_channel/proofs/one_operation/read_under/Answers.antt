use Rattle.std.proofs.Common.{None, Ok, Err}
use Rattle.txc_base.specs.declared.cause.Cause.TheVariants.{Empty}
use Rattle.txc_base.specs.declared.op.Op.TheVariants.{Read}
use Rattle.txc_base.specs.declared.reply.Reply.TheVariants.{Got}
use Rattle.txc_base.specs.declared.stop.Stop.TheVariants.{NoMemory}
use Rattle.txc_base.specs.Operation.{operate}
use Rattle.txc_chan.specs.declared.answer.Answer.TheVariants.{Replied, Retry}
use Rattle.yalwythen_channel.proofs.AtOnce.{left_ends, waits_ends}
use Rattle.yalwythen_channel.proofs.OneOperation.{memory_so}
use Rattle.yalwythen_channel.proofs.one_operation.read_under.Goals as goal

pub returns-in-Ok-Done : goal.returns-in-Ok-Done
returns-in-Ok-Done g c = let is = c.in-Ok-Done.field-0-is in record {
  ended = Ok (Replied (Got c.commit_take.new.to));
  ends = left_ends c.args.tag (operate c.args.chan.now.logged.channel c.args.tag.seat None (Read 0 0))
      (Got c.commit_take.new.to) c.args.chan.now.logged c.commit_take.new.self.logged (c.in-Ok-Done.ensures.done is)
      (c.in-Ok-Done.ensures.settled is).0 (c.in-Ok-Done.ensures.settled is).1;
  answered = λ j. record { code = c.call_result.ensures.code j; value = c.call_result.ensures.value j };
}

pub returns-in-Ok-Waits : goal.returns-in-Ok-Waits
returns-in-Ok-Waits g c = let is = c.in-Ok-Waits.field-0-is in record {
  ended = Ok (Retry Empty);
  ends = waits_ends c.args.tag (operate c.args.chan.now.logged.channel c.args.tag.seat None (Read 0 0))
      Empty c.args.chan.now.logged c.commit_take.new.self.logged (c.in-Ok-Waits.ensures.waits is)
      (c.in-Ok-Waits.ensures.same (λ no. cc));
  answered = λ j. record {
    code = c.call_result-in-Ok-Waits.ensures.code j;
    value = c.call_result-in-Ok-Waits.ensures.value j;
  };
}

pub returns-in-Err-NoMemory : goal.returns-in-Err-NoMemory
returns-in-Err-NoMemory g c = record {
  ended = Err NoMemory;
  ends = memory_so c.args.tag (operate c.args.chan.now.logged.channel c.args.tag.seat None (Read 0 0))
      c.args.chan.now.logged c.commit_take.new.self.logged c.in-Err-NoMemory.ensures.unchanged;
  answered = λ j. record {
    code = c.call_result-in-Err-NoMemory.ensures.code j;
    value = c.call_result-in-Err-NoMemory.ensures.value j;
  };
}
