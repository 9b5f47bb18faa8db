use Rattle.std.proofs.Common.{refl, None, Ok, Err}
use Rattle.txc_base.specs.declared.cause.Cause.TheVariants.{Full}
use Rattle.txc_base.specs.declared.op.Op.TheVariants.{Write}
use Rattle.txc_base.specs.declared.reply.Reply.TheVariants.{Done}
use Rattle.txc_base.specs.declared.source.Source.TheVariants.{Lit}
use Rattle.txc_base.specs.declared.stop.Stop.TheVariants.{NoMemory}
use Rattle.txc_base.specs.Operation.{operate}
use Rattle.txc_chan.specs.declared.answer.Answer.TheVariants.{Replied, Retry}
use Rattle.yalwythen_channel.proofs.AtOnce.{left_ends, waits_ends}
use Rattle.yalwythen_channel.proofs.OneOperation.{memory_so}
use Rattle.yalwythen_channel.proofs.one_operation.write_under.Goals as goal

pub returns-in-Done : goal.returns-in-Done
returns-in-Done g c = record {
  ended = Ok (Replied Done);
  ends = left_ends c.args.tag (operate c.args.chan.now.logged.channel c.args.tag.seat None (Write 0 (Lit c.args.body)))
      Done c.args.chan.now.logged c.commit_write.new.self.logged (c.in-Done.ensures.done refl)
      (c.in-Done.ensures.settled refl).0 (c.in-Done.ensures.settled refl).1;
  answered = λ j. record { code = c.call_result.ensures.code j; value = c.call_result.ensures.value j };
}

pub returns-in-Waits : goal.returns-in-Waits
returns-in-Waits g c = record {
  ended = Ok (Retry Full);
  ends = waits_ends c.args.tag (operate c.args.chan.now.logged.channel c.args.tag.seat None (Write 0 (Lit c.args.body)))
      Full c.args.chan.now.logged c.commit_write.new.self.logged (c.in-Waits.ensures.waits refl)
      (c.in-Waits.ensures.same (λ is. cc));
  answered = λ j. record {
    code = c.call_result-in-Waits.ensures.code j;
    value = c.call_result-in-Waits.ensures.value j;
  };
}

pub returns-in-NoMemory : goal.returns-in-NoMemory
returns-in-NoMemory g c = record {
  ended = Err NoMemory;
  ends = memory_so c.args.tag (operate c.args.chan.now.logged.channel c.args.tag.seat None (Write 0 (Lit c.args.body)))
      c.args.chan.now.logged c.commit_write.new.self.logged (c.in-NoMemory.ensures.same (λ is. cc));
  answered = λ j. record {
    code = c.call_result-in-NoMemory.ensures.code j;
    value = c.call_result-in-NoMemory.ensures.value j;
  };
}
