-- The result of an operation that cannot be done.
use Rattle.txc_base.specs.declared.cause.Cause.TheVariants as cause
use Rattle.txc_base.specs.declared.reply.Reply.TheVariants as reply
use Rattle.txc_chan.specs.declared.answer.Answer.{Answer}
use Rattle.txc_chan.specs.declared.answer.Answer.TheVariants.{Replied, Retry}
use Rattle.txc_chan.specs.declared.mode.Mode.{Mode}
use Rattle.txc_chan.specs.declared.mode.Mode.TheVariants.{Blocking, Try}

-- the result at the bound (stm, stm-chans)
abbrev pub at_bound : Mode → Answer
at_bound Blocking = Retry cause.Full
at_bound Try = Replied reply.Full

-- the result if an open channel has nothing to read (stm, stm-chans)
abbrev pub at_end : Mode → Answer
at_end Blocking = Retry cause.Empty
at_end Try = Replied reply.Empty
