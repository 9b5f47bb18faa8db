use Rattle.txc_table_line.proofs.Counting.{line_chan_op}
use Rattle.txc_table_line.proofs.line_chan.LineChan.apply.Goals as goal

pub invariant_of-self : goal.invariant_of-self
invariant_of-self g c = (
  c.self.invariant.0,
  line_chan_op _ _ _ _ _ c.apply.new.self c.args.tag c.args.last c.args.op.now _ c.self.invariant.1
      c.apply.ensures.ok c.apply.ensures.retry c.apply.ensures.unchanged,
  c.self.invariant.2,
)
