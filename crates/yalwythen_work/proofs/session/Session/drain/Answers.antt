use Rattle.std.proofs.Common.{rules, suc}
use Rattle.yalwythen_work.proofs.session.Session.drain.Goals as goal

-- src/session.rt:307:9
pub loop-preserved : goal.loop-preserved
loop-preserved g c = (suc c.loop.invariant.0, (c.loop.self, (c.in_ok-number.number, c.loop.invariant.1, search rules)))
