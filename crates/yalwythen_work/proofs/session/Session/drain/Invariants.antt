use Rattle.std.proofs.Common.{ℕ}
use Rattle.yalwythen_work.specs.Drained.{AreRead}
use Rattle.yalwythen_work.proofs.session.Session.drain.Given as goal

abbrev pub invariant-loop : goal.invariant-loop
invariant-loop g l = (count : ℕ) × AreRead count l.chan l.reader l.fn.self l.self
