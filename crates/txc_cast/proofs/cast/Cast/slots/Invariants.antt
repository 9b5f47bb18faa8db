use Rattle.std.proofs.Common.{◌≡◌, take}
use Rattle.txc_cast.proofs.cast.Cast.slots.Given as goal

abbrev pub invariant-loop-position : goal.invariant-loop-position
invariant-loop-position l = l.slots.items ≡ take l.position l.self.slots
