use Rattle.std.proofs.Common.{◌≡◌}
use Rattle.std.specs.Arc.{arc_value}
use Rattle.txc_cast.specs.Broadcast.{unwritten}
use Rattle.txc_cast.proofs.cast.Cast.new.Given as goal

abbrev pub invariant-loop : goal.invariant-loop
invariant-loop l = l.cast ≡ unwritten l.counter (arc_value l.shelf-inside.items)
