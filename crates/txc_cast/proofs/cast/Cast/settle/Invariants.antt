use Rattle.std.proofs.Common.{◌≡◌, ◌++◌, map, take, drop}
use Rattle.txc_cast.specs.Standing.{at_rest}
use Rattle.txc_cast.proofs.cast.Cast.settle.Given as goal

abbrev pub invariant-loop-cursor : goal.invariant-loop-cursor
invariant-loop-cursor l = l.cursor-items ≡ map at_rest (take l.cursor-index l.initial.cursor-items) ++ drop
    l.cursor-index l.initial.cursor-items
