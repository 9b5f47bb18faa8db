use Rattle.std.proofs.Common.{◌≡◌, take}
use Rattle.txc_cast.specs.Broadcast.{read_of}
use Rattle.txc_cast.proofs.cast.Cast.lists.Given as goal

abbrev pub invariant-loop-reader : goal.invariant-loop-reader
invariant-loop-reader l = l.lists.items ≡ take l.reader (read_of l.self)
