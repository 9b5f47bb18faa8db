use Rattle.std.proofs.Common.{◌≡◌, length}
use Rattle.txc_table.specs.Seat.{AreNewHistories}
use Rattle.txc_table.proofs.making.make_histories.Given as goal

abbrev pub invariant-loop-number : goal.invariant-loop-number
invariant-loop-number g l = record {
  many : length l.made.items ≡ l.number;
  new : AreNewHistories 0 l.channels l.made.items;
}
