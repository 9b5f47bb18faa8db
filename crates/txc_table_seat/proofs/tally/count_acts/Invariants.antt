use Rattle.std.proofs.Common.{drop}
use Rattle.txc_table_seat.proofs.Counting.{Counts}
use Rattle.txc_table_seat.proofs.tally.count_acts.Given as goal

abbrev pub invariant-loop-deed : goal.invariant-loop-deed
invariant-loop-deed l = Counts l.initial.tallies l.acts l.tallies (drop l.deed-index l.acts)
