use Rattle.std.proofs.Common.{◌≡◌}
use Rattle.txc_table.proofs.table.Table.transact_for.Given as goal

abbrev pub invariant-loop-tries : goal.invariant-loop-tries
invariant-loop-tries g l = l.seat ≡ l.initial.seat
