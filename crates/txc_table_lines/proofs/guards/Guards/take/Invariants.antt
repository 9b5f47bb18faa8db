use Rattle.std.proofs.Common.{◌≡◌, drop, take}
use Rattle.txc_txn_check.specs.Limits.{RisesFrom}
use Rattle.txc_table_lines.specs.Guards.{AreTaken}
use Rattle.txc_table_lines.proofs.guards.Guards.take.Given as goal

abbrev pub invariant-loop-number : goal.invariant-loop-number
invariant-loop-number g l = record {
  same : l.shares ≡ l.initial.shares;
  lines : l.order.lines ≡ l.initial.order.lines;
  rise : RisesFrom l.order.lowest (drop l.number-index l.declared);
  found : AreTaken l.shares (take l.number-index l.declared) l.locked.items;
}
