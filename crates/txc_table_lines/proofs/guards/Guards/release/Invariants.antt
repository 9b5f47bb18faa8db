use Rattle.std.proofs.Common.{length}
use Rattle.txc_table_lines.proofs.guards.Guards.release.Given as goal

abbrev pub decreases-loop-guard : goal.decreases-loop-guard
decreases-loop-guard g l = length l.locked.items
