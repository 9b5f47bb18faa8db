use Rattle.std.proofs.Common.{◌≡◌, length}
use Rattle.txc_table.proofs.making.make_drafts.Given as goal

abbrev pub invariant-loop-made : goal.invariant-loop-made
invariant-loop-made l = length l.made.items ≡ l._made
