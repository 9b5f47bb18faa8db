use Rattle.std.proofs.Common.{◌≡◌, take}
use Rattle.txc_table_interests.specs.Interests.{any_of_all}
use Rattle.txc_table_interests.proofs.interests.all_interests.Given as goal

abbrev pub invariant-loop-chan : goal.invariant-loop-chan
invariant-loop-chan l = l.interests.items ≡ any_of_all (take l.chan-index l.checked.declared)
