use Rattle.std.proofs.Common.{◌-◌, ◌≤◌, length}
use Rattle.txc_cmd_explore.proofs.seen.Seen.new.Given as goal

abbrev pub invariant-loop-buckets : goal.invariant-loop-buckets
invariant-loop-buckets l = length l.buckets.items ≤ 65536

abbrev pub decreases-loop-buckets : goal.decreases-loop-buckets
decreases-loop-buckets l = 65536 - length l.buckets.items
