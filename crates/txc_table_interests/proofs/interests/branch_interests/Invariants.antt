use Rattle.std.proofs.Common.{◌≡◌, ◌≤◌, ◌++◌, slice_get, option_map, drop, length}
use Rattle.txc_txn_check.specs.Limits.{max_declared}
use Rattle.txc_table_interests.specs.Interests.{branch_interests}
use Rattle.txc_table_interests.proofs.interests.branch_interests.Given as goal

abbrev pub invariant-loop-branch : goal.invariant-loop-branch
invariant-loop-branch l = record {
  few : length l.interests.items ≤ max_declared;
  so_far : branch_interests (slice_get l.kinds) l.branches
      ≡ option_map (λ interests. l.interests.items ++ interests)
      (branch_interests (slice_get l.kinds) (drop l.branch-index l.branches));
}
