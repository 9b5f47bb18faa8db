use Rattle.std.proofs.Common.{◌≡◌, ◌+◌, ◌*◌, drop, slice_get}
use Rattle.txc_txn_check.specs.Tally.{tally_of}
use Rattle.txc_txn_check.specs.Walk.{walk_branches, walk_steps}
use Rattle.txc_txn_check.proofs.walk.+walk.Given as goal

abbrev pub invariant-see_branches-loop-branch : goal.invariant-see_branches-loop-branch
invariant-see_branches-loop-branch l =
    walk_branches (slice_get l.kinds) l.branches l.depth (tally_of l.initial.seen)
    ≡ walk_branches (slice_get l.kinds) (drop l.branch-index l.branches) l.depth (tally_of l.seen)

abbrev pub invariant-see_steps-loop-step : goal.invariant-see_steps-loop-step
invariant-see_steps-loop-step l =
    walk_steps (slice_get l.kinds) l.steps l.depth (tally_of l.initial.seen)
    ≡ walk_steps (slice_get l.kinds) (drop l.step-index l.steps) l.depth (tally_of l.seen)

abbrev pub decreases-see_step : goal.decreases-see_step
decreases-see_step l = 3 * goal.size-see_step l

abbrev pub decreases-see_steps : goal.decreases-see_steps
decreases-see_steps l = 3 * goal.size-see_steps l + 1

abbrev pub decreases-see_branches : goal.decreases-see_branches
decreases-see_branches l = 3 * goal.size-see_branches l + 2
