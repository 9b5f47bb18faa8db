use Rattle.std.proofs.Common.{◌≡◌, ◌+◌, ◌*◌, drop, slice_get}
use Rattle.std.specs.List.{list_all}
use Rattle.txc_txn_check.specs.Steps.{fits_in}
use Rattle.txc_txn_check.proofs.fit.+fit.Given as goal

abbrev pub invariant-fits_branches-loop-branch : goal.invariant-fits_branches-loop-branch
invariant-fits_branches-loop-branch l =
    list_all (fits_in (slice_get l.kinds)) l.branches ≡ list_all (fits_in (slice_get l.kinds))
    (drop l.branch-index l.branches)

abbrev pub invariant-fits_steps-loop-step : goal.invariant-fits_steps-loop-step
invariant-fits_steps-loop-step l = fits_in (slice_get l.kinds) l.steps ≡ fits_in (slice_get l.kinds)
    (drop l.step-index l.steps)

abbrev pub decreases-fits_step : goal.decreases-fits_step
decreases-fits_step l = 3 * goal.size-fits_step l

abbrev pub decreases-fits_steps : goal.decreases-fits_steps
decreases-fits_steps l = 3 * goal.size-fits_steps l + 1

abbrev pub decreases-fits_branches : goal.decreases-fits_branches
decreases-fits_branches l = 3 * goal.size-fits_branches l + 2
