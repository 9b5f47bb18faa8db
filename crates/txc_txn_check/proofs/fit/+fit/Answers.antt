use Rattle.std.proofs.Common.{slice_get}
use Rattle.txc_txn_check.proofs.Fitting.{every_branch}
use Rattle.txc_txn_check.proofs.fit.+fit.Goals as goal

pub fits_step-returns-in-Or : goal.fits_step-returns-in-Or
fits_step-returns-in-Or t c = every_branch (slice_get c.args.kinds.now) c.args.step.now c.in-Or.branches
    c.as_slice.result.now c.fits_branches.result c.in-Or.is c.as_slice.ensures c.fits_branches.ensures
