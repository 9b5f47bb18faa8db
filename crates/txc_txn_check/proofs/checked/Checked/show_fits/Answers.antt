use Rattle.std.proofs.Common.{slice_get}
use Rattle.txc_txn_check.proofs.Fitting.{fits_other, all_there}
use Rattle.txc_txn_check.proofs.checked.Checked.show_fits.Goals as goal

pub returns-clause-others : goal.returns-clause-others
returns-clause-others c others fits agree = fits_other (slice_get c.args.kinds.now) others c.args.self.now.declared
    c.args.self.now.steps agree c.show.ensures.names fits

pub returns-clause-there : goal.returns-clause-there
returns-clause-there c fits n is = all_there c.args.kinds.now c.args.self.now.steps n (c.show.ensures.named n is) fits
