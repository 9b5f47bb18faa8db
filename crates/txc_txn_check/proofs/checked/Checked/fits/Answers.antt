use Rattle.std.proofs.Common.{rules, ◌≡◌, slice_get, true}
use Rattle.txc_txn_check.specs.Steps.{fits_in, is_fit}
use Rattle.txc_txn_check.proofs.Checking.{all_from}
use Rattle.txc_txn_check.proofs.checked.Checked.fits.Goals as goal

pub returns-clause-fits : goal.returns-clause-fits
returns-clause-fits c so =
    let value : fits_in (slice_get c.args.kinds.now) c.args.self.now.steps ≡ true = search rules in
    all_from (is_fit (slice_get c.args.kinds.now)) c.args.self.now.steps value
