use Rattle.txc_txn.specs.Maps.{kinds_of}
use Rattle.txc_txn.specs.Plain.{chan_in}
use Rattle.txc_txn.proofs.LogView.{kind_at}
use Rattle.txc_txn.proofs.plain.Plain.show_fits.Goals as goal

pub returns-clause-fits : goal.returns-clause-fits
returns-clause-fits g c = c.show_fits.ensures.others (kinds_of (chan_in c.args.self.now)) c.requires.fits
    (λ n is. (kind_at c.args.self.now c.args.kinds.now n c.requires.kinds
    (c.show_fits.ensures.there c.requires.fits n is)).0)

pub returns-clause-held : goal.returns-clause-held
returns-clause-held g c n is =
    (kind_at c.args.self.now c.args.kinds.now n c.requires.kinds (c.show_fits.ensures.there c.requires.fits n is)).1
