use Rattle.std.proofs.Common.{rules, ◌<◌, ◌∙◌}
use Rattle.txc_txn.specs.Maps.{kinds_of}
use Rattle.txc_txn_tests.specs.Borrowed.{two_in}
use Rattle.txc_txn_tests.proofs.Pairs.{kind_of_two}
use Rattle.txc_txn_tests.proofs.borrowed.moved.Goals as goal

pub run_held-requires-clause-fits : goal.run_held-requires-clause-fits
run_held-requires-clause-fits g c =
    let fits = rw c.expect-checked.ensures at c.check.ensures.fits in
    c.show_fits.ensures.others (kinds_of (two_in c.args.pair.now.first.now c.args.pair.now.second.now)) fits
    (λ n is. let lt : n < 2 = c.show_fits.ensures.there fits n is in
    kind_of_two c.args.pair.now.first.now c.args.pair.now.second.now n lt ∙ search rules)

pub run_held-requires-clause-held : goal.run_held-requires-clause-held
run_held-requires-clause-held g c n is =
    let fits = rw c.expect-checked.ensures at c.check.ensures.fits in
    c.show_fits.ensures.there fits n is
