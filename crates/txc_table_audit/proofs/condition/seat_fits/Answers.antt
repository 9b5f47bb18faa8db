use Rattle.std.proofs.Common.{◌∙◌, refl, false, sym, slice_get, arith}
use Rattle.std.proofs.lemmas.List.{get_or_default}
use Rattle.txc_txn_check.specs.Limits.{CheckedView}
use Rattle.txc_txn_check.specs.Steps.{Fits}
use Rattle.txc_table_audit.specs.ReceiptKeys.{at_seat, no_plan}
use Rattle.txc_table_audit.proofs.Testing.{accepted, all_done, all_more, not_all, refused, unfit}
use Rattle.txc_table_audit.proofs.condition.seat_fits.Goals as goal

pub returns-then-not-fits : goal.returns-then-not-fits
returns-then-not-fits g c =
    let plans = at_seat (g.T.Transactions.plans c.args.transactions.now) c.args.seat in
    let below = c.loop-number-test.true in
    refused false refl (not_all (λ (plan : CheckedView). Fits (slice_get c.args.kinds.now) plan.steps) plans
    c.loop-number.number c.transaction.result.now (omega (arith, below))
    (get_or_default plans c.loop-number.number c.transaction.result.now no_plan (omega (arith, below))
    ∙ sym c.transaction.ensures)
    (unfit (slice_get c.args.kinds.now) c.transaction.result.now.steps c.fits.result c.fits.ensures.value
    c.if-not-fits.true))

pub loop-number-preserved : goal.loop-number-preserved
loop-number-preserved g c =
    let plans = at_seat (g.T.Transactions.plans c.args.transactions.now) c.args.seat in
    let below = c.loop-number-test.true in
    all_more (λ (plan : CheckedView). Fits (slice_get c.args.kinds.now) plan.steps) plans c.loop-number.number
    c.transaction.result.now (omega (arith, below))
    (get_or_default plans c.loop-number.number c.transaction.result.now no_plan (omega (arith, below))
    ∙ sym c.transaction.ensures)
    (c.fits.ensures.fits c.if-not-fits.false) c.loop-number.invariant

pub returns : goal.returns
returns g c = accepted (all_done (λ (plan : CheckedView). Fits (slice_get c.args.kinds.now) plan.steps)
    (at_seat (g.T.Transactions.plans c.args.transactions.now) c.args.seat)
    c.loop-number.number (omega (arith, c.loop-number-test.false)) c.loop-number.invariant)
