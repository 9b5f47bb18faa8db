use Rattle.std.proofs.Common.{refl, false, slice_get, List, [], All, arith}
use Rattle.std.proofs.lemmas.List.{get_or_default}
use Rattle.txc_txn_check.specs.Limits.{CheckedView}
use Rattle.txc_txn_check.specs.Steps.{Fits}
use Rattle.txc_table_audit.specs.ReceiptKeys.{at_seat}
use Rattle.txc_table_audit.proofs.Testing.{accepted, all_done, all_more, not_all, refused}
use Rattle.txc_table_audit.proofs.condition.all_fit.Goals as goal

pub returns-then-not-seat_fits : goal.returns-then-not-seat_fits
returns-then-not-seat_fits g c =
    let seats = g.T.Transactions.plans c.args.transactions.now in
    refused false refl (not_all
    (λ (plans : List CheckedView). All (λ plan. Fits (slice_get c.args.kinds.now) plan.steps)
    plans) seats c.loop-seat.seat
    (at_seat seats c.loop-seat.seat) (omega (arith, c.loop-seat-test.true))
    (get_or_default seats c.loop-seat.seat (at_seat seats c.loop-seat.seat) []
    (omega (arith, c.loop-seat-test.true)))
    (λ all. absurd (cc (c.seat_fits.ensures.1 all, c.if-not-seat_fits.true))))

pub loop-seat-preserved : goal.loop-seat-preserved
loop-seat-preserved g c =
    let seats = g.T.Transactions.plans c.args.transactions.now in
    all_more (λ (plans : List CheckedView). All (λ plan. Fits (slice_get c.args.kinds.now) plan.steps) plans) seats
    c.loop-seat.seat
    (at_seat seats c.loop-seat.seat) (omega (arith, c.loop-seat-test.true))
    (get_or_default seats c.loop-seat.seat (at_seat seats c.loop-seat.seat) []
    (omega (arith, c.loop-seat-test.true)))
    (c.seat_fits.ensures.0 c.if-not-seat_fits.false) c.loop-seat.invariant

pub returns : goal.returns
returns g c = accepted (all_done
    (λ (plans : List CheckedView). All (λ plan. Fits (slice_get c.args.kinds.now) plan.steps) plans)
    (g.T.Transactions.plans c.args.transactions.now) c.loop-seat.seat (omega (arith, c.loop-seat-test.false))
    c.loop-seat.invariant)
