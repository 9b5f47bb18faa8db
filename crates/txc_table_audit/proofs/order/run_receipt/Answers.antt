use Rattle.std.proofs.Common.{ap, arith, length, slice_get}
use Rattle.std.proofs.lemmas.Result.{IfOk-weaker}
use Rattle.txc_txn.specs.Plain.{chan_in}
use Rattle.txc_table_audit.proofs.Turning.{IsEvent, fits_at, own_is, tried_is, within}
use Rattle.txc_table_audit.proofs.order.run_receipt.Goals as goal

pub stamp_before_nth-requires : goal.stamp_before_nth-requires
stamp_before_nth-requires g c =
    let place = c.requires.key in
    omega (
      arith,
      place.nth,
      ap length
          (own_is c.args.receipts.now c.args.key.seat c.index-receipts-seat.result c.as_slice-own.result.now place.seat
          c.index-receipts-seat.is c.as_slice-own.ensures),
    )

pub transaction-plan-requires-clause-there : goal.transaction-plan-requires-clause-there
transaction-plan-requires-clause-there g c =
    (within (g.T.Transactions.plans c.args.transactions.now) c.args.receipts.now c.args.key c.requires.begun
    c.requires.key).0

pub transaction-plan-requires-clause-within : goal.transaction-plan-requires-clause-within
transaction-plan-requires-clause-within g c =
    (within (g.T.Transactions.plans c.args.transactions.now) c.args.receipts.now c.args.key c.requires.begun
    c.requires.key).1

pub bounds-own-nth : goal.bounds-own-nth
bounds-own-nth g c =
    let place = c.requires.key in
    omega (
      arith,
      place.nth,
      ap length
          (own_is c.args.receipts.now c.args.key.seat c.index-receipts-seat.result c.as_slice-own.result.now place.seat
          c.index-receipts-seat.is c.as_slice-own.ensures),
    )

pub run-requires : goal.run-requires
run-requires g c = record {
  fits = fits_at (slice_get c.args.rerun.now.kinds) (g.T.Transactions.plans c.args.transactions.now) c.args.receipts.now
      c.args.key c.transaction-plan.result.now
      c.requires.fits c.requires.begun c.requires.key c.transaction-plan.ensures;
}

pub returns-clause-same : goal.returns-clause-same
returns-clause-same g c =
    let event : IsEvent (g.T.Transactions.plans c.args.transactions.now) c.args.receipts.now c.args.key
    c.transaction-plan.result.now c.index-own-nth.result c.stamp_before_nth.result =
    tried_is (g.T.Transactions.plans c.args.transactions.now) c.args.receipts.now c.args.key
    c.index-receipts-seat.result c.as_slice-own.result.now
    c.transaction-plan.result.now c.index-own-nth.result c.stamp_before_nth.result c.requires.key
    c.index-receipts-seat.is c.as_slice-own.ensures c.transaction-plan.ensures c.index-own-nth.is
    c.stamp_before_nth.ensures in
    IfOk-weaker c.run.result _ _ (λ same is so. event.to_event (chan_in c.args.rerun.now.held)
    (chan_in c.run.new.self.held) (is so)) c.run.ensures.same

pub returns-clause-wrong : goal.returns-clause-wrong
returns-clause-wrong g c =
    let event : IsEvent (g.T.Transactions.plans c.args.transactions.now) c.args.receipts.now c.args.key
    c.transaction-plan.result.now c.index-own-nth.result c.stamp_before_nth.result =
    tried_is (g.T.Transactions.plans c.args.transactions.now) c.args.receipts.now c.args.key
    c.index-receipts-seat.result c.as_slice-own.result.now
    c.transaction-plan.result.now c.index-own-nth.result c.stamp_before_nth.result c.requires.key
    c.index-receipts-seat.is c.as_slice-own.ensures c.transaction-plan.ensures c.index-own-nth.is
    c.stamp_before_nth.ensures in
    IfOk-weaker c.run.result _ _ (λ same wrong is left h. wrong is left
    (event.from_event (chan_in c.args.rerun.now.held) left h)) c.run.ensures.wrong
