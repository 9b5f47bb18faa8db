use Rattle.std.proofs.Common.{All, take, slice_get}
use Rattle.txc_txn_check.specs.Steps.{Fits}
use Rattle.txc_table_audit.specs.ReceiptKeys.{at_seat}
use Rattle.txc_table_audit.proofs.condition.seat_fits.Given as goal

abbrev pub invariant-loop-number : goal.invariant-loop-number
invariant-loop-number g l = All (λ plan. Fits (slice_get l.kinds) plan.steps)
    (take l.number (at_seat (g.T.Transactions.plans l.transactions) l.seat))
