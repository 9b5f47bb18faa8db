use Rattle.std.proofs.Common.{All, take, slice_get}
use Rattle.txc_txn_check.specs.Steps.{Fits}
use Rattle.txc_table_audit.proofs.condition.all_fit.Given as goal

abbrev pub invariant-loop-seat : goal.invariant-loop-seat
invariant-loop-seat g l = All (All (λ plan. Fits (slice_get l.kinds) plan.steps))
    (take l.seat (g.T.Transactions.plans l.transactions))
