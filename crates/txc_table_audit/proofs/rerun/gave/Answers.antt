use Rattle.std.proofs.Common.{◌≡◌, sym, ◌∙◌}
use Rattle.txc_txn.proofs.Deciding.{decides_receipt}
use Rattle.txc_table_audit.proofs.rerun.gave.Goals as goal

pub returns-in-Ok-Kept-clause-same : goal.returns-in-Ok-Kept-clause-same
returns-in-Ok-Kept-clause-same c so =
    let same : c.in-Ok-Kept.kept ≡ c.args.receipt.now = (decides_receipt _ _).0 (sym c.eq.ensures ∙ so) in
    cc (c.in-Ok-Kept.is, c.in-Ok-Kept.field-0-is, same)

pub returns-in-Ok-Kept-clause-wrong : goal.returns-in-Ok-Kept-clause-wrong
returns-in-Ok-Kept-clause-wrong c so = (
  λ e. (let same : c.in-Ok-Kept.kept ≡ c.args.receipt.now = cc (e, c.in-Ok-Kept.is, c.in-Ok-Kept.field-0-is) in
      absurd (cc (so, c.eq.ensures, (decides_receipt _ _).1 same))),
  λ e. absurd (cc (e, c.in-Ok-Kept.is)),
)

pub returns-in-Ok-Retry-clause-same : goal.returns-in-Ok-Retry-clause-same
returns-in-Ok-Retry-clause-same c so = cc

pub returns-in-Ok-Retry-clause-wrong : goal.returns-in-Ok-Retry-clause-wrong
returns-in-Ok-Retry-clause-wrong c so =
    (λ e. absurd (cc (e, c.in-Ok-Retry.is, c.in-Ok-Retry.field-0-is)), λ e. absurd (cc (e, c.in-Ok-Retry.is)))

pub returns-in-Err-NoMemory-clause-same : goal.returns-in-Err-NoMemory-clause-same
returns-in-Err-NoMemory-clause-same c = tt

pub returns-in-Err-NoMemory-clause-wrong : goal.returns-in-Err-NoMemory-clause-wrong
returns-in-Err-NoMemory-clause-wrong c = tt

pub returns-in-Err-clause-same : goal.returns-in-Err-clause-same
returns-in-Err-clause-same c so = cc
