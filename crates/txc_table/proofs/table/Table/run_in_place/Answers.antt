use Rattle.std.proofs.Common.{rules, ◌≡◌, ◌≢◌, subst}
use Rattle.std.specs.Prelude.{IfErr}
use Rattle.txc_base.specs.declared.stop.Stop.TheVariants.{NoMemory}
use Rattle.txc_txn.specs.declared.ran.Ran.{Ran}
use Rattle.txc_txn.specs.declared.receipt.Receipt.{Receipt}
use Rattle.txc_txn.specs.Maps.{Map}
use Rattle.txc_txn.specs.Transaction.{Aborted, kept_tag, transaction}
use Rattle.txc_table_lines.specs.OneOperation.{AreKnown}
use Rattle.txc_table.specs.Outcome.{Answers}
use Rattle.txc_table.proofs.table.Table.run_in_place.Goals as goal

pub returns-in_err-kept-clause-stopped : goal.returns-in_err-kept-clause-stopped
returns-in_err-kept-clause-stopped g c =
    subst (λ (r : Receipt). IfErr c.from_residual.result (λ stop. stop ≢ NoMemory
    → (m : Map) × AreKnown c.args.access.now.shares m × (transaction m r.tag c.args.call.now.checked.now.declared
    c.args.call.now.checked.now.steps ≡ Aborted stop))) c.replace-recycled.ensures.value (search rules)

pub returns-in-Retry-clause-outcome : goal.returns-in-Retry-clause-outcome
returns-in-Retry-clause-outcome g c =
    subst (λ (r : Receipt). (m : Map) × AreKnown c.args.access.now.shares m
    × Answers (kept_tag m r.tag c.args.call.now.checked.now.declared)
    (transaction m r.tag c.args.call.now.checked.now.declared c.args.call.now.checked.now.steps)
    (Ran.Retry c.in-Retry.cause)) c.replace-recycled.ensures.value
    (subst (λ (ran : Ran). (m : Map) × AreKnown c.args.access.now.shares m
    × Answers (kept_tag m c.replace-recycled.result.tag c.args.call.now.checked.now.declared)
    (transaction m c.replace-recycled.result.tag c.args.call.now.checked.now.declared c.args.call.now.checked.now.steps)
    ran) c.in-Retry.is c.in_ok-kept.ensures.outcome)
