use Rattle.std.proofs.Common.{List, sym, subst}
use Rattle.yalwythen_work.specs.Plans.{PlansView}
use Rattle.yalwythen_work.specs.Ran.{all_noted}
use Rattle.txc_txn_history.specs.OneOrder.{IsOneOrder}
use Rattle.yalwythen_work.proofs.run_outcome.RunOutcome.audit.Goals as goal

pub returns-in-Err-clause-serial : goal.returns-in-Err-clause-serial
returns-in-Err-clause-serial g c = λ order is.
    c.in-Err.ensures.serial order
    (subst (λ (ps : List PlansView). IsOneOrder c.args.decls.now (all_noted ps) c.args.self.now.report
    order)
    (sym c.as_slice.ensures.value) is)
