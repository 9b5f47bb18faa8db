-- How the run of a transaction on held channels ends.
use Rattle.std.specs.Prelude.{◌≡◌, ◌≢◌, ◌||◌, true, Err, Result, IfErr, OnErr}
use Rattle.txc_base.specs.declared.stop.Stop.{Stop}
use Rattle.txc_base.specs.declared.stop.Stop.TheVariants.{NoMemory, Worn}
use Rattle.txc_base.specs.declared.tag.Tag.{Tag}
use Rattle.txc_txn_check.specs.Limits.{CheckedView}
use Rattle.txc_txn.specs.declared.ran.Ran.{Ran}
use Rattle.txc_txn.specs.Growth.{SameOutside}
use Rattle.txc_txn.specs.Maps.{Map}
use Rattle.txc_txn.specs.Transaction.{Aborted, greatest, is_worn, transaction}

-- other channels are unchanged, a used-up number gives `Worn`, and a stop is the transaction's and undoes all
pub record HasEnded (tag : Tag) (plan : CheckedView) (before : Map) (result : Result Ran Stop)
    (after : Map) : Type 0 where
  pub others : SameOutside plan.declared before after
  pub worn : is_worn tag.serial || is_worn (greatest before tag.stamp plan.declared) ≡ true → result ≡ Err Worn
  pub stopped : IfErr result (λ stop. stop ≢ NoMemory → transaction before tag plan.declared plan.steps ≡ Aborted stop)
  pub unchanged : OnErr result (after ≡ before)
