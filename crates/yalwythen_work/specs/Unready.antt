-- Why steps cannot be tried at all.
use Rattle.std.specs.Prelude.{◌≡◌, List, slice_get}
use Rattle.txc_base.specs.declared.kind.Kind.{Kind}
use Rattle.txc_base.specs.declared.stop.Stop.TheVariants.{NoMemory}
use Rattle.txc_txn_check.specs.Walk.{Faulty, walk}
use Rattle.txc_txn_check.specs.declared.step.Step.{Step}
use Rattle.yalwythen_work.specs.declared.transact_error.TransactError.{TransactError}
use Rattle.yalwythen_work.specs.declared.transact_error.TransactError.TheVariants.{Unfit, Unprepared, Stalled, Stopped}

-- these steps are not a transaction of these kinds, or allocation failed
abbrev pub IsCheckError : List Kind → List Step → TransactError → Type 0
IsCheckError kinds steps Unprepared = ⊥
IsCheckError kinds steps (Unfit fault) = walk (slice_get kinds) steps ≡ Faulty fault
IsCheckError kinds steps (Stalled cause) = ⊥
IsCheckError kinds steps (Stopped stop) = stop ≡ NoMemory
