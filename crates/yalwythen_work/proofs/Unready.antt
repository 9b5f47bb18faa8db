-- Steps that can't be tried at all, as the session has it.
use Rattle.std.proofs.Common.{◌≡◌, List}
use Rattle.txc_base.specs.declared.kind.Kind.{Kind}
use Rattle.txc_txn_check.specs.declared.step.Step.{Step}
use Rattle.yalwythen_work.proofs.Asking.{session_of, unfits}
use Rattle.yalwythen_work.specs.Committed.{HasFailedWith}
use Rattle.yalwythen_work.specs.Session.{SessionView}
use Rattle.yalwythen_work.specs.Plans.{PlansView}
use Rattle.yalwythen_work.specs.Unready.{IsCheckError}
use Rattle.yalwythen_work.specs.declared.transact_error.TransactError.{TransactError}
use Rattle.yalwythen_work.specs.declared.transact_error.TransactError.TheVariants.{Unfit, Unprepared, Stalled, Stopped}
use Rattle.txc_table.specs.Seat.{SeatView}
use Rattle.txc_table.specs.Table.{TableView}

-- steps that are not ready fail
pub unready : (table : TableView) (seat : SeatView) (plans : PlansView) (steps : List Step) (kinds : List Kind)
    (error : TransactError)
    (before : SessionView)
    → session_of table seat plans ≡ before → kinds ≡ table.kinds → IsCheckError kinds steps error
    → HasFailedWith before steps error
unready table seat plans steps kinds Unprepared before is same why = absurd why
unready table seat plans steps kinds (Unfit fault) before is same why =
    unfits table seat plans steps kinds fault before is same why
unready table seat plans steps kinds (Stalled cause) before is same why = absurd why
unready table seat plans steps kinds (Stopped stop) before is same why = λ other. absurd (other why)
