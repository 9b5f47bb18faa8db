-- What a try at a table says of a session.
use Rattle.std.proofs.Common.{◌≡◌, ◌≢◌, refl, sym, subst, ℕ, Some, List, [], append-nil, slice_get}
use Rattle.txc_base.specs.declared.cause.Cause.{Cause}
use Rattle.txc_base.specs.declared.kind.Kind.{Kind}
use Rattle.txc_base.specs.declared.stop.Stop.{Stop}
use Rattle.txc_base.specs.declared.stop.Stop.TheVariants.{NoMemory}
use Rattle.txc_txn_check.specs.Limits.{IsChecked, CheckedView}
use Rattle.txc_txn_check.specs.Walk.{Faulty, walk}
use Rattle.txc_txn_check.specs.declared.fault.TxnFault.{TxnFault}
use Rattle.txc_txn_check.specs.declared.step.Step.{Step}
use Rattle.yalwythen_work.specs.Committed.{HasFailedWith, IsTried, kept_after}
use Rattle.yalwythen_work.specs.Session.{SessionView}
use Rattle.yalwythen_work.specs.Plans.{PlansView}
use Rattle.yalwythen_work.specs.declared.transact_error.TransactError.TheVariants.{Unfit, Stalled, Stopped}
use Rattle.txc_table_seat.specs.Seated.{next_tag}
use Rattle.txc_chan.specs.declared.decl.Decl.{Decl}
use Rattle.txc_table.specs.Seat.{SeatView, SeesMore, seen_at}
use Rattle.txc_table.specs.Table.{TableView, decls_of}
use Rattle.txc_table.specs.Outcome.{AreFound, Sees, Tells}
use Rattle.txc_table.specs.declared.tried.Tried.{Tried}
use Rattle.txc_table.specs.declared.tried.Tried.TheVariants.{Kept, Retry}
use Rattle.txc_txn.specs.Maps.{Map}
use Rattle.txc_txn.specs.Transaction.{transaction}
use Rattle.txc_txn.specs.Transaction.{Aborted as AbortsWith}

-- a session of these
abbrev pub session_of : TableView → SeatView → PlansView → SessionView
session_of table seat plans = record {
  table = table;
  seat = seat.commits;
  seen = seat.seen;
  audited = plans.audited;
  plans = plans.kept;
  prepared = plans.prepared;
}

-- what a try through this seat gave on some channels, and its effect on the seat
abbrev pub IsTriedAt : List Decl → SeatView → CheckedView → Tried → SeatView → Type 0
IsTriedAt decls seat plan tried after = (m : Map) × AreFound decls seat.commits.receipts (seen_at seat) m
    × Tells m seat.commits plan tried after.commits

-- some channels on which a transaction through this seat stops like this
abbrev pub IsStoppedAt : List Decl → SeatView → CheckedView → Stop → Type 0
IsStoppedAt decls seat plan stop = (m : Map) × AreFound decls seat.commits.receipts (seen_at seat) m
    × (transaction m (next_tag seat.commits) plan.declared plan.steps ≡ AbortsWith stop)

-- what a seat has seen only grows in a try
pub sees_more : (seat after : SeatView) (tried : Tried) → Sees seat tried after
    → SeesMore (seen_at seat) (seen_at after)
sees_more seat after (Kept number) more = more
sees_more seat after (Retry cause) same =
    subst (λ (s : SeatView). SeesMore (seen_at seat) (seen_at s)) (sym same) (λ n. ([], append-nil (seen_at seat n)))

-- a try, as the session has it
pub asks : (table : TableView) (seat after : SeatView) (plans plans' : PlansView) (steps : List Step)
    (plan : CheckedView)
    (tried : Tried) (before : SessionView)
    → session_of table seat plans ≡ before → plan.steps ≡ steps → IsChecked plan
    → plans'.kept ≡ kept_after plans.audited plans.kept plan tried
    → plans'.audited ≡ plans.audited → plans'.prepared ≡ plans.prepared
    → IsTriedAt (decls_of table.lines) seat plan tried after → Sees seat tried after
    → IsTried before steps tried (session_of table after plans')
asks table seat after plans plans' steps plan tried before is same checked kept audited prepared found sees =
    subst (λ (d : SessionView). IsTried d steps tried (session_of table after plans')) is
    (record {
      plan = plan;
      its = same;
      checked = checked;
      channels = found.0;
      lawful = found.1.0;
      since = found.1.1;
      tells = found.2;
      same = refl;
      sees = sees_more seat after tried sees;
      kept = kept;
      audited = audited;
      prepared = prepared;
    })

-- a stall
pub stalls : (table : TableView) (seat after : SeatView) (plans : PlansView) (steps : List Step) (plan : CheckedView)
    (cause : Cause) (before : SessionView)
    → session_of table seat plans ≡ before → plan.steps ≡ steps → IsChecked plan
    → IsTriedAt (decls_of table.lines) seat plan (Retry cause) after
    → HasFailedWith before steps (Stalled cause)
stalls table seat after plans steps plan cause before is same checked found =
    subst (λ (d : SessionView). HasFailedWith d steps (Stalled cause)) is
    (plan, same, checked, (found.0, found.1.0, found.2.1))

-- a stop
pub stops : (table : TableView) (seat : SeatView) (plans : PlansView) (steps : List Step) (plan : CheckedView)
    (stop : Stop)
    (before : SessionView)
    → session_of table seat plans ≡ before → plan.steps ≡ steps → IsChecked plan
    → (stop ≢ NoMemory → IsStoppedAt (decls_of table.lines) seat plan stop)
    → HasFailedWith before steps (Stopped stop)
stops table seat plans steps plan stop before is same checked found =
    subst (λ (d : SessionView). HasFailedWith d steps (Stopped stop)) is
    (λ other. (let stopped = found other in (plan, same, checked, (stopped.0, stopped.1.0, stopped.2))))

-- steps that are no transaction
pub unfits : (table : TableView) (seat : SeatView) (plans : PlansView) (steps : List Step) (kinds : List Kind)
    (fault : TxnFault) (before : SessionView)
    → session_of table seat plans ≡ before → kinds ≡ table.kinds → walk (slice_get kinds) steps ≡ Faulty fault
    → HasFailedWith before steps (Unfit fault)
unfits table seat plans steps kinds fault before is same walked =
    subst (λ (d : SessionView). HasFailedWith d steps (Unfit fault)) is
    (subst (λ (ks : List Kind). walk (slice_get ks) steps ≡ Faulty fault) same walked)

-- a prepared transaction, as the session has it
pub is_there : (table : TableView) (seat : SeatView) (plans plans' : PlansView) (n : ℕ) (plan : CheckedView)
    (before : SessionView)
    → session_of table seat plans ≡ before → plans'.prepared ≡ plans.prepared
    → slice_get plans'.prepared n ≡ Some plan → slice_get before.prepared n ≡ Some plan
is_there table seat plans plans' n plan before is same there =
    subst (λ (d : SessionView). slice_get d.prepared n ≡ Some plan) is
    (subst (λ (ps : List CheckedView). slice_get ps n ≡ Some plan) same there)
