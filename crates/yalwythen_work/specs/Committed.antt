-- The result of a transaction at a session.
use Rattle.std.specs.Prelude.{◌≡◌, ◌≢◌, ◌⊎◌, ◌≤◌, ℕ, Bool, true, false, Option, None, Some, List, [], ◌∷◌, ◌++◌}
use Rattle.std.specs.Prelude.{length, slice_get}
use Rattle.txc_base.specs.declared.item.Item.{Item}
use Rattle.txc_base.specs.declared.reply.Reply.{Reply}
use Rattle.txc_base.specs.declared.reply.Reply.TheVariants.{Done, Got, Full, Empty, Closed, Flag, Reader, Count, All}
use Rattle.txc_base.specs.declared.stop.Stop.TheVariants.{NoMemory}
use Rattle.txc_txn_check.specs.Limits.{IsChecked, CheckedView}
use Rattle.txc_txn_check.specs.Walk.{Faulty, walk}
use Rattle.txc_txn_check.specs.declared.fault.TxnFault.TheVariants.{NoChannel}
use Rattle.txc_txn_check.specs.declared.step.Step.{Step}
use Rattle.yalwythen_work.specs.Session.{SessionView, logs_seen}
use Rattle.yalwythen_work.specs.Plans.{noted}
use Rattle.yalwythen_work.specs.declared.session.prepared.Prepared.{Prepared}
use Rattle.yalwythen_work.specs.declared.transact_error.TransactError.{TransactError}
use Rattle.yalwythen_work.specs.declared.transact_error.TransactError.TheVariants.{Unfit, Unprepared, Stalled, Stopped}
use Rattle.txc_table_seat.specs.Seated.{next_tag}
use Rattle.txc_table.specs.Seat.{SeesMore}
use Rattle.txc_table.specs.Table.{decls_of}
use Rattle.txc_table.specs.Outcome.{AreLawful, Tells}
use Rattle.txc_table.specs.declared.tried.Tried.{Tried}
use Rattle.txc_table.specs.declared.tried.Tried.TheVariants.{Kept, Retry}
use Rattle.txc_txn.specs.declared.receipt.Receipt.{Receipt}
use Rattle.txc_txn.specs.Maps.{Map}
use Rattle.txc_txn.specs.Transaction.{Again, transaction}
use Rattle.txc_txn.specs.Transaction.{Aborted as AbortsWith}

-- the noted transactions after this try of one, if commits are noted or not
abbrev pub kept_after : Bool → List CheckedView → CheckedView → Tried → List CheckedView
kept_after audited plans plan (Kept number) = noted audited plans plan
kept_after audited plans plan (Retry cause) = plans

-- a try of these steps, as one transaction on lawful channels, which declares the channels that they name: its result,
-- and the session afterwards; the logs of the channels begin with what the seat had seen, which only grows
pub record IsTried (before : SessionView) (steps : List Step) (tried : Tried) (after : SessionView) : Type 0 where
  pub plan : CheckedView
  pub its : plan.steps ≡ steps
  pub checked : IsChecked plan
  pub channels : Map
  pub lawful : AreLawful (decls_of before.table.lines) before.seat.receipts channels
  pub since : SeesMore (logs_seen before) (λ n. (channels n).log)
  pub tells : Tells channels before.seat plan tried after.seat
  pub same : after.table ≡ before.table
  pub sees : SeesMore (logs_seen before) (logs_seen after)
  pub kept : after.plans ≡ kept_after before.audited before.plans plan tried
  pub audited : after.audited ≡ before.audited
  pub prepared : after.prepared ≡ before.prepared

-- these steps committed as one transaction: the seat has its receipt, with this number
abbrev pub HasCommittedSteps : SessionView → List Step → ℕ → SessionView → Type 0
HasCommittedSteps before steps number after = IsTried before steps (Kept number) after

-- why these steps did not commit: they are not a transaction of these kinds, or on some lawful channels the transaction
-- must be retried or aborts; a failed allocation needs no reason
abbrev pub HasFailedWith : SessionView → List Step → TransactError → Type 0
HasFailedWith session steps Unprepared = ⊥
HasFailedWith session steps (Unfit fault) = walk (slice_get session.table.kinds) steps ≡ Faulty fault
HasFailedWith session steps (Stalled cause) = (plan : CheckedView) × (plan.steps ≡ steps) × IsChecked plan × ((m : Map)
    × AreLawful (decls_of session.table.lines) session.seat.receipts m
    × (transaction m (next_tag session.seat) plan.declared plan.steps ≡ Again cause))
HasFailedWith session steps (Stopped stop) = stop ≢ NoMemory
    → ((plan : CheckedView) × (plan.steps ≡ steps) × IsChecked plan
    × ((m : Map)
    × AreLawful (decls_of session.table.lines) session.seat.receipts m
    × (transaction m (next_tag session.seat) plan.declared plan.steps ≡ AbortsWith stop)))

-- these steps are prepared, with this number; the session is otherwise unchanged
pub record IsPrepared (before : SessionView) (steps : List Step) (number : ℕ) (after : SessionView) : Type 0 where
  pub plan : CheckedView
  pub its : plan.steps ≡ steps
  pub checked : IsChecked plan
  pub number_is : number ≡ length before.prepared
  pub prepared : after.prepared ≡ before.prepared ++ plan ∷ []
  pub table : after.table ≡ before.table
  pub seat : after.seat ≡ before.seat
  pub seen : after.seen ≡ before.seen
  pub audited : after.audited ≡ before.audited
  pub plans : after.plans ≡ before.plans

-- the steps of the prepared transaction with this number committed as one transaction: the seat has its receipt, with
-- that number
abbrev pub HasCommittedNumbered : SessionView → ℕ → ℕ → SessionView → Type 0
HasCommittedNumbered before prepared number after = (plan : CheckedView)
    × (slice_get before.prepared prepared ≡ Some plan)
    × HasCommittedSteps before plan.steps number after

-- why a prepared transaction did not commit: there is none with this number, or for the same reasons as steps that are
-- run once
abbrev pub HasFailedNumberedWith : SessionView → ℕ → TransactError → Type 0
HasFailedNumberedWith session prepared Unprepared = length session.prepared ≤ prepared
HasFailedNumberedWith session prepared (Unfit fault) = ⊥
HasFailedNumberedWith session prepared (Stalled cause) = (plan : CheckedView)
    × (slice_get session.prepared prepared ≡ Some plan)
    × HasFailedWith session plan.steps (Stalled cause)
HasFailedNumberedWith session prepared (Stopped stop) = stop ≢ NoMemory → ((plan : CheckedView)
    × (slice_get session.prepared prepared ≡ Some plan) × HasFailedWith session plan.steps (Stopped stop))

-- the steps of this prepared transaction, which was prepared at this session, committed as one transaction
abbrev pub HasCommittedPrepared : SessionView → Prepared → ℕ → SessionView → Type 0
HasCommittedPrepared before prepared number after = (prepared.seat ≡ before.seat.number)
    × HasCommittedNumbered before prepared.number number after

-- why a prepared transaction did not commit: it was prepared at another session, or for the same reasons as one of this
-- session
abbrev pub HasPreparedFailedWith : SessionView → Prepared → TransactError → Type 0
HasPreparedFailedWith session prepared error = ((prepared.seat ≢ session.seat.number) × (error ≡ Unprepared))
    ⊎ ((prepared.seat ≡ session.seat.number) × HasFailedNumberedWith session prepared.number error)

-- the item that was read last: that of this next reply if it has one, or this item
abbrev pub newer : Option Item → Reply → Option Item
newer last Done = last
newer last (Got item) = Some item
newer last Full = last
newer last Empty = last
newer last Closed = last
newer last (Flag flag) = last
newer last (Reader reader) = last
newer last (Count count) = last
newer last (All items) = last

-- the item that was read last in all these replies, or this item if there is none
abbrev pub last_item_after : Option Item → List Reply → Option Item
last_item_after last [] = last
last_item_after last (reply ∷ replies) = last_item_after (newer last reply) replies

-- the item that was read last
abbrev pub last_item : List Reply → Option Item
last_item replies = last_item_after None replies

-- whether a reply says that the channel is closed
abbrev pub is_closed : Reply → Bool
is_closed Done = false
is_closed (Got item) = false
is_closed Full = false
is_closed Empty = false
is_closed Closed = true
is_closed (Flag flag) = false
is_closed (Reader reader) = false
is_closed (Count count) = false
is_closed (All items) = false

-- whether the first of these replies says that the channel is closed
abbrev pub found_closed : List Reply → Bool
found_closed [] = false
found_closed (reply ∷ replies) = is_closed reply

-- the replies of a receipt, or none if there is no receipt
abbrev pub replies_in : Option Receipt → List Reply
replies_in None = []
replies_in (Some receipt) = receipt.replies

-- why there is no snapshot of a channel: there is no such channel, or allocation failed
abbrev pub IsSnapshotError : SessionView → ℕ → TransactError → Type 0
IsSnapshotError session chan Unprepared = ⊥
IsSnapshotError session chan (Unfit fault) = (fault ≡ NoChannel) × (length session.table.kinds ≤ chan)
IsSnapshotError session chan (Stalled cause) = ⊥
IsSnapshotError session chan (Stopped stop) = stop ≡ NoMemory
