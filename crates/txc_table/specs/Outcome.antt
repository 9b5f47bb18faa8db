-- The result of an attempt.
use Rattle.std.specs.Prelude.{◌≡◌, ◌≢◌, ℕ, ◌<◌, List, length, Result, IfOk, IfErr, OnErr}
use Rattle.txc_base.specs.declared.stop.Stop.{Stop}
use Rattle.txc_base.specs.declared.stop.Stop.TheVariants.{NoMemory}
use Rattle.txc_base.specs.declared.tag.Tag.{Tag}
use Rattle.txc_chan.specs.declared.decl.Decl.{Decl}
use Rattle.txc_txn_check.specs.Limits.{CheckedView}
use Rattle.txc_table_line.specs.Line.{decl_at}
use Rattle.txc_table_line.specs.Known.{IsKnown}
use Rattle.txc_txn.specs.declared.ran.Ran.{Ran}
use Rattle.txc_txn.specs.declared.ran.Ran.TheVariants.{Kept as RanKept, Retry as RanRetry}
use Rattle.txc_txn.specs.declared.receipt.Receipt.{Receipt}
use Rattle.txc_txn.specs.InLog.{Logs}
use Rattle.txc_txn.specs.Maps.{Map}
use Rattle.txc_txn.specs.Run.{receipt_of}
use Rattle.txc_txn.specs.Transaction.{Ending, Kept as EndKept, Again, Aborted, kept_tag, transaction}
use Rattle.txc_table_seat.specs.Seated.{SeatCommits, count, next_tag, with_receipt}
use Rattle.txc_table.specs.declared.tried.Tried.{Tried}
use Rattle.txc_table.specs.declared.tried.Tried.TheVariants.{Kept, Retry}
use Rattle.txc_table.specs.Seat.{SeatView, SeesMore, seen_at}

-- what a run returned is what this ending gives, with this tag
abbrev pub Answers : Tag → Ending → Ran → Type 0
Answers tag (EndKept state) (RanKept receipt) = receipt ≡ receipt_of tag state
Answers tag (Again cause) (RanRetry why) = why ≡ cause
Answers tag ending ran = ⊥

-- each of these channels is as declared and matches its log; the log has at least as many entries as these receipts
-- have acts there; nothing in the channel can be undone
abbrev pub AreLawful : List Decl → List Receipt → Map → Type 0
AreLawful decls receipts m = (n : ℕ) → n < length decls → IsKnown (decl_at decls n) (count n receipts) (m n)

-- the channels are `AreLawful`, and the log of each begins with what was seen of it
abbrev pub AreFound : List Decl → List Receipt → Logs → Map → Type 0
AreFound decls receipts seen m = AreLawful decls receipts m × SeesMore seen (λ n. (m n).log)

-- the result of an attempt of a transaction on these channels, and its effect on the seat: one more receipt, which is
-- the transaction's, or the transaction's cause to retry and no effect
abbrev pub Tells : Map → SeatCommits → CheckedView → Tried → SeatCommits → Type 0
Tells m before plan (Kept number) after =
    (receipt : Receipt) × (number ≡ length before.receipts) × (after ≡ with_receipt before plan receipt)
    × Answers (kept_tag m (next_tag before) plan.declared) (transaction m (next_tag before) plan.declared plan.steps)
    (RanKept receipt)
Tells m before plan (Retry cause) after = (after ≡ before)
    × (transaction m (next_tag before) plan.declared plan.steps ≡ Again cause)

-- what the seat has seen of the logs after an attempt: at least what it had seen before; after a retry the seat is
-- unchanged
abbrev pub Sees : SeatView → Tried → SeatView → Type 0
Sees before (Kept number) after = SeesMore (seen_at before) (seen_at after)
Sees before (Retry cause) after = after ≡ before

-- the result of a call that runs a transaction, whose last try is `tried`, and its effect on the seat: there are
-- channels with these declarations, whose logs begin with what the seat has seen, on which the transaction gives this
-- result; `NoMemory` says nothing about channels; after any stop the seat is unchanged
pub record IsAttempted {T : Type 0} (tried : T → Tried) (decls : List Decl) (plan : CheckedView) (before : SeatView)
    (result : Result T Stop) (after : SeatView) : Type 0 where
  pub returned : IfOk result (λ answer. (m : Map) × AreFound decls before.commits.receipts (seen_at before) m
      × Tells m before.commits plan (tried answer) after.commits)
  pub sees : IfOk result (λ answer. Sees before (tried answer) after)
  pub stopped : IfErr result (λ stop. stop ≢ NoMemory
      → ((m : Map) × AreFound decls before.commits.receipts (seen_at before) m
      × (transaction m (next_tag before.commits) plan.declared plan.steps ≡ Aborted stop)))
  pub unchanged : OnErr result (after ≡ before)

-- `IsAttempted` without what the seat has seen
pub record IsTransacted {T : Type 0} (tried : T → Tried) (decls : List Decl) (plan : CheckedView) (before : SeatCommits)
    (result : Result T Stop) (after : SeatCommits) : Type 0 where
  pub returned : IfOk result (λ answer. (m : Map) × AreLawful decls before.receipts m
      × Tells m before plan (tried answer) after)
  pub stopped : IfErr result (λ stop. stop ≢ NoMemory → ((m : Map) × AreLawful decls before.receipts m
      × (transaction m (next_tag before) plan.declared plan.steps ≡ Aborted stop)))
  pub unchanged : OnErr result (after ≡ before)
