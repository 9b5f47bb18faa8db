-- What is known of the channels of a transaction, and of its receipt. Only the clauses of private functions use it.
use Rattle.std.specs.Prelude.{◌≡◌, ℕ, ◌+◌, ◌<◌, List, Option, None, Some}
use mathlib.Core.List.{IsPrefix}
use Rattle.txc_base.specs.declared.cause.Cause.{Cause}
use Rattle.txc_base.specs.declared.tag.Tag.{Tag}
use Rattle.txc_chan.specs.Reserved.{one_if}
use Rattle.txc_txn_check.specs.Limits.{CheckedView}
use Rattle.txc_txn.specs.declared.ran.Ran.{Ran}
use Rattle.txc_txn.specs.declared.ran.Ran.TheVariants.{Kept as RanKept, Retry as RanRetry}
use Rattle.txc_txn.specs.declared.receipt.Receipt.{Receipt}
use Rattle.txc_txn.specs.InLog.{ReceiptIsInLog}
use Rattle.txc_txn.specs.Run.{PlacesRise, count_deeds}
use Rattle.txc_txn_history.specs.Placed.{is_among}
use Rattle.txc_table_line.specs.SeatShare.{SeatShareView}
use Rattle.txc_table_lines.specs.Lines.{OnlyGrew, line_ids, share_at}
use Rattle.txc_table.specs.Seat.{IsPlacedEvent, seen_logs, seen_marks}
use Rattle.txc_table.specs.Table.{line_decls}

-- what a run returns that ended with this cause to retry, or committed with this receipt
abbrev pub ran_of : Option Cause → Receipt → Ran
ran_of None receipt = RanKept receipt
ran_of (Some cause) receipt = RanRetry cause

-- what was seen of the marks of each channel begins with what had been seen of them
abbrev pub OnlyMarked : List SeatShareView → List SeatShareView → Type 0
OnlyMarked before after = (n : ℕ) → IsPrefix (seen_marks before n) (seen_marks after n)

-- a transaction that was tried with this tag committed with this receipt: its acts count in the shares, which only
-- grew; each act is the entry at its place in the logs seen; its stamp is later; the transaction counts itself and is
-- placed in the histories of its channels
pub record IsKeptWith (tag : Tag) (plan : CheckedView) (before after : List SeatShareView)
    (receipt : Receipt) : Type 0 where
  pub counted : (n : ℕ) → (share_at after n).amount ≡ (share_at before n).amount + count_deeds n receipt.acts
  pub grew : OnlyGrew before after
  pub stand : ReceiptIsInLog (seen_logs after) receipt
  pub rise : PlacesRise receipt
  pub later : tag.stamp < receipt.tag.stamp
  pub made : (n : ℕ) → (share_at after n).made ≡ (share_at before n).made + one_if (is_among plan.declared n)
  pub marked : OnlyMarked before after
  pub placed : IsPlacedEvent (line_decls (line_ids after)) (seen_logs after) (seen_marks after)
      (record { seat = tag.seat; plan = plan; before = tag.stamp; receipt = receipt })
