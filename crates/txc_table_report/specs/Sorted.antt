-- Acts of one sort in all receipts.
use Rattle.std.specs.Prelude.{◌≡◌, ℕ, ◌+◌, ◌&&◌, ◌==◌, Bool, false, Some, List, [], ◌∷◌, length, slice_get}
use Rattle.txc_base.specs.declared.act.Act.{Act}
use Rattle.txc_base.specs.declared.act.Act.TheVariants.{Took}
use Rattle.txc_base.specs.declared.entry.Entry.{Entry}
use Rattle.txc_base.specs.declared.item.Item.{Item}
use Rattle.txc_base.specs.declared.origin.Origin.{Origin}
use Rattle.txc_base.specs.declared.origin.Origin.TheVariants.{Written, Back}
use Rattle.txc_base.specs.Counts.{is_put, is_took, is_other, put, took, other}
use Rattle.txc_base.specs.InOrder.{written}
use Rattle.txc_base.specs.Kinds.{is_broadcast}
use Rattle.txc_base.specs.Log.{origin_eq}
use Rattle.txc_base.specs.Next.{returned}
use Rattle.txc_base.specs.Once.{times, once_below}
use Rattle.txc_chan.specs.declared.account.Account.{Account}
use Rattle.txc_chan.specs.declared.decl.Decl.{Decl}
use Rattle.txc_txn.specs.declared.receipt.Receipt.{Receipt}
use Rattle.txc_txn.specs.declared.report.Report.{Report}
use Rattle.txc_txn.specs.InLog.{Logs}
use Rattle.txc_table_seat.specs.Tally.{count_that}
use Rattle.txc_table_line.specs.Line.{decl_at}

-- how many acts of all seats in a channel pass a test
abbrev pub all_that : (Act → Bool) → ℕ → List (List Receipt) → ℕ
all_that test chan [] = 0
all_that test chan (receipts ∷ seats) = count_that test chan receipts + all_that test chan seats

-- each of the three counts of each log is the sum of the seats' counts
pub record IsSummed (logs : Logs) (seats : List (List Receipt)) : Type 0 where
  pub puts : (chan : ℕ) → put (logs chan) ≡ all_that is_put chan seats
  pub tooks : (chan : ℕ) → took (logs chan) ≡ all_that is_took chan seats
  pub others : (chan : ℕ) → other (logs chan) ≡ all_that is_other chan seats

-- a test: the only reader of a queue takes the item of this origin
abbrev pub takes : Origin → Act → Bool
takes origin (Took reader item) = (reader == 0) && origin_eq item.origin origin
takes origin act = false

-- the items that the seats took from a queue and the items that remain are, together, each item that was written or put
-- back, once each, and no other item
pub record IsTakenOnce (log : List Entry) (seats : List (List Receipt)) (chan : ℕ) (list : List Item) : Type 0 where
  pub each_written : (n : ℕ) → all_that (takes (Written n)) chan seats + times (Written n)
      list ≡ once_below (length (written log)) n
  pub each_returned : (n : ℕ) → all_that (takes (Back n)) chan seats + times (Back n)
      list ≡ once_below (length (returned 0 log)) n

-- `IsTakenOnce` holds for each queue of a table with these lines
abbrev pub AreTakenOnce : List Decl → Report → Type 0
AreTakenOnce lines report = (chan : ℕ) (account : Account) → slice_get report.accounts chan ≡ Some account
    → is_broadcast (decl_at lines chan).kind ≡ false
    → (list : List Item) × ((account.remaining ≡ list ∷ []) × IsTakenOnce account.log report.receipts chan list)
