-- Transactions that move an item from one line to another one, and are committed at once.
use Rattle.std.specs.Prelude.{◌≡◌, ◌<◌, ℕ, List}
use Rattle.txc_base.specs.declared.cause.Cause.{Cause}
use Rattle.txc_base.specs.declared.tag.Tag.{Tag}
use Rattle.txc_txn_check.specs.declared.step.Step.{Step}
use Rattle.txc_txn.specs.declared.ran.Ran.TheVariants.{Kept as RanKept}
use Rattle.txc_txn.specs.declared.receipt.Receipt.{Receipt}
use Rattle.txc_txn.specs.InLog.{ReceiptIsInLog}
use Rattle.txc_txn.specs.Maps.{Map}
use Rattle.txc_txn.specs.Run.{PlacesRise, RanSettled}
use Rattle.txc_txn.specs.Transaction.{Again, kept_tag, transaction}
use Rattle.txc_txn.specs.TwoOperations.{IsNoPair, lower_first, move_steps}
use Rattle.txc_table_line.specs.SeatShare.{SeatShareView}
use Rattle.txc_table_lines.specs.Committed.{AreCommitted, HasNoneOutside}
use Rattle.txc_table_lines.specs.Lines.{OnlyGrew, share_at}
use Rattle.txc_table_lines.specs.OneOperation.{AreKnown}

-- the transaction of these steps was committed with this receipt, on channels that the seat may find
pub record IsCommittedAs (tag : Tag) (declared : List ℕ) (steps : List Step) (before after : List SeatShareView)
    (receipt : Receipt)
    : Type 0 where
  pub found : Map
  pub left : Map
  pub are : AreKnown before found
  pub ran : RanSettled (kept_tag found tag declared) declared (transaction found tag declared steps) (RanKept receipt)
      found left
  pub committed : (n : ℕ) → AreCommitted declared found left receipt before after n
  pub grew : OnlyGrew before after
  pub stand : ReceiptIsInLog (λ n. (share_at after n).log) receipt
  pub inside : HasNoneOutside declared receipt
  pub rise : PlacesRise receipt
  pub later : tag.stamp < receipt.tag.stamp

-- on channels that the seat may find, the transaction of these steps must be retried, for this cause
pub record MustRetryAs (tag : Tag) (declared : List ℕ) (steps : List Step) (shares : List SeatShareView) (cause : Cause)
    : Type 0 where
  pub found : Map
  pub are : AreKnown shares found
  pub again : transaction found tag declared steps ≡ Again cause

-- on channels that the seat may find, the transaction of these steps does not commit with two acts
pub record IsNoPairAs (tag : Tag) (declared : List ℕ) (steps : List Step) (shares : List SeatShareView) : Type 0 where
  pub found : Map
  pub are : AreKnown shares found
  pub not : IsNoPair (transaction found tag declared steps)

-- .. of a move between two channels
abbrev pub IsCommittedMove : Tag → ℕ → ℕ → ℕ → List SeatShareView → List SeatShareView → Receipt → Type 0
IsCommittedMove tag from reader to = IsCommittedAs tag (lower_first from to) (move_steps from reader to)

abbrev pub MustRetryMove : Tag → ℕ → ℕ → ℕ → List SeatShareView → Cause → Type 0
MustRetryMove tag from reader to = MustRetryAs tag (lower_first from to) (move_steps from reader to)

abbrev pub IsNoMove : Tag → ℕ → ℕ → ℕ → List SeatShareView → Type 0
IsNoMove tag from reader to = IsNoPairAs tag (lower_first from to) (move_steps from reader to)
