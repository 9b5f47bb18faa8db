-- A transaction of one operation that is committed at once, on its line.
use Rattle.std.specs.Prelude.{◌≡◌, ◌<◌, ℕ, List, [], ◌∷◌, length}
use Rattle.txc_base.specs.declared.cause.Cause.{Cause}
use Rattle.txc_base.specs.declared.op.Op.{Op}
use Rattle.txc_base.specs.declared.tag.Tag.{Tag}
use Rattle.txc_base.specs.Op.{chan_of}
use Rattle.txc_txn_check.specs.declared.step.Step.TheVariants.{Do}
use Rattle.txc_table_line.specs.Known.{IsKnown}
use Rattle.txc_txn.specs.declared.ran.Ran.TheVariants.{Kept as RanKept}
use Rattle.txc_txn.specs.declared.receipt.Receipt.{Receipt}
use Rattle.txc_txn.specs.AtOnce.{IsImmediate}
use Rattle.txc_txn.specs.InLog.{ReceiptIsInLog}
use Rattle.txc_txn.specs.Maps.{Map}
use Rattle.txc_txn.specs.Run.{PlacesRise, RanSettled}
use Rattle.txc_txn.specs.Transaction.{Again, kept_tag, transaction}
use Rattle.txc_table_line.specs.SeatShare.{SeatShareView}
use Rattle.txc_table_lines.specs.Committed.{AreCommitted, HasNoneOutside}
use Rattle.txc_table_lines.specs.Lines.{AreSince, OnlyGrew, share_at}

-- a seat with these shares may find these channels: each is as declared and true to its log, which has at least as many
-- entries as the seat has made and begins with what the seat has seen of it; nothing in the channel can be undone
pub record AreKnown (shares : List SeatShareView) (m : Map) : Type 0 where
  pub known : (n : ℕ) → n < length shares → IsKnown (share_at shares n).line.decl (share_at shares n).amount (m n)
  pub since : AreSince shares m

-- the transaction of this operation was committed with this receipt, on channels that the seat may find
pub record IsCommittedOne (tag : Tag) (op : Op) (before after : List SeatShareView) (receipt : Receipt) : Type 0 where
  pub found : Map
  pub left : Map
  pub are : AreKnown before found
  pub ran : RanSettled (kept_tag found tag (chan_of op ∷ [])) (chan_of op ∷ [])
      (transaction found tag (chan_of op ∷ []) (Do op ∷ [])) (RanKept receipt) found left
  pub committed : (n : ℕ) → AreCommitted (chan_of op ∷ []) found left receipt before after n
  pub grew : OnlyGrew before after
  pub stand : ReceiptIsInLog (λ n. (share_at after n).log) receipt
  pub inside : HasNoneOutside (chan_of op ∷ []) receipt
  pub rise : PlacesRise receipt
  pub later : tag.stamp < receipt.tag.stamp

-- on channels that the seat may find, the transaction of this operation must be retried, for this cause
pub record MustRetryOne (tag : Tag) (op : Op) (shares : List SeatShareView) (cause : Cause) : Type 0 where
  pub found : Map
  pub are : AreKnown shares found
  pub again : transaction found tag (chan_of op ∷ []) (Do op ∷ []) ≡ Again cause

-- on channels that the seat may find, the transaction of this operation does not commit at once
pub record IsNotImmediate (tag : Tag) (op : Op) (shares : List SeatShareView) : Type 0 where
  pub found : Map
  pub are : AreKnown shares found
  pub not : ¬ IsImmediate found tag op
