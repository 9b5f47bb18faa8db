-- A transaction of one operation.
use Rattle.std.specs.Prelude.{◌≡◌, ℕ, ◌||◌, false, None, [], ◌∷◌, length}
use Rattle.txc_base.specs.declared.op.Op.{Op}
use Rattle.txc_base.specs.declared.tag.Tag.{Tag}
use Rattle.txc_base.specs.Op.{chan_of}
use Rattle.txc_base.specs.Operation.{Did, Replies, Waits, Stops, operate}
use Rattle.txc_base.specs.Reply.{last_read_after}
use Rattle.txc_chan.specs.Committed.{reply_to}
use Rattle.txc_chan.specs.Logged.{grown}
use Rattle.txc_txn_check.specs.declared.step.Step.TheVariants.{Do}
use Rattle.txc_txn.specs.declared.deed.Deed.{Deed}
use Rattle.txc_txn.specs.declared.receipt.Receipt.{Receipt}
use Rattle.txc_txn.specs.Maps.{Map, put_at}
use Rattle.txc_txn.specs.Transaction.{Again, Ending, Aborted, Kept, deeds_at, greatest, is_worn, kept_tag, transaction}

-- the ending of a transaction of one operation that did this to its one channel
abbrev pub ending_of_one : Map → Tag → ℕ → Did → Ending
ending_of_one m tag chan (Replies reply acts channel) = Kept (record {
  chans = put_at m chan (grown (m chan) tag acts channel);
  last = last_read_after reply None;
  replies = reply ∷ [];
  deeds = deeds_at chan (length (m chan).log) acts;
})
ending_of_one m tag chan (Waits cause) = Again cause
ending_of_one m tag chan (Stops stop) = Aborted stop

-- unless a number is used up, a transaction of one operation is what the operation does to its channel
abbrev pub OneIsItself : Type 0
OneIsItself = (m : Map) (tag : Tag) (op : Op)
    → (is_worn tag.serial || is_worn (greatest m tag.stamp (chan_of op ∷ []))) ≡ false
    → transaction m tag (chan_of op ∷ []) (Do op ∷ [])
    ≡ ending_of_one m (kept_tag m tag (chan_of op ∷ [])) (chan_of op)
    (operate (m (chan_of op)).channel tag.seat None op)

-- a receipt with one reply and one act
abbrev pub IsSingle : Receipt → Type 0
IsSingle receipt = (length receipt.replies ≡ 1) × (length receipt.acts ≡ 1)

-- the receipt of a transaction that had this act
abbrev pub single_of : Tag → Deed → Receipt
single_of tag deed = record { tag = tag; replies = reply_to deed.act ∷ []; acts = deed ∷ [] }
