-- A transaction of one operation that is committed at once.
use Rattle.std.specs.Prelude.{◌≡◌, ℕ, ◌||◌, true, false, None, [], ◌∷◌}
use Rattle.txc_base.specs.declared.op.Op.{Op}
use Rattle.txc_base.specs.declared.tag.Tag.{Tag}
use Rattle.txc_base.specs.Op.{chan_of}
use Rattle.txc_base.specs.Operation.{HasActs, operate}
use Rattle.txc_chan.specs.Committed.{is_read_or_write}
use Rattle.txc_txn.specs.Maps.{Map}
use Rattle.txc_txn.specs.Transaction.{greatest, is_worn, kept_tag}

-- nothing on this channel is uncommitted, no number is used up, and a transaction on it commits with this tag
pub record CanCommit (m : Map) (chan : ℕ) (tag kept : Tag) : Type 0 where
  pub clean : (m chan).pending ≡ 0
  pub rises : (is_worn tag.serial || is_worn (greatest m tag.stamp (chan ∷ []))) ≡ false
  pub tagged : kept ≡ kept_tag m tag (chan ∷ [])

-- a transaction of this operation is committed at once: it is a write or a read with an act, nothing on its channel is
-- uncommitted, and no number is used up
pub record IsImmediate (m : Map) (tag : Tag) (op : Op) : Type 0 where
  pub move : is_read_or_write op ≡ true
  pub act : HasActs (operate (m (chan_of op)).channel tag.seat None op)
  pub clean : (m (chan_of op)).pending ≡ 0
  pub rises : (is_worn tag.serial || is_worn (greatest m tag.stamp (chan_of op ∷ []))) ≡ false
