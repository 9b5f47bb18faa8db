-- An operation that is committed at once.
use Rattle.std.specs.Prelude.{◌≡◌, Bool, true, false, None, [], ◌∷◌}
use Rattle.txc_base.specs.declared.act.Act.{Act}
use Rattle.txc_base.specs.declared.act.Act.TheVariants.{Took}
use Rattle.txc_base.specs.declared.op.Op.{Op}
use Rattle.txc_base.specs.declared.op.Op.TheVariants.{Read, TryRead, TryWrite, Write}
use Rattle.txc_base.specs.declared.reply.Reply.{Reply}
use Rattle.txc_base.specs.declared.reply.Reply.TheVariants.{Done, Got}
use Rattle.txc_base.specs.declared.tag.Tag.{Tag}
use Rattle.txc_base.specs.Channel.{Channel}
use Rattle.txc_base.specs.Operation.{Did, HasActs, Replies, operate}
use Rattle.txc_chan.specs.Logged.{Logged, grown, settled}

-- the reply of an operation that had this act: the item of a read, else that it is done
abbrev pub reply_to : Act → Reply
reply_to (Took reader item) = Got item
reply_to act = Done

-- this was done to a channel by one act, which is settled
pub record IsCommitted (tag : Tag) (what : Did) (act : Act) (old new : Logged) : Type 0 where
  pub left : Channel
  pub done : what ≡ Replies (reply_to act) (act ∷ []) left
  pub settles : new ≡ settled tag.stamp (grown old tag (act ∷ []) left)

-- an operation, with nothing read before, was committed by this act
abbrev pub IsCommittedOp : Tag → Op → Act → Logged → Logged → Type 0
IsCommittedOp tag op act old new = IsCommitted tag (operate old.channel tag.seat None op) act old new

-- an operation that takes or adds one item: a write or a read
abbrev pub is_read_or_write : Op → Bool
is_read_or_write (Write chan body) = true
is_read_or_write (TryWrite chan body) = true
is_read_or_write (Read chan reader) = true
is_read_or_write (TryRead chan reader) = true
is_read_or_write op = false

-- what was done has no act: it waits, stops or only replies
abbrev pub HasNoAct : Did → Type 0
HasNoAct what = HasActs what → ⊥
