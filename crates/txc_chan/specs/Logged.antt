-- A channel with its declaration and its log, and what the calls do to it.
use Rattle.std.specs.Prelude.{◌≡◌, ℕ, ◌+◌, Option, List, [], ◌∷◌, ◌++◌, length}
use Rattle.txc_base.specs.declared.act.Act.{Act}
use Rattle.txc_base.specs.declared.cause.Cause.{Cause}
use Rattle.txc_base.specs.declared.entry.Entry.{Entry}
use Rattle.txc_base.specs.declared.op.Op.{Op}
use Rattle.txc_base.specs.declared.reply.Reply.{Reply}
use Rattle.txc_base.specs.declared.stop.Stop.{Stop}
use Rattle.txc_base.specs.declared.tag.Tag.{Tag}
use Rattle.txc_base.specs.Channel.{Channel, opening}
use Rattle.txc_base.specs.Log.{IsTrueTo, entries}
use Rattle.txc_base.specs.Operation.{Did, Replies, Waits, Stops, operate}
use Rattle.txc_chan.specs.declared.answer.Answer.{Answer}
use Rattle.txc_chan.specs.declared.answer.Answer.TheVariants.{Replied, Retry}
use Rattle.txc_chan.specs.declared.decl.Decl.{Decl}

-- a channel, its declaration and log, how many last entries can be undone, and the stamp of its last commit
pub record Logged : Type 0 where
  pub decl : Decl
  pub channel : Channel
  pub log : List Entry
  pub pending : ℕ
  pub stamp : ℕ

-- a new channel (stm, stm-chans)
abbrev pub opened : Decl → Logged
opened decl = record {
  decl = decl;
  channel = opening decl.kind decl.bound decl.readers;
  log = [];
  pending = 0;
  stamp = 0;
}

-- the channel is what its log makes of a new channel with this declaration
abbrev pub MatchesLog : Logged → Type 0
MatchesLog l = IsTrueTo l.decl.kind l.decl.bound l.decl.readers l.log l.channel

-- the channel after these acts of a transaction, which leave it in this state
abbrev pub grown : Logged → Tag → List Act → Channel → Logged
grown l tag acts channel = record {
  decl = l.decl;
  channel = channel;
  log = l.log ++ entries tag acts;
  pending = l.pending + length acts;
  stamp = l.stamp;
}

-- what an operation does to a channel with its log
pub data Done : Type 0 where
  Left : Reply → Logged → Done
  Waiting : Cause → Done
  Stopped : Stop → Done

-- what was done to a channel, with its log
abbrev pub on_log : Logged → Tag → Did → Done
on_log l tag (Replies reply acts channel) = Left reply (grown l tag acts channel)
on_log l tag (Waits cause) = Waiting cause
on_log l tag (Stops stop) = Stopped stop

-- an operation of a transaction, after this body was read or peeked last
abbrev pub op_on : Logged → Tag → Option ℕ → Op → Done
op_on l tag last op = on_log l tag (operate l.channel tag.seat last op)

-- what an operation with this result did
abbrev pub did : Answer → Logged → Done
did (Replied reply) l = Left reply l
did (Retry cause) l = Waiting cause

-- a fact that holds unless the result is a reply
abbrev pub UnlessReplied : Answer → Type 0 → Type 0
UnlessReplied (Replied reply) P = Unit {0}
UnlessReplied (Retry cause) P = P

-- the new channel is the old one without its last entry
abbrev pub Undone : Logged → Logged → Type 0
Undone old new = (entry : Entry) × (old.log ≡ new.log ++ entry ∷ []) × (old.pending ≡ new.pending + 1)
    × (new.stamp ≡ old.stamp) × (new.decl ≡ old.decl)

-- a channel that was settled after its last act, as it was just before
abbrev pub unsettled : ℕ → Logged → Logged
unsettled stamp l = record { decl = l.decl; channel = l.channel; log = l.log; pending = 1; stamp = stamp }

-- the channel with nothing to undo, and this stamp
abbrev pub settled : ℕ → Logged → Logged
settled stamp l = record { decl = l.decl; channel = l.channel; log = l.log; pending = 0; stamp = stamp }
