-- The value of a channel in a contract, and its invariant.
use Rattle.std.specs.Prelude.{◌≡◌, ℕ, ◌≤◌, Bool, false, Option, List, [], ◌∷◌, map, length, is_some, ◌&&◌}
use Rattle.std.specs.Prelude.{if◌then◌else◌, ◌≢◌, Result, IfOk, IfErr, OnErr}
use Rattle.txc_base.specs.declared.entry.Entry.{Entry}
use Rattle.txc_base.specs.declared.item.Item.{Item}
use Rattle.txc_base.specs.declared.kind.Kind.{Kind}
use Rattle.txc_base.specs.declared.stop.Stop.{Stop}
use Rattle.txc_base.specs.declared.stop.Stop.TheVariants as stop
use Rattle.txc_base.specs.declared.tag.Tag.{Tag}
use Rattle.txc_base.specs.Channel.{Channel, opening, list_of}
use Rattle.txc_base.specs.InOrder.{IsInOrder, written}
use Rattle.txc_base.specs.Kinds.{is_broadcast}
use Rattle.txc_base.specs.Log.{IsTrueTo}
use Rattle.txc_base.specs.Next.{IsNext}
use Rattle.txc_base.specs.Once.{IsOnce}
use Rattle.txc_base.specs.StaysClosedLaw.{StaysClosed}
use Rattle.txc_base.specs.Operation.{Did, Replies, Waits, says, with_body, with_list, while_open, with_room, with_left}
use Rattle.txc_base.specs.Operation.{HasActs, is_plain_bounded, is_full, wrote, next_written, put_back, next_back}
use Rattle.txc_base.specs.declared.act.Act.TheVariants.{Took}
use Rattle.txc_base.specs.declared.cause.Cause.TheVariants as cause
use Rattle.txc_base.specs.declared.reply.Reply.TheVariants as reply
use Rattle.txc_chan.specs.declared.account.Account.{Account}
use Rattle.txc_chan.specs.declared.answer.Answer.{Answer}
use Rattle.txc_chan.specs.declared.answer.Answer.TheVariants.{Replied, Retry}
use Rattle.txc_chan.specs.declared.body.Body.{Body}
use Rattle.txc_chan.specs.declared.summary.Summary.{Summary}
use Rattle.txc_chan.specs.declared.decl.Decl.{Decl}
use Rattle.txc_chan.specs.Body.{HasWrittenAll, IsOfKind, slots_for, HasRoomFor, last_entries, channel_of}
use Rattle.txc_chan.specs.ChanView.{ChanView}
use Rattle.txc_chan.specs.Logged.{on_log, did, Stopped, UnlessReplied}

-- the invariant of a channel: it agrees with its log, and has room to undo exactly the last entries
pub record IsSoundChan (decl : Decl) (body : Body) (closed : Bool) (count backs : ℕ) (log : List Entry) (pending : ℕ)
    : Type 0 where
  pub lawful : IsTrueTo decl.kind decl.bound decl.readers log (channel_of decl.kind body closed count backs)
  pub within : pending ≤ length log
  pub ready : HasRoomFor body (last_entries pending log)
  pub stocked : HasWrittenAll body (written log)

-- the whole invariant: also, its items are those of its kind and of its type of log
pub record IsChan (shelves : Bool) (decl : Decl) (body : Body) (closed : Bool) (count backs : ℕ) (log : List Entry)
    (pending : ℕ) : Type 0 where
  pub sound : IsSoundChan decl body closed count backs log pending
  pub fits : IsOfKind shelves decl.kind body

-- a broadcast channel has a slot for each written item, and a shelf if its type of log uses them; a queue has neither
pub record IsShelved (shelves : Bool) (held : ChanView) : Type 0 where
  pub slots : length held.slots ≡ slots_for held.logged.decl.kind (written held.logged.log)
  pub shelf : is_some held.shelf ≡ (shelves && is_broadcast held.logged.decl.kind)

-- the laws of logs for this kind, this log and the lists that it leaves; `once` is only for a queue
pub record ObeysLaws (kind : Kind) (log : List Entry) (lists : List (List Item)) : Type 0 where
  pub in_order : IsInOrder log lists
  pub next : IsNext log lists
  pub stays_closed : StaysClosed log
  pub once : is_broadcast kind ≡ false → (list : List Item) × ((lists ≡ list ∷ []) × IsOnce log list)

-- the outcome of a result that changes nothing
abbrev pub unchanged : Answer → Channel → Did
unchanged (Replied reply) channel = says reply channel
unchanged (Retry cause) channel = Waits cause

-- a write, as `operate` defines it (stm, stm-chans)
abbrev pub writing : Channel → ℕ → Option ℕ → Did → Did
writing c seat body without = with_body body (λ b. while_open c (with_room c without (wrote c (next_written c seat b))))

-- a put-back to a reader, as `operate` defines it (stm, stm-chans)
abbrev pub putting_back : Channel → ℕ → ℕ → Option ℕ → Did
putting_back c seat reader body = with_body body (λ b. with_list (list_of c reader) (λ list. while_open c
    (if is_plain_bounded c.kind && is_full c then Waits cause.Full else put_back c reader list (next_back c seat b))))

-- a flush, as `operate` defines it (stm)
abbrev pub flushing : Channel → ℕ → List Item → Did
flushing c reader list = Replies (reply.All list) (map (Took reader) list) (with_left c reader [])

-- the snapshot of a channel with its log
abbrev pub account_of : ChanView → Account
account_of held = record {
  kind = held.logged.decl.kind;
  bound = held.logged.channel.bound;
  first_readers = length (opening held.logged.decl.kind held.logged.decl.bound held.logged.decl.readers).lists;
  closed = held.logged.channel.closed;
  log = held.logged.log;
  remaining = held.logged.channel.lists;
  slots = held.slots;
}

-- a snapshot with an empty log
abbrev pub without_log : Account → Account
without_log account = record account { log = [] }

-- the snapshot of a channel without its log
abbrev pub summary_of : ChanView → Summary
summary_of held = record {
  kind = held.logged.decl.kind;
  bound = held.logged.channel.bound;
  closed = held.logged.channel.closed;
  log_len = length held.logged.log;
  remaining = held.logged.channel.lists;
}

-- a transaction did this to a channel; without a reply it changes nothing, and `NoMemory` is only possible with acts
pub record Does (what : Did) (tag : Tag) (old : ChanView) (result : Result Answer Stop) (new : ChanView) : Type 0 where
  pub ok : IfOk result (λ answer. on_log old.logged tag what ≡ did answer new.logged)
  pub retry : IfOk result (λ answer. UnlessReplied answer (new ≡ old))
  pub err : IfErr result (λ e. e ≢ stop.NoMemory → on_log old.logged tag what ≡ Stopped e)
  pub memory : IfErr result (λ e. e ≡ stop.NoMemory → HasActs what)
  pub unchanged : OnErr result (new ≡ old)
  pub shelf : new.shelf ≡ old.shelf
