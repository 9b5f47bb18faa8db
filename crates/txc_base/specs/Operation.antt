-- What each operation does to a channel: the tests in their order, then the reply, the acts and the channel after it.
use Rattle.std.specs.Prelude.{ℕ, ◌+◌, ◌<◌, Bool, true, false, ◌&&◌, is_none, nat_le, Option, Some, None, List, []}
use Rattle.std.specs.Prelude.{◌∷◌, ◌++◌, length, map, slice_get, slice_set, if◌then◌else◌}
use Rattle.txc_base.specs.declared.act.Act.{Act}
use Rattle.txc_base.specs.declared.act.Act.TheVariants as act
use Rattle.txc_base.specs.declared.cause.Cause.{Cause}
use Rattle.txc_base.specs.declared.cause.Cause.TheVariants as cause
use Rattle.txc_base.specs.declared.item.Item.{Item}
use Rattle.txc_base.specs.declared.kind.Kind.{Kind}
use Rattle.txc_base.specs.declared.kind.Kind.TheVariants.{Bounded}
use Rattle.txc_base.specs.declared.op.Op.{Op}
use Rattle.txc_base.specs.declared.op.Op.TheVariants.{Write, TryWrite, Read, TryRead, Peek, TryPeek, PutBack, Close}
use Rattle.txc_base.specs.declared.op.Op.TheVariants.{IsClosed, IsEmpty, IsFull, Dup, CloneReader, Flush, Length}
use Rattle.txc_base.specs.declared.origin.Origin.TheVariants.{Written, Back}
use Rattle.txc_base.specs.declared.reply.Reply.{Reply}
use Rattle.txc_base.specs.declared.reply.Reply.TheVariants as reply
use Rattle.txc_base.specs.declared.source.Source.{Source}
use Rattle.txc_base.specs.declared.source.Source.TheVariants.{Lit, Last}
use Rattle.txc_base.specs.declared.stop.Stop.{Stop}
use Rattle.txc_base.specs.declared.stop.Stop.TheVariants.{NothingRead, NoReader, TooManyReaders}
use Rattle.txc_base.specs.Channel.{Channel, list_of, length_of}
use Rattle.txc_base.specs.declared.limits.TheConstants.{MAX_READERS}
use Rattle.txc_base.specs.Kinds.{is_bounded}

-- what an operation does: it replies, with these acts and this channel after it, or waits, or aborts the transaction
pub data Did : Type 0 where
  Replies : Reply → List Act → Channel → Did
  Waits : Cause → Did
  Stops : Stop → Did

-- it has acts, and so needs space in the log
abbrev pub HasActs : Did → Type 0
HasActs (Replies reply acts channel) = 0 < length acts
HasActs (Waits cause) = ⊥
HasActs (Stops stop) = ⊥

-- it only replies, and changes nothing
abbrev pub says : Reply → Channel → Did
says answer channel = Replies answer [] channel

-- the body of a new item, after this one was read or peeked last
abbrev pub body_of : Option ℕ → Source → Option ℕ
body_of last (Lit body) = Some body
body_of last Last = last

-- a test: there is a body; otherwise the transaction aborts
abbrev pub with_body : Option ℕ → (ℕ → Did) → Did
with_body None next = Stops NothingRead
with_body (Some body) next = next body

-- a test: there is such a reader; otherwise the transaction aborts
abbrev pub with_list : Option (List Item) → (List Item → Did) → Did
with_list None next = Stops NoReader
with_list (Some list) next = next list

-- a test: the channel is open; otherwise the reply is `Closed` (stm-chans; the reply is this project's)
abbrev pub while_open : Channel → Did → Did
while_open channel next = if channel.closed then says reply.Closed channel else next

-- a test: a queue is at its bound or over it (stm)
abbrev pub is_full : Channel → Bool
is_full channel = nat_le channel.bound (length_of channel)

-- a test: the channel has no bound, or is below it (stm, stm-chans)
abbrev pub with_room : Channel → Did → Did → Did
with_room channel without next = if is_bounded channel.kind && is_full channel then without else next

-- a test: there can be one more reader; otherwise the transaction aborts
abbrev pub with_place : Channel → Did → Did
with_place channel next = if nat_le MAX_READERS (length channel.lists) then Stops TooManyReaders else next

-- a test: a put-back waits at the bound; one to a closable queue can exceed it (stm-chans)
abbrev pub is_plain_bounded : Kind → Bool
is_plain_bounded Bounded = true
is_plain_bounded kind = false

-- the next item that a seat writes, with this body
abbrev pub next_written : Channel → ℕ → ℕ → Item
next_written channel seat body = record { origin = Written channel.written; seat = seat; body = body }

-- the next item that a seat puts back, with this body
abbrev pub next_back : Channel → ℕ → ℕ → Item
next_back channel seat body = record { origin = Back channel.backs; seat = seat; body = body }

-- the channel with one more item at the end of every reader's list (stm)
abbrev pub with_written : Channel → Item → Channel
with_written channel item = record channel {
  written = channel.written + 1;
  lists = map (λ list. list ++ item ∷ []) channel.lists;
}

-- the channel with another list for one reader
abbrev pub with_left : Channel → ℕ → List Item → Channel
with_left channel reader list = record channel { lists = slice_set channel.lists reader list }

-- the channel with one more item in front of one reader's list (stm)
abbrev pub with_back : Channel → ℕ → List Item → Item → Channel
with_back channel reader list item = record channel {
  backs = channel.backs + 1;
  lists = slice_set channel.lists reader (item ∷ list);
}

-- the channel with one more reader, which has this list (stm)
abbrev pub with_reader : Channel → List Item → Channel
with_reader channel list = record channel { lists = channel.lists ++ list ∷ [] }

-- a write, once there is an item (stm)
abbrev pub wrote : Channel → Item → Did
wrote channel item = Replies reply.Done (act.Wrote item ∷ []) (with_written channel item)

-- a put-back, once there is an item (stm)
abbrev pub put_back : Channel → ℕ → List Item → Item → Did
put_back channel reader list item = Replies reply.Done (act.PutBack reader item ∷ [])
    (with_back channel reader list item)

-- taking the first item, if there is one (stm)
abbrev pub taking : Channel → ℕ → Did → List Item → Did
taking channel reader without [] = while_open channel without
taking channel reader without (item ∷ rest) = Replies (reply.Got item) (act.Took reader item ∷ [])
    (with_left channel reader rest)

-- showing the first item, if there is one (stm)
abbrev pub showing : Channel → Did → List Item → Did
showing channel without [] = while_open channel without
showing channel without (item ∷ rest) = says (reply.Got item) channel

-- closing; a second closing changes nothing (stm-chans)
abbrev pub closing : Channel → Did
closing channel = if channel.closed then says reply.Done channel
    else Replies reply.Done (act.Closed ∷ []) (record channel { closed = true })

-- a new reader that has this list (stm)
abbrev pub reader_made : Channel → (ℕ → Act) → List Item → Did
reader_made channel made list = with_place channel
    (Replies (reply.Reader (length channel.lists)) (made (length channel.lists) ∷ []) (with_reader channel list))

-- an operation by a seat, after this body was read or peeked last (stm, stm-chans)
abbrev pub operate : Channel → ℕ → Option ℕ → Op → Did
operate c seat last (Write chan body) = with_body (body_of last body)
    (λ b. while_open c (with_room c (Waits cause.Full) (wrote c (next_written c seat b))))
operate c seat last (TryWrite chan body) = with_body (body_of last body)
    (λ b. while_open c (with_room c (says reply.Full c) (wrote c (next_written c seat b))))
operate c seat last (Read chan reader) = with_list (list_of c reader) (taking c reader (Waits cause.Empty))
operate c seat last (TryRead chan reader) = with_list (list_of c reader) (taking c reader (says reply.Empty c))
operate c seat last (Peek chan reader) = with_list (list_of c reader) (showing c (Waits cause.Empty))
operate c seat last (TryPeek chan reader) = with_list (list_of c reader) (showing c (says reply.Empty c))
operate c seat last (PutBack chan reader body) = with_body (body_of last body)
    (λ b. with_list (list_of c reader) (λ list. while_open c
    (if is_plain_bounded c.kind && is_full c then Waits cause.Full else put_back c reader list (next_back c seat b))))
operate c seat last (Close chan) = closing c
operate c seat last (IsClosed chan) = says (reply.Flag c.closed) c
operate c seat last (IsEmpty chan reader) = with_list (list_of c reader)
    (λ list. says (reply.Flag (is_none (slice_get list 0))) c)
operate c seat last (IsFull chan) = says (reply.Flag (is_full c)) c
operate c seat last (Dup chan) = reader_made c act.Begun []
operate c seat last (CloneReader chan reader) = with_list (list_of c reader) (reader_made c (act.Cloned reader))
operate c seat last (Flush chan reader) = with_list (list_of c reader)
    (λ list. Replies (reply.All list) (map (act.Took reader) list) (with_left c reader []))
operate c seat last (Length chan) = says (reply.Count (length_of c)) c
