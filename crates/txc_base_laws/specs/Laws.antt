-- What holds for every channel that is true to its log.
use Rattle.std.specs.Prelude.{◌≡◌, ℕ, ◌+◌, ◌≤◌, Bool, true, false, Option, Some, List, [], ◌∷◌, ◌++◌, length, slice_get}
use Rattle.std.specs.List.{list_any}
use Rattle.txc_base.specs.declared.act.Act.{Act}
use Rattle.txc_base.specs.declared.act.Act.TheVariants.{Took, Closed}
use Rattle.txc_base.specs.declared.entry.Entry.{Entry}
use Rattle.txc_base.specs.declared.item.Item.{Item}
use Rattle.txc_base.specs.declared.kind.Kind.{Kind}
use Rattle.txc_base.specs.declared.op.Op.{Op}
use Rattle.txc_base.specs.declared.reply.Reply.{Reply}
use Rattle.txc_base.specs.declared.tag.Tag.{Tag}
use Rattle.txc_base.specs.Channel.{Channel, opening}
use Rattle.txc_base.specs.declared.limits.TheConstants.{MAX_READERS}
use Rattle.txc_base.specs.Counts.{put}
use Rattle.txc_base.specs.InOrder.{written, is_written}
use Rattle.txc_base.specs.Kinds.{is_broadcast, is_closable, allowed_for}
use Rattle.txc_base.specs.Log.{IsTrueTo, after, state, entries}
use Rattle.txc_base.specs.Operation.{operate, Replies}
use Rattle.txc_base_laws.specs.Undone.{undone}

-- a fact about every log and the lists after it, for each declaration
abbrev pub Always : (List Entry → List (List Item) → Type 0) → Type 0
Always fact = (kind : Kind) (bound readers : ℕ) (log : List Entry) (channel : Channel)
    → IsTrueTo kind bound readers log channel
    → fact log channel.lists

-- a fact about every log of a queue and the one list after it
abbrev pub InQueues : (List Entry → List Item → Type 0) → Type 0
InQueues fact = (kind : Kind) (bound readers : ℕ) (log : List Entry) (channel : Channel) → is_broadcast kind ≡ false
    → IsTrueTo kind bound readers log channel → (list : List Item) × ((channel.lists ≡ list ∷ []) × fact log list)

-- the acts of an operation, logged in order, lead to the channel after the operation
abbrev pub LogsItsActs : Type 0
LogsItsActs = (channel left : Channel) (tag : Tag) (last : Option ℕ) (op : Op) (reply : Reply) (acts : List Act)
    → allowed_for channel.kind op ≡ true
    → operate channel tag.seat last op ≡ Replies reply acts left → state (Some channel) (entries tag acts) ≡ Some left

-- after an operation the channel is true to the log with the operation's acts
abbrev pub StaysTrue : Type 0
StaysTrue = (kind : Kind) (bound readers : ℕ) (log : List Entry) (channel left : Channel) (tag : Tag) (last : Option ℕ)
    (op : Op) (reply : Reply) (acts : List Act)
    → IsTrueTo kind bound readers log channel → allowed_for kind op ≡ true
    → operate channel tag.seat last op ≡ Replies reply acts left
    → IsTrueTo kind bound readers (log ++ entries tag acts) left

-- two channels that are true to one log, under one declaration, are equal
abbrev pub IsDetermined : Type 0
IsDetermined = (kind : Kind) (bound readers : ℕ) (log : List Entry) (channel other : Channel)
    → IsTrueTo kind bound readers log channel → IsTrueTo kind bound readers log other → channel ≡ other

-- undoing the act of an entry yields the channel before the entry
abbrev pub TakesBack : Type 0
TakesBack = (channel left : Channel) (entry : Entry) → after channel entry ≡ Some left → undone left entry.act ≡ channel

-- after undoing the act of the last entry, the channel is true to the log without that entry
abbrev pub StaysTrueBack : Type 0
StaysTrueBack = (kind : Kind) (bound readers : ℕ) (log : List Entry) (entry : Entry) (left : Channel)
    → IsTrueTo kind bound readers (log ++ entry ∷ []) left → IsTrueTo kind bound readers log (undone left entry.act)

-- a written item that the last entry took is the one written just before the reader's remaining items
abbrev pub TakesInOrder : Type 0
TakesInOrder = (kind : Kind) (bound readers : ℕ) (log : List Entry) (tag : Tag) (reader : ℕ) (item : Item)
    (left : Channel) (rest : List Item)
    → IsTrueTo kind bound readers (log ++ record { tag = tag; act = Took reader item } ∷ []) left
    → is_written item.origin ≡ true
    → slice_get left.lists reader ≡ Some rest → (front : List Item) × (written log ≡ front ++ item ∷ rest)

-- what a channel keeps of its declaration
pub record KeepsDeclared (kind : Kind) (bound readers : ℕ) (channel : Channel) : Type 0 where
  pub same_kind : channel.kind ≡ kind
  pub same_bound : channel.bound ≡ (opening kind bound readers).bound
  pub first_readers : length (opening kind bound readers).lists ≤ length channel.lists
  pub few_readers : length (opening kind bound readers).lists ≤ MAX_READERS → length channel.lists ≤ MAX_READERS
  -- a closed channel is of a kind that can be closed
  pub closable : channel.closed ≡ true → is_closable kind ≡ true

-- every channel that is true to its log keeps its declaration
abbrev pub AlwaysKeeps : Type 0
AlwaysKeeps = (kind : Kind) (bound readers : ℕ) (log : List Entry) (channel : Channel)
    → IsTrueTo kind bound readers log channel
    → KeepsDeclared kind bound readers channel

-- a test: a closing
abbrev pub is_closing : Act → Bool
is_closing Closed = true
is_closing act = false

-- a channel is closed exactly if its log has a closing (stm-chans)
abbrev pub IsClosedByItsLog : Type 0
IsClosedByItsLog = (kind : Kind) (bound readers : ℕ) (log : List Entry) (channel : Channel)
    → IsTrueTo kind bound readers log channel
    → channel.closed ≡ list_any (λ entry. is_closing entry.act) log

-- the counts of a channel are those of its log
abbrev pub IsNumbered : Type 0
IsNumbered = (kind : Kind) (bound readers : ℕ) (log : List Entry) (channel : Channel)
    → IsTrueTo kind bound readers log channel
    → (channel.written ≡ length (written log)) × (channel.written + channel.backs ≡ put log)
