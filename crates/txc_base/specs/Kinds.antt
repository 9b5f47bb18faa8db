-- The six kinds of channel, and the operations of each.
use Rattle.std.specs.Prelude.{ℕ, Bool, true, false, List, [], ◌∷◌, Option, Some, None, codes, nat_eq, if◌then◌else◌}
use Rattle.std.specs.Prelude.{◌||◌, ◌&&◌, unwrap_or, true as yes, false as no}
use Rattle.std.specs.Cmp.Lexicographic.{pointwise}
use Rattle.txc_base.specs.declared.kind.Kind.{Kind}
use Rattle.txc_base.specs.declared.kind.Kind.TheVariants.{Queue, Bounded, Cast, MQueue, BMQueue, MCast}
use Rattle.txc_base.specs.declared.op.Op.{Op}
use Rattle.txc_base.specs.Op.{reader_of}
use Rattle.txc_base.specs.declared.op.Op.TheVariants.{Write, TryWrite, Read, TryRead, Peek, TryPeek, PutBack, Close}
use Rattle.txc_base.specs.declared.op.Op.TheVariants.{IsClosed, IsEmpty, IsFull, Dup, CloneReader, Flush, Length}

-- the name of a kind (stm, stm-chans)
abbrev pub name_of : Kind → List ℕ
name_of Queue = codes "TQueue"
name_of Bounded = codes "TBQueue"
name_of Cast = codes "TChan"
name_of MQueue = codes "TMQueue"
name_of BMQueue = codes "TBMQueue"
name_of MCast = codes "TMChan"

-- each kind once
abbrev pub kinds : List Kind
kinds = Queue ∷ Bounded ∷ Cast ∷ MQueue ∷ BMQueue ∷ MCast ∷ []

-- the first of these kinds that has this name
abbrev pub named_among : List Kind → List ℕ → Option Kind
named_among [] name = None
named_among (kind ∷ rest) name = if pointwise nat_eq name (name_of kind) then Some kind else named_among rest name

-- the kind with this name (stm, stm-chans)
abbrev pub kind_named : List ℕ → Option Kind
kind_named name = named_among kinds name

-- a queue with a bound (stm, stm-chans)
abbrev pub is_bounded : Kind → Bool
is_bounded Bounded = true
is_bounded BMQueue = true
is_bounded kind = false

-- a channel in which every reader gets every item (stm, stm-chans)
abbrev pub is_broadcast : Kind → Bool
is_broadcast Cast = true
is_broadcast MCast = true
is_broadcast kind = false

-- a channel that can be closed (stm-chans)
abbrev pub is_closable : Kind → Bool
is_closable MQueue = true
is_closable BMQueue = true
is_closable MCast = true
is_closable kind = false

-- a row of the table: for TQueue, TBQueue, TChan, TMQueue, TBMQueue, TMChan
abbrev pub row : Bool → Bool → Bool → Bool → Bool → Bool → Kind → Bool
row queue bounded cast mqueue bmqueue mcast Queue = queue
row queue bounded cast mqueue bmqueue mcast Bounded = bounded
row queue bounded cast mqueue bmqueue mcast Cast = cast
row queue bounded cast mqueue bmqueue mcast MQueue = mqueue
row queue bounded cast mqueue bmqueue mcast BMQueue = bmqueue
row queue bounded cast mqueue bmqueue mcast MCast = mcast

-- which kind has which operation
abbrev pub allowed_for : Kind → Op → Bool
allowed_for kind (Write chan body) = row yes yes yes yes yes yes kind
allowed_for kind (Read chan reader) = row yes yes yes yes yes yes kind
allowed_for kind (TryRead chan reader) = row yes yes yes yes yes yes kind
allowed_for kind (Peek chan reader) = row yes yes yes yes yes yes kind
allowed_for kind (TryPeek chan reader) = row yes yes yes yes yes yes kind
allowed_for kind (PutBack chan reader body) = row yes yes yes yes yes yes kind
allowed_for kind (IsEmpty chan reader) = row yes yes yes yes yes yes kind
allowed_for kind (TryWrite chan body) = row no no no no yes no kind
allowed_for kind (Close chan) = row no no no yes yes yes kind
allowed_for kind (IsClosed chan) = row no no no yes yes yes kind
allowed_for kind (IsFull chan) = row no yes no no yes no kind
allowed_for kind (Dup chan) = row no no yes no no yes kind
allowed_for kind (CloneReader chan reader) = row no no yes no no yes kind
allowed_for kind (Flush chan reader) = row yes yes no no no no kind
allowed_for kind (Length chan) = row no yes no no no no kind

-- a test: an operation names no reader, or one that a channel of the kind can have; a queue has only reader 0
abbrev pub names_its_reader : Kind → Op → Bool
names_its_reader kind op = is_broadcast kind || nat_eq (unwrap_or (reader_of op) 0) 0

-- a test: a kind has an operation, and can have its reader; a queue has only reader 0 (stm, stm-chans)
abbrev pub supports : Kind → Op → Bool
supports kind op = allowed_for kind op && names_its_reader kind op
