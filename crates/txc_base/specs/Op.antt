-- The channel, the reader, the body and the word of an operation.
use Rattle.std.specs.Prelude.{ℕ, List, Option, Some, None, codes}
use Rattle.txc_base.specs.declared.op.Op.{Op}
use Rattle.txc_base.specs.declared.op.Op.TheVariants.{Write, TryWrite, Read, TryRead, Peek, TryPeek, PutBack, Close}
use Rattle.txc_base.specs.declared.op.Op.TheVariants.{IsClosed, IsEmpty, IsFull, Dup, CloneReader, Flush, Length}
use Rattle.txc_base.specs.declared.source.Source.{Source}

-- the number of the channel that an operation is on
abbrev pub chan_of : Op → ℕ
chan_of (Write chan body) = chan
chan_of (TryWrite chan body) = chan
chan_of (Read chan reader) = chan
chan_of (TryRead chan reader) = chan
chan_of (Peek chan reader) = chan
chan_of (TryPeek chan reader) = chan
chan_of (PutBack chan reader body) = chan
chan_of (Close chan) = chan
chan_of (IsClosed chan) = chan
chan_of (IsEmpty chan reader) = chan
chan_of (IsFull chan) = chan
chan_of (Dup chan) = chan
chan_of (CloneReader chan reader) = chan
chan_of (Flush chan reader) = chan
chan_of (Length chan) = chan

-- the number of the reader that an operation names, if it names one
abbrev pub reader_of : Op → Option ℕ
reader_of (Write chan body) = None
reader_of (TryWrite chan body) = None
reader_of (Read chan reader) = Some reader
reader_of (TryRead chan reader) = Some reader
reader_of (Peek chan reader) = Some reader
reader_of (TryPeek chan reader) = Some reader
reader_of (PutBack chan reader body) = Some reader
reader_of (Close chan) = None
reader_of (IsClosed chan) = None
reader_of (IsEmpty chan reader) = Some reader
reader_of (IsFull chan) = None
reader_of (Dup chan) = None
reader_of (CloneReader chan reader) = Some reader
reader_of (Flush chan reader) = Some reader
reader_of (Length chan) = None

-- the source of the body that an operation writes or puts back, if it does either
abbrev pub source_of : Op → Option Source
source_of (Write chan body) = Some body
source_of (TryWrite chan body) = Some body
source_of (Read chan reader) = None
source_of (TryRead chan reader) = None
source_of (Peek chan reader) = None
source_of (TryPeek chan reader) = None
source_of (PutBack chan reader body) = Some body
source_of (Close chan) = None
source_of (IsClosed chan) = None
source_of (IsEmpty chan reader) = None
source_of (IsFull chan) = None
source_of (Dup chan) = None
source_of (CloneReader chan reader) = None
source_of (Flush chan reader) = None
source_of (Length chan) = None

-- the word of an operation in a script
abbrev pub word_of : Op → List ℕ
word_of (Write chan body) = codes "write"
word_of (TryWrite chan body) = codes "try-write"
word_of (Read chan reader) = codes "read"
word_of (TryRead chan reader) = codes "try-read"
word_of (Peek chan reader) = codes "peek"
word_of (TryPeek chan reader) = codes "try-peek"
word_of (PutBack chan reader body) = codes "put-back"
word_of (Close chan) = codes "close"
word_of (IsClosed chan) = codes "is-closed"
word_of (IsEmpty chan reader) = codes "is-empty"
word_of (IsFull chan) = codes "is-full"
word_of (Dup chan) = codes "dup"
word_of (CloneReader chan reader) = codes "clone"
word_of (Flush chan reader) = codes "flush"
word_of (Length chan) = codes "length"
