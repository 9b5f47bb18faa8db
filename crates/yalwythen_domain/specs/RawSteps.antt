-- The meaning of the numbers of declarations and raw steps, and the results of replies.
use Rattle.std.specs.Prelude.{◌≡◌, ℕ, ◌<◌, ◌-◌, ◌^◌, nat_eq, min, drop, take, map, if◌then◌else◌}
use Rattle.std.specs.Prelude.{Bool, true, false, Option, Some, None, List, [], ◌∷◌, length, slice_get}
use Rattle.txc_base.specs.declared.kind.Kind.TheVariants.{Queue, Bounded, Cast, MQueue, BMQueue, MCast}
use Rattle.txc_base.specs.declared.op.Op.TheVariants.{Write, TryWrite, Read, TryRead, Peek, TryPeek, PutBack, Close}
use Rattle.txc_base.specs.declared.op.Op.TheVariants.{IsClosed, IsEmpty, IsFull, Flush, Length, Dup, CloneReader}
use Rattle.txc_base.specs.declared.reply.Reply.{Reply}
use Rattle.txc_base.specs.declared.reply.Reply.TheVariants.{Done, Got, Full, Empty, Closed, Flag, Reader, Count, All}
use Rattle.txc_base.specs.declared.source.Source.TheVariants.{Lit, Last}
use Rattle.txc_chan.specs.declared.decl.Decl.{Decl}
use Rattle.txc_txn_check.specs.declared.step.Step.{Step}
use Rattle.txc_txn_check.specs.declared.step.Step.TheVariants.{Do, Retry}
use Rattle.yalwythen_domain.specs.declared.raw_steps.RawStep.{RawStep}
use Rattle.yalwythen_domain.specs.declared.call_result.CallResult.{CallResult}
use Rattle.yalwythen_domain.specs.Domain.{DomainState}

-- the declarations by the numbers of their kinds from 0, with this bound or this many readers
abbrev pub decls_with : ℕ → List Decl
decls_with size =
    record { kind = Queue; bound = 0; readers = 1 }
    ∷ record { kind = Bounded; bound = size; readers = 1 }
    ∷ record { kind = MQueue; bound = 0; readers = 1 }
    ∷ record { kind = BMQueue; bound = size; readers = 1 }
    ∷ record { kind = Cast; bound = 0; readers = size }
    ∷ record { kind = MCast; bound = 0; readers = size }
    ∷ []

-- the steps by their numbers from 0, on a channel, and by a reader and with a body if they have one
abbrev pub steps_with : ℕ → ℕ → ℕ → List Step
steps_with chan reader body =
    Do (Write chan (Lit body))
    ∷ Do (TryWrite chan (Lit body))
    ∷ Do (Read chan reader)
    ∷ Do (TryRead chan reader)
    ∷ Do (Peek chan reader)
    ∷ Do (TryPeek chan reader)
    ∷ Do (PutBack chan reader (Lit body))
    ∷ Do (Close chan)
    ∷ Do (IsClosed chan)
    ∷ Do (IsEmpty chan reader)
    ∷ Do (IsFull chan)
    ∷ Do (Length chan)
    ∷ Do (Write chan Last)
    ∷ Do (TryWrite chan Last)
    ∷ Do (PutBack chan reader Last)
    ∷ Retry
    ∷ Do (Flush chan reader)
    ∷ Do (Dup chan)
    ∷ Do (CloneReader chan reader)
    ∷ []

-- the step that a raw step is
abbrev pub step_of : RawStep → Option Step
step_of raw_step = slice_get (steps_with raw_step.chan raw_step.reader raw_step.body) raw_step.number

-- a raw step is a step, and not a mark of alternatives
abbrev pub IsPlain : RawStep → Type 0
IsPlain raw_step = raw_step.number < 19

-- 1 if it is true, otherwise 0
abbrev pub as_number : Bool → ℕ
as_number true = 1
as_number false = 0

-- the result of a reply: its code, and its body, flag, number or number of items
abbrev pub response_of : Reply → CallResult
response_of Done = record { code = 0; value = 0 }
response_of (Got item) = record { code = 1; value = item.body }
response_of Full = record { code = 2; value = 0 }
response_of Empty = record { code = 3; value = 0 }
response_of Closed = record { code = 4; value = 0 }
response_of (Flag flag) = record { code = 5; value = as_number flag }
response_of (Reader reader) = record { code = 6; value = reader }
response_of (Count count) = record { code = 7; value = count }
response_of (All items) = record { code = 8; value = length items }

-- the result of a reply, or that there is none
abbrev pub reply_response : Option Reply → CallResult
reply_response (Some reply) = response_of reply
reply_response None = record { code = 64; value = 0 }

-- the last one of these replies, if there is one
abbrev pub last_reply : List Reply → Option Reply
last_reply replies = slice_get replies (length replies - 1)

-- a reply of the last committed transaction by its number; the greatest number is the open transaction's last reply
abbrev pub reply_in : DomainState → ℕ → Option Reply
reply_in state number = if nat_eq number (2 ^ 64 - 1) then last_reply state.channels.txn.trace.replies.items
    else slice_get state.last.replies number

-- the result of reading a reply's items, and the array after it: bodies from `from` on, as many as fit, or no change
abbrev pub HasItems : Option Reply → ℕ → List ℕ → List ℕ → CallResult → Type 0
HasItems (Some (All items)) from old new response = let rest = drop from (map (λ item. item.body) items) in
    (response ≡ record { code = 0; value = length items })
    × (take (min (length rest) (length old)) new ≡ take (min (length rest) (length old)) rest)
HasItems reply from old new response = (response ≡ record { code = 64; value = 0 }) × (new ≡ old)
