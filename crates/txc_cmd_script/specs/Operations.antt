-- Operations, read from the elements of a step.
use Rattle.std.specs.Prelude.{ℕ, nat_le, List, [], ◌∷◌, codes, Option, Some, None, option_and_then, option_map}
use Rattle.std.specs.Prelude.{if◌then◌else◌, nat_eq}
use Rattle.std.specs.Cmp.Lexicographic.{pointwise}
use Rattle.serde_json.specs.Data.{Data}
use Rattle.txc_base.specs.declared.op.Op.{Op}
use Rattle.txc_base.specs.declared.op.Op.TheVariants as op
use Rattle.txc_base.specs.declared.source.Source.{Source}
use Rattle.txc_base.specs.declared.source.Source.TheVariants.{Lit, Last}
use Rattle.txc_cmd_script.specs.declared.step_name.StepName.{StepName}
use Rattle.txc_cmd_script.specs.declared.step_name.StepName.TheVariants as step_name
use Rattle.txc_cmd_script.specs.Tree.{whole, is_text}

-- the step name that is this text
abbrev pub step_name_of : List ℕ → Option StepName
step_name_of text = if pointwise nat_eq text (codes "write") then Some step_name.Write
    else if pointwise nat_eq text (codes "try-write") then Some step_name.TryWrite
    else if pointwise nat_eq text (codes "read") then Some step_name.Read
    else if pointwise nat_eq text (codes "try-read") then Some step_name.TryRead
    else if pointwise nat_eq text (codes "peek") then Some step_name.Peek
    else if pointwise nat_eq text (codes "try-peek") then Some step_name.TryPeek
    else if pointwise nat_eq text (codes "put-back") then Some step_name.PutBack
    else if pointwise nat_eq text (codes "close") then Some step_name.Close
    else if pointwise nat_eq text (codes "is-closed") then Some step_name.IsClosed
    else if pointwise nat_eq text (codes "is-empty") then Some step_name.IsEmpty
    else if pointwise nat_eq text (codes "is-full") then Some step_name.IsFull
    else if pointwise nat_eq text (codes "dup") then Some step_name.Dup
    else if pointwise nat_eq text (codes "clone") then Some step_name.Clone
    else if pointwise nat_eq text (codes "flush") then Some step_name.Flush
    else if pointwise nat_eq text (codes "length") then Some step_name.Length
    else if pointwise nat_eq text (codes "or") then Some step_name.Or
    else if pointwise nat_eq text (codes "retry") then Some step_name.Retry
    else None

-- the largest number of a channel or a reader
abbrev pub max_number : ℕ
max_number = 65535

-- this number, if a channel or a reader can have it
abbrev pub within_most : ℕ → Option ℕ
within_most n = if nat_le n max_number then Some n else None

-- the number of a channel or a reader
abbrev pub number_in : Data → Option ℕ
number_in tree = option_and_then within_most (whole tree)

-- a number as a body, or this source if there is no number
abbrev pub lit_or : Option Source → Option ℕ → Option Source
lit_or other None = other
lit_or other (Some n) = Some (Lit n)

-- a body: a whole number, or `last`
abbrev pub source_in : Data → Option Source
source_in tree = lit_or (if is_text (codes "last") tree then Some Last else None) (whole tree)

-- an operation with a channel and a reader, if both are there
abbrev pub op_with_reader : (ℕ → ℕ → Op) → Option ℕ → Option ℕ → Option Op
op_with_reader op chan reader = option_and_then (λ c. option_map (op c) reader) chan

-- an operation with a channel and a body, if both are there
abbrev pub op_with_body : (ℕ → Source → Op) → Option ℕ → Option Source → Option Op
op_with_body op chan body = option_and_then (λ c. option_map (op c) body) chan

-- an operation on a channel: `chan`
abbrev pub on_chan : (ℕ → Op) → List Data → Option Op
on_chan op [] = None
on_chan op (chan ∷ []) = option_map op (number_in chan)
on_chan op (chan ∷ more ∷ rest) = None

-- an operation by a reader: `chan`, or `chan, reader`; the reader is 0 if it is left out
abbrev pub by_reader : (ℕ → ℕ → Op) → List Data → Option Op
by_reader op [] = None
by_reader op (chan ∷ []) = op_with_reader op (number_in chan) (Some 0)
by_reader op (chan ∷ reader ∷ []) = op_with_reader op (number_in chan) (number_in reader)
by_reader op (chan ∷ reader ∷ more ∷ rest) = None

-- an operation that writes: `chan, body`
abbrev pub of_body : (ℕ → Source → Op) → List Data → Option Op
of_body op [] = None
of_body op (chan ∷ []) = None
of_body op (chan ∷ body ∷ []) = op_with_body op (number_in chan) (source_in body)
of_body op (chan ∷ body ∷ more ∷ rest) = None

-- a put-back: `chan, body`, or `chan, reader, body`; the reader is 0 if it is left out
abbrev pub put_back_of : List Data → Option Op
put_back_of [] = None
put_back_of (chan ∷ []) = None
put_back_of (chan ∷ body ∷ []) = op_with_body (λ c. op.PutBack c 0) (number_in chan) (source_in body)
put_back_of (chan ∷ reader ∷ body ∷ []) =
    option_and_then (λ r. op_with_body (λ c. op.PutBack c r) (number_in chan) (source_in body)) (number_in reader)
put_back_of (chan ∷ reader ∷ body ∷ more ∷ rest) = None

-- the operation by the name of its step and the elements after it; none for `or` and `retry`, which are not operations
abbrev pub op_of : StepName → List Data → Option Op
op_of step_name.Write elements = of_body op.Write elements
op_of step_name.TryWrite elements = of_body op.TryWrite elements
op_of step_name.Read elements = by_reader op.Read elements
op_of step_name.TryRead elements = by_reader op.TryRead elements
op_of step_name.Peek elements = by_reader op.Peek elements
op_of step_name.TryPeek elements = by_reader op.TryPeek elements
op_of step_name.PutBack elements = put_back_of elements
op_of step_name.Close elements = on_chan op.Close elements
op_of step_name.IsClosed elements = on_chan op.IsClosed elements
op_of step_name.IsEmpty elements = by_reader op.IsEmpty elements
op_of step_name.IsFull elements = on_chan op.IsFull elements
op_of step_name.Dup elements = on_chan op.Dup elements
op_of step_name.Clone elements = by_reader op.CloneReader elements
op_of step_name.Flush elements = by_reader op.Flush elements
op_of step_name.Length elements = on_chan op.Length elements
op_of step_name.Or elements = None
op_of step_name.Retry elements = None
