-- The changes that acts make, and the changes that a transaction waits for.
use Rattle.std.specs.Prelude.{ℕ, Bool, true, false, nat_le, Option, Some, None, is_some}
use Rattle.std.specs.Prelude.{unwrap_or, option_map, List, [], ◌∷◌, length, map, if◌then◌else◌}
use Rattle.std.specs.List.{list_any}
use Rattle.std.specs.Option.{option_and_then}
use Rattle.txc_base.specs.declared.act.Act.{Act}
use Rattle.txc_base.specs.declared.act.Act.TheVariants.{Wrote, Took, PutBack as PutBackAct, Closed, Begun, Cloned}
use Rattle.txc_base.specs.declared.kind.Kind.{Kind}
use Rattle.txc_base.specs.declared.op.Op.{Op}
use Rattle.txc_base.specs.declared.op.Op.TheVariants.{Write, TryWrite, Read, TryRead, Peek, TryPeek, PutBack, Close}
use Rattle.txc_base.specs.declared.op.Op.TheVariants.{IsClosed, IsEmpty, IsFull, Dup, CloneReader, Flush, Length}
use Rattle.txc_base.specs.Kinds.{is_bounded}
use Rattle.txc_table_wait.specs.declared.change.Change.{Change}
use Rattle.txc_table_wait.specs.declared.change.Change.TheVariants.{Any, Removed, Added}
use Rattle.txc_table_wait.specs.declared.change.Interest.{Interest}
use Rattle.txc_txn_check.specs.declared.step.Step.{Step, Step-F}
use Rattle.txc_txn_check.specs.declared.step.Step.TheOpen.{Do, Or, Retry}
use Rattle.txc_txn_check.specs.declared.step.Step.TheViews.{out-Step}
use Rattle.txc_txn_check.specs.Limits.{max_declared}

-- how an act changes its channel: an item is added, an item is taken, or something else changes
abbrev pub changed_by : Act → Change
changed_by (Wrote item) = Added
changed_by (Took reader item) = Removed
changed_by (PutBackAct reader item) = Added
changed_by Closed = Any
changed_by (Begun reader) = Any
changed_by (Cloned source reader) = Any

-- an interest in any change of a channel
abbrev pub any_of : ℕ → Interest
any_of chan = record { chan = chan; change = Any }

-- an interest in any change of each of these channels
abbrev pub any_of_all : List ℕ → List Interest
any_of_all chans = map any_of chans

-- an interest in an item in a channel
abbrev pub item_in : ℕ → Interest
item_in chan = record { chan = chan; change = Added }

-- an interest in room in a channel
abbrev pub room_in : ℕ → Interest
room_in chan = record { chan = chan; change = Removed }

-- a test: the channel exists, and its kind has a bound
abbrev pub has_bound : Option Kind → Bool
has_bound None = false
has_bound (Some kind) = is_bounded kind

-- an interest in room in a channel if its kind has a bound; otherwise nothing
abbrev pub room_awaited : (ℕ → Option Kind) → ℕ → Option Interest
room_awaited kinds chan = if has_bound (kinds chan) then Some (room_in chan) else None

-- what an operation waits for: `Read` and `Peek` for an item; `Write` and `PutBack` for room if the channel has a
-- bound; other operations for nothing
abbrev pub awaited : (ℕ → Option Kind) → Op → Option Interest
awaited kinds (Read chan reader) = Some (item_in chan)
awaited kinds (Peek chan reader) = Some (item_in chan)
awaited kinds (Write chan body) = room_awaited kinds chan
awaited kinds (PutBack chan reader body) = room_awaited kinds chan
awaited kinds (TryWrite chan body) = None
awaited kinds (TryRead chan reader) = None
awaited kinds (TryPeek chan reader) = None
awaited kinds (Close chan) = None
awaited kinds (IsClosed chan) = None
awaited kinds (IsEmpty chan reader) = None
awaited kinds (IsFull chan) = None
awaited kinds (Dup chan) = None
awaited kinds (CloneReader chan reader) = None
awaited kinds (Flush chan reader) = None
awaited kinds (Length chan) = None

-- a test: a step can wait, looking at one layer: an operation that awaits something, or a step that is no operation
abbrev pub can_wait_layer : (ℕ → Option Kind) → Step-F Step → Bool
can_wait_layer kinds (Do op) = is_some (awaited kinds op)
can_wait_layer kinds (Or branches) = true
can_wait_layer kinds Retry = true

-- a test: a step can wait
abbrev pub can_wait : (ℕ → Option Kind) → Step → Bool
can_wait kinds step = can_wait_layer kinds (out-Step step)

-- what a step awaits if it is an operation; otherwise nothing
abbrev pub step_awaited : (ℕ → Option Kind) → Step-F Step → Option Interest
step_awaited kinds (Do op) = awaited kinds op
step_awaited kinds (Or branches) = None
step_awaited kinds Retry = None

-- what the first operation of a branch awaits; `None` if a later step can wait too
abbrev pub first_awaited : (ℕ → Option Kind) → List Step → Option Interest
first_awaited kinds [] = None
first_awaited kinds (first ∷ rest) = if list_any (can_wait kinds) rest then None
    else step_awaited kinds (out-Step first)

-- one more interest before these, if both exist
abbrev pub with_interest : Option Interest → Option (List Interest) → Option (List Interest)
with_interest interest interests = option_and_then (λ w. option_map (λ ws. w ∷ ws) interests) interest

-- what the first operations of these branches await; `None` if one of them has no such interest
abbrev pub branch_interests : (ℕ → Option Kind) → List (List Step) → Option (List Interest)
branch_interests kinds [] = Some []
branch_interests kinds (branch ∷ branches) = with_interest (first_awaited kinds branch)
    (branch_interests kinds branches)

-- these interests, unless there are more than a transaction has channels
abbrev pub few : List Interest → Option (List Interest)
few interests = if nat_le (length interests) max_declared then Some interests else None

-- what the first step of a transaction awaits, looking at one layer
abbrev pub step_interests : (ℕ → Option Kind) → Step-F Step → Option (List Interest)
step_interests kinds (Do op) = option_map (λ interest. interest ∷ []) (awaited kinds op)
step_interests kinds (Or branches) = option_and_then few (branch_interests kinds branches)
step_interests kinds Retry = None

-- what the first of these steps awaits; `None` if a later step can wait too
abbrev pub first_interests : (ℕ → Option Kind) → List Step → Option (List Interest)
first_interests kinds [] = None
first_interests kinds (first ∷ rest) = if list_any (can_wait kinds) rest then None
    else step_interests kinds (out-Step first)

-- what a transaction waits for: what its first step awaits, or, if that is not all, any change of its channels
abbrev pub interests_of : (ℕ → Option Kind) → List ℕ → List Step → List Interest
interests_of kinds declared steps = unwrap_or (first_interests kinds steps) (any_of_all declared)
