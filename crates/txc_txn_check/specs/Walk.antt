-- The walk over steps that finds the first fault.
use Rattle.std.specs.Prelude.{ℕ, suc, ◌+◌, not, nat_eq, nat_lt, nat_le, Option, Some, None, List, [], ◌∷◌, map, length}
use Rattle.std.specs.Prelude.{if◌then◌else◌}
use Rattle.txc_base.specs.declared.kind.Kind.{Kind}
use Rattle.txc_base.specs.declared.op.Op.{Op}
use Rattle.txc_base.specs.Kinds.{allowed_for, names_its_reader}
use Rattle.txc_base.specs.Op.{chan_of}
use Rattle.txc_txn_check.specs.declared.fault.TxnFault.{TxnFault}
use Rattle.txc_txn_check.specs.declared.fault.TxnFault.TheVariants.{NoChannel, NotForKind, NoReader, TooManyChannels}
use Rattle.txc_txn_check.specs.declared.fault.TxnFault.TheVariants.{TooDeep, TooLong}
use Rattle.txc_txn_check.specs.declared.step.Step.{Step, Step-F, fold-Step}
use Rattle.txc_txn_check.specs.declared.step.Step.TheOpen.{Do, Or, Retry}
use Rattle.txc_txn_check.specs.Limits.{max_declared, max_nested, max_operations}

-- how many operations were seen, and their channels in rising order
pub record Tally : Type 0 where
  pub operations : ℕ
  pub channels : List ℕ

-- the state of a walk: no fault yet, or the first one
pub data Walked : Type 0 where
  Fine : Tally → Walked
  Faulty : TxnFault → Walked

-- the next part of a walk, if there was no fault
abbrev pub then_on : Walked → (Tally → Walked) → Walked
then_on (Fine tally) next = next tally
then_on (Faulty fault) next = Faulty fault

-- rising channels with one more, unless it is already there
abbrev pub with_channel : ℕ → List ℕ → List ℕ
with_channel n [] = n ∷ []
with_channel n (c ∷ channels) = if nat_lt c n then c ∷ with_channel n channels
    else if nat_eq c n then c ∷ channels else n ∷ c ∷ channels

-- an operation is counted, unless its channel is one too many
abbrev pub tallied : ℕ → Tally → Walked
tallied n tally = if nat_lt max_declared (length (with_channel n tally.channels)) then Faulty TooManyChannels
    else Fine (record { operations = tally.operations + 1; channels = with_channel n tally.channels })

-- an operation on a channel of this kind; without a kind the channel doesn't exist
abbrev pub on_kind : Option Kind → Op → Tally → Walked
on_kind None op tally = Faulty NoChannel
on_kind (Some kind) op tally = if not (allowed_for kind op) then Faulty NotForKind
    else if not (names_its_reader kind op) then Faulty NoReader
    else tallied (chan_of op) tally

-- an operation
abbrev pub walk_op : (ℕ → Option Kind) → Op → Tally → Walked
walk_op kinds op tally = if nat_le max_operations tally.operations then Faulty TooLong else on_kind
    (kinds (chan_of op)) op tally

-- one after another, inside this number of alternatives
abbrev pub in_turn : List (ℕ → Tally → Walked) → ℕ → Tally → Walked
in_turn [] depth tally = Fine tally
in_turn (walk ∷ walks) depth tally = then_on (walk depth tally) (in_turn walks depth)

-- a step, at one layer; an alternative is tested before its branches
abbrev pub walk_layer : (ℕ → Option Kind) → Step-F (ℕ → Tally → Walked) → ℕ → Tally → Walked
walk_layer kinds (Do op) depth tally = walk_op kinds op tally
walk_layer kinds (Or branches) depth tally = if nat_le max_nested depth then Faulty TooDeep
    else in_turn (map in_turn branches) (suc depth) tally
walk_layer kinds Retry depth tally = Fine tally

-- a step
abbrev pub walk_step : (ℕ → Option Kind) → Step → ℕ → Tally → Walked
walk_step kinds = fold-Step (ℕ → Tally → Walked) (walk_layer kinds)

-- steps, in order
abbrev pub walk_steps : (ℕ → Option Kind) → List Step → ℕ → Tally → Walked
walk_steps kinds steps = in_turn (map (walk_step kinds) steps)

-- branches, in order
abbrev pub walk_branches : (ℕ → Option Kind) → List (List Step) → ℕ → Tally → Walked
walk_branches kinds branches = in_turn (map (walk_steps kinds) branches)

-- nothing seen
abbrev pub nothing_seen : Tally
nothing_seen = record { operations = 0; channels = [] }

-- all steps of a transaction
abbrev pub walk : (ℕ → Option Kind) → List Step → Walked
walk kinds steps = walk_steps kinds steps 0 nothing_seen
