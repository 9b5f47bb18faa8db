-- A transaction over channels with their logs.
use Rattle.std.specs.Prelude.{ℕ, suc, ◌+◌, max, Bool, ◌||◌, nat_eq, Option, None, List, [], ◌∷◌, ◌++◌, map}
use Rattle.std.specs.Prelude.{length, if◌then◌else◌}
use Rattle.txc_base.specs.declared.act.Act.{Act}
use Rattle.txc_base.specs.declared.cause.Cause.{Cause}
use Rattle.txc_base.specs.declared.cause.Cause.TheVariants.{Asked}
use Rattle.txc_base.specs.declared.limits.TheConstants.{GREATEST_NUMBER}
use Rattle.txc_base.specs.declared.op.Op.{Op}
use Rattle.txc_base.specs.declared.reply.Reply.{Reply}
use Rattle.txc_base.specs.declared.stop.Stop.{Stop}
use Rattle.txc_base.specs.declared.stop.Stop.TheVariants.{Worn}
use Rattle.txc_base.specs.declared.tag.Tag.{Tag}
use Rattle.txc_base.specs.Op.{chan_of}
use Rattle.txc_base.specs.Operation.{Did, Replies, Waits, Stops, operate}
use Rattle.txc_base.specs.Reply.{last_read_after}
use Rattle.txc_chan.specs.Logged.{grown}
use Rattle.txc_txn.specs.declared.deed.Deed.{Deed}
use Rattle.txc_txn_check.specs.declared.step.Step.{Step, Step-F, fold-Step}
use Rattle.txc_txn_check.specs.declared.step.Step.TheOpen.{Do, Or, Retry}
use Rattle.txc_txn.specs.Maps.{Map, put_at}

-- the state of a transaction: its channels, the body it read or peeked last, and its replies and acts so far
pub record State : Type 0 where
  pub chans : Map
  pub last : Option ℕ
  pub replies : List Reply
  pub deeds : List Deed

-- how a transaction, or a part of it, ends: it goes on, it must be retried, or it aborts (stm)
pub data Ending : Type 0 where
  Kept : State → Ending
  Again : Cause → Ending
  Aborted : Stop → Ending

-- one after another; if the first retries or aborts, so do both (stm)
abbrev pub and_then : Ending → (State → Ending) → Ending
and_then (Kept state) next = next state
and_then (Again cause) next = Again cause
and_then (Aborted stop) next = Aborted stop

-- one, or the other if the one retries; an abort is not caught (stm)
abbrev pub or_else : Ending → (Cause → Ending) → Ending
or_else (Kept state) other = Kept state
or_else (Again cause) other = other cause
or_else (Aborted stop) other = Aborted stop

-- these acts of a channel, from this place of its log on
abbrev pub deeds_at : ℕ → ℕ → List Act → List Deed
deeds_at chan place [] = []
deeds_at chan place (act ∷ acts) = record { chan = chan; place = place; act = act } ∷ deeds_at chan (suc place) acts

-- the ending after an operation that did this to a channel (stm)
abbrev pub after_did : State → ℕ → Tag → Did → Ending
after_did state chan tag (Replies reply acts channel) = Kept (record {
  chans = put_at state.chans chan (grown (state.chans chan) tag acts channel);
  last = last_read_after reply state.last;
  replies = state.replies ++ reply ∷ [];
  deeds = state.deeds ++ deeds_at chan (length (state.chans chan).log) acts;
})
after_did state chan tag (Waits cause) = Again cause
after_did state chan tag (Stops stop) = Aborted stop

-- an operation in a transaction (stm, stm-chans)
abbrev pub op_in : Tag → Op → State → Ending
op_in tag op state = after_did state (chan_of op)
    tag (operate (state.chans (chan_of op)).channel tag.seat state.last op)

-- these, one after another (stm)
abbrev pub sequence : List (State → Ending) → State → Ending
sequence [] state = Kept state
sequence (step ∷ steps) state = and_then (step state) (sequence steps)

-- the first of these, each from this state, that does not retry; else a retry with the last cause or this one (stm)
abbrev pub first_kept : Cause → List (State → Ending) → State → Ending
first_kept cause [] state = Again cause
first_kept cause (branch ∷ branches) state = or_else (branch state) (λ why. first_kept why branches state)

-- a step, given the meaning of its parts (stm)
abbrev pub layer : Tag → Step-F (State → Ending) → State → Ending
layer tag (Do op) = op_in tag op
layer tag (Or branches) = first_kept Asked (map sequence branches)
layer tag Retry = λ state. Again Asked

-- a step (stm)
abbrev pub step_in : Tag → Step → State → Ending
step_in tag = fold-Step (State → Ending) (layer tag)

-- steps, one after another (stm)
abbrev pub steps_in : Tag → List Step → State → Ending
steps_in tag steps = sequence (map (step_in tag) steps)

-- the greatest of a stamp and the stamps of these channels
abbrev pub greatest : Map → ℕ → List ℕ → ℕ
greatest m most [] = most
greatest m most (n ∷ numbers) = greatest m (max most (m n).stamp) numbers

-- a test: a serial or a stamp that cannot be raised
abbrev pub is_worn : ℕ → Bool
is_worn n = nat_eq n GREATEST_NUMBER

-- the tag of a committed transaction: its stamp is greater than the seat's and those of all declared channels
abbrev pub kept_tag : Map → Tag → List ℕ → Tag
kept_tag m tag declared = record { seat = tag.seat; serial = tag.serial; stamp = greatest m tag.stamp declared + 1 }

-- the state in which a transaction begins, with nothing read (stm)
abbrev pub start : Map → State
start m = record { chans = m; last = None; replies = []; deeds = [] }

-- a transaction, not yet settled; its tag has the stamp of its seat's last commit (stm; the tag is this project's)
abbrev pub transaction : Map → Tag → List ℕ → List Step → Ending
transaction m tag declared steps =
    if is_worn tag.serial || is_worn (greatest m tag.stamp declared) then Aborted Worn
    else steps_in (kept_tag m tag declared) steps (start m)
