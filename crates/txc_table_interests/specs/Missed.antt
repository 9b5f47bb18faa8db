-- No change is missed that would let a transaction proceed.
use Rattle.std.specs.Prelude.{◌≡◌, ◌⊎◌, ℕ, Bool, true, false, not, ◌&&◌, nat_eq, Option, Some, None, List, Contains}
use Rattle.std.specs.List.{list_any}
use Rattle.txc_base.specs.declared.act.Act.{Act}
use Rattle.txc_base.specs.declared.cause.Cause.{Cause}
use Rattle.txc_base.specs.declared.entry.Entry.{Entry}
use Rattle.txc_base.specs.declared.kind.Kind.{Kind}
use Rattle.txc_base.specs.declared.op.Op.{Op}
use Rattle.txc_base.specs.declared.stop.Stop.TheVariants.{Worn}
use Rattle.txc_base.specs.declared.tag.Tag.{Tag}
use Rattle.txc_base.specs.Channel.{Channel}
use Rattle.txc_base.specs.Log.{after, state}
use Rattle.txc_base.specs.Op.{chan_of}
use Rattle.txc_base.specs.Operation.{Waits, operate}
use Rattle.txc_table_wait.specs.declared.change.Change.{Change}
use Rattle.txc_table_wait.specs.declared.change.Change.TheVariants.{Any, Removed, Added}
use Rattle.txc_table_wait.specs.declared.change.Interest.{Interest}
use Rattle.txc_table_wait.specs.Change.{is_removed, is_added}
use Rattle.txc_txn_check.specs.declared.step.Step.{Step}
use Rattle.txc_txn_check.specs.Steps.{NamesOnly}
use Rattle.txc_txn.specs.Maps.{Map}
use Rattle.txc_txn.specs.Transaction.{Again, Aborted, transaction}
use Rattle.txc_table_interests.specs.Interests.{awaited, changed_by, interests_of}

-- a test: a seat with an interest in the first change is notified when the second one happens; `Any` is every change
abbrev pub is_met : Change → Change → Bool
is_met Added came = not (is_removed came)
is_met Removed came = not (is_added came)
is_met Any came = true

-- a test: an interest matches an act in the channel with this number
abbrev pub names : ℕ → Act → Interest → Bool
names chan act interest = nat_eq interest.chan chan && is_met interest.change (changed_by act)

-- a test: one of these interests matches an act in the channel with this number
abbrev pub is_awaited : List Interest → ℕ → Act → Bool
is_awaited interests chan act = list_any (names chan act) interests

-- an operation that awaits nothing never waits
abbrev pub OnlyThoseWait : Type 0
OnlyThoseWait = (kinds : ℕ → Option Kind) (channel : Channel) (seat : ℕ) (last : Option ℕ) (op : Op) (cause : Cause)
    → kinds (chan_of op) ≡ Some channel.kind → awaited kinds op ≡ None
    → ¬ (operate channel seat last op ≡ Waits cause)

-- an operation that waits still waits after a lawful entry, unless the operation awaits the act of that entry
abbrev pub StillWaits : Type 0
StillWaits = (kinds : ℕ → Option Kind) (channel left : Channel) (seat : ℕ) (last : Option ℕ) (op : Op) (cause : Cause)
    (interest : Interest) (entry : Entry)
    → kinds (chan_of op) ≡ Some channel.kind → awaited kinds op ≡ Some interest
    → operate channel seat last op ≡ Waits cause
    → after channel entry ≡ Some left → names (chan_of op) entry.act interest ≡ false
    → operate left seat last op ≡ Waits cause

-- all entries that a channel gained are lawful, and none of these interests matches one of them
pub record Unaffected (interests : List Interest) (chan : ℕ) (before now : Channel) : Type 0 where
  pub entries : List Entry
  pub lawful : state (Some before) entries ≡ Some now
  pub unaffected : list_any (λ entry. is_awaited interests chan entry.act) entries ≡ false

-- each of these channels is `Unaffected`; the log and the stamp of each can be anything
abbrev pub AllUnaffected : List Interest → List ℕ → Map → Map → Type 0
AllUnaffected interests declared before now = (n : ℕ) → Contains declared n
    → Unaffected interests n (before n).channel (now n).channel

-- `kinds` gives the kind of each of these channels
abbrev pub KindsAre : (ℕ → Option Kind) → List ℕ → Map → Type 0
KindsAre kinds declared m = (n : ℕ) → Contains declared n → kinds n ≡ Some (m n).channel.kind

-- if a channel gains only entries that match no interest of a transaction, a transaction that had to be retried must
-- still be retried for the same cause, or its stamp cannot be raised any more
abbrev pub NoLostWakeup : Type 0
NoLostWakeup = (kinds : ℕ → Option Kind) (before now : Map) (tag : Tag) (declared : List ℕ) (steps : List Step)
    (cause : Cause)
    → NamesOnly declared steps → KindsAre kinds declared before
    → transaction before tag declared steps ≡ Again cause
    → AllUnaffected (interests_of kinds declared steps) declared before now
    → (transaction now tag declared steps ≡ Again cause) ⊎ (transaction now tag declared steps ≡ Aborted Worn)
