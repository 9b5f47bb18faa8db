-- A transaction that is open in a domain.
use Rattle.std.specs.Prelude.{◌≡◌, ◌≢◌, ℕ, ◌<◌, List, [], length, map, take, Contains, Result, Ok, Err}
use Rattle.txc_base.specs.declared.kind.Kind.{Kind}
use Rattle.txc_base.specs.declared.op.Op.{Op}
use Rattle.txc_base.specs.declared.stop.Stop.TheVariants.{NoMemory}
use Rattle.txc_base.specs.declared.tag.Tag.{Tag}
use Rattle.txc_chan.specs.ChanView.{ChanView}
use Rattle.txc_txn_check.specs.declared.fault.TxnFault.{TxnFault}
use Rattle.txc_txn_check.specs.declared.step.Step.TheVariants.{Do}
use Rattle.txc_txn_check.specs.Walk.{Tally}
use Rattle.txc_txn.specs.declared.open_savepoint.OpenSavepoint.{OpenSavepoint}
use Rattle.txc_txn.specs.declared.open_transaction.OpenTransaction.{OpenTransaction}
use Rattle.txc_txn.specs.declared.trace.StepOutcome.{StepOutcome}
use Rattle.txc_txn.specs.declared.trace.Trace.{Trace}
use Rattle.txc_txn.specs.Growth.{AllGrow}
use Rattle.txc_txn.specs.Maps.{Map}
use Rattle.txc_txn.specs.Opening.{HasKinds}
use Rattle.txc_txn.specs.OpenTransaction.{IsMarkedSince}
use Rattle.txc_txn.specs.Plain.{chan_in}
use Rattle.txc_txn.specs.Run.{KeepsTrace, ending_of, state_of}
use Rattle.txc_txn.specs.Transaction.{Aborted, Kept, op_in, start, steps_in}
use Rattle.yalwythen_domain.specs.declared.channels.RunError.{RunError}
use Rattle.yalwythen_domain.specs.declared.channels.RunError.TheVariants.{Faulty as HaltedFaulty, Stopped}
use Rattle.yalwythen_domain.specs.Channels.{DomainChannels}

-- the invariant: channels have these kinds, and the open transaction has touched existing channels, each with a mark
pub record IsConsistent (held : List ChanView) (kinds : List Kind) (txn : OpenTransaction) : Type 0 where
  pub known : HasKinds held kinds
  pub touched : (n : ℕ) → Contains txn.touched.items n → n < length held
  pub marks : length txn.marks.items ≡ length txn.touched.items

-- the open transaction began on this map, is the transaction of these operations so far, and can be undone
pub record IsOpenAt (began : Map) (ops : List Op) (channels : DomainChannels) : Type 0 where
  pub runs : steps_in channels.txn.tag (map Do ops) (start began)
      ≡ Kept (state_of (chan_in channels.held) channels.txn.trace)
  pub marked : IsMarkedSince [] channels.txn began (chan_in channels.held)

-- when the open transaction with this tag, begun on the first map, had these channels and this trace, these operations
-- had run
pub record HadRun (tag : Tag) (began : Map) (ops : List Op) (at : Map) (trace : Trace) : Type 0 where
  pub runs : steps_in tag (map Do ops) (start began) ≡ Kept (state_of at trace)
  pub grown : AllGrow tag began at

-- the open transaction with this tag had the first channels and trace before the others
pub record Precedes (tag : Tag) (at : Map) (trace : Trace) (at' : Map) (trace' : Trace) : Type 0 where
  pub grown : AllGrow tag at at'
  pub keeps : KeepsTrace trace trace'

-- no operation of a walk was seen before
abbrev pub untallied : Tally
untallied = record { operations = 0; channels = [] }

-- an operation of the open transaction ended as `op_in` defines it, or has a fault and did nothing
abbrev pub HasApplied : Op → Result StepOutcome RunError → DomainChannels → DomainChannels → Type 0
HasApplied op (Ok flow) before after = op_in before.txn.tag op (state_of (chan_in before.held) before.txn.trace)
    ≡ ending_of flow (state_of (chan_in after.held) after.txn.trace)
HasApplied op (Err (Stopped stop)) before after = stop ≢ NoMemory
    → op_in before.txn.tag op (state_of (chan_in before.held) before.txn.trace) ≡ Aborted stop
HasApplied op (Err (HaltedFaulty fault)) before after = after ≡ before

-- a fact of the fault, if that is why nothing was done
abbrev pub IfFaulty : RunError → (TxnFault → Type 0) → Type 0
IfFaulty (HaltedFaulty fault) fact = fact fault
IfFaulty (Stopped stop) fact = Unit {0}

-- the savepoint is of this map and this trace, and the open transaction can be rolled back to them
pub record IsSavedAt (savepoint : OpenSavepoint) (at : Map) (trace : Trace) (channels : DomainChannels) : Type 0 where
  pub marked : IsMarkedSince savepoint.marks.items channels.txn at (chan_in channels.held)
  pub last : savepoint.last ≡ trace.last
  pub counts : (savepoint.replies ≡ length trace.replies.items) × (savepoint.deeds ≡ length trace.deeds.items)
  pub replies : take savepoint.replies channels.txn.trace.replies.items ≡ trace.replies.items
  pub deeds : take savepoint.deeds channels.txn.trace.deeds.items ≡ trace.deeds.items

-- the open transaction was rolled back to this savepoint: it can go on from there, and be rolled back as a whole and to
-- what precedes the savepoint
pub record IsRolledBackTo (savepoint : OpenSavepoint) (old new : DomainChannels) : Type 0 where
  pub back : (at : Map) (trace : Trace) → IsSavedAt savepoint at trace old
      → (chan_in new.held ≡ at) × (state_of at new.txn.trace ≡ state_of at trace)
  pub touched : (new.txn.touched ≡ old.txn.touched) × (new.txn.marks ≡ old.txn.marks)
  pub marked : (began at : Map) (trace : Trace) → IsSavedAt savepoint at trace old → AllGrow old.txn.tag began at
      → IsMarkedSince [] old.txn began (chan_in old.held) → IsMarkedSince [] new.txn began (chan_in new.held)
  pub goes_on : (began at : Map) (ops : List Op) (trace : Trace) → IsSavedAt savepoint at trace old
      → HadRun old.txn.tag began ops at trace → IsMarkedSince [] old.txn began (chan_in old.held)
      → IsOpenAt began ops new
  pub saved : (point : OpenSavepoint) (at at' : Map) (trace trace' : Trace) → IsSavedAt savepoint at' trace' old
      → IsSavedAt point at trace old → Precedes old.txn.tag at trace at' trace' → IsSavedAt point at trace new
