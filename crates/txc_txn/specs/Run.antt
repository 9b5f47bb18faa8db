-- The result of a run, and the state after it.
use Rattle.std.specs.Prelude.{◌≡◌, ℕ, suc, ◌+◌, ◌<◌, nat_eq, Some, List, [], ◌∷◌, map, length}
use Rattle.std.specs.Prelude.{take, slice_get, ◌≢◌, Result, IfOk, IfErr}
use Rattle.txc_chan.specs.Reserved.{one_if}
use Rattle.txc_base.specs.declared.entry.Entry.{Entry}
use Rattle.txc_base.specs.declared.cause.Cause.{Cause}
use Rattle.txc_base.specs.declared.stop.Stop.{Stop}
use Rattle.txc_base.specs.declared.stop.Stop.TheVariants.{NoMemory}
use Rattle.txc_base.specs.declared.tag.Tag.{Tag}
use Rattle.txc_txn.specs.declared.deed.Deed.{Deed}
use Rattle.txc_txn.specs.declared.trace.StepOutcome.{StepOutcome}
use Rattle.txc_txn.specs.declared.trace.StepOutcome.TheVariants.{Done, Retry as StepRetry}
use Rattle.txc_txn.specs.declared.trace.Trace.{Trace}
use Rattle.txc_txn.specs.declared.ran.Ran.{Ran}
use Rattle.txc_txn.specs.declared.ran.Ran.TheVariants.{Kept as RanKept, Retry as RanRetry}
use Rattle.txc_txn.specs.declared.receipt.Receipt.{Receipt}
use Rattle.txc_txn_check.specs.declared.step.Step.{Step}
use Rattle.txc_txn.specs.Growth.{AllGrow, SameOutside}
use Rattle.txc_txn.specs.Maps.{Map, settle_all}
use Rattle.txc_txn.specs.Transaction.{State, Ending, Kept, Again, Aborted, first_kept, steps_in}

-- the state of a run
abbrev pub state_of : Map → Trace → State
state_of m trace = record { chans = m; last = trace.last; replies = trace.replies.items; deeds = trace.deeds.items }

-- the ending that a part of a run returns
abbrev pub ending_of : StepOutcome → State → Ending
ending_of Done state = Kept state
ending_of (StepRetry cause) state = Again cause

-- the first of these branches that does not retry (stm)
abbrev pub alternatives : Tag → Cause → List (List Step) → State → Ending
alternatives tag cause branches state = first_kept cause (map (steps_in tag) branches) state

-- the acts of these entries of a channel, from this place of its log on
abbrev pub deeds_of : ℕ → ℕ → List Entry → List Deed
deeds_of chan place [] = []
deeds_of chan place (entry ∷ entries)
    = record { chan = chan; place = place; act = entry.act } ∷ deeds_of chan (suc place) entries

-- a trace still begins with all that it had before
abbrev pub KeepsTrace : Trace → Trace → Type 0
KeepsTrace before after = (take (length before.replies.items) after.replies.items ≡ before.replies.items)
    × (take (length before.deeds.items) after.deeds.items ≡ before.deeds.items)

-- how many of these acts are in a channel
abbrev pub count_deeds : ℕ → List Deed → ℕ
count_deeds chan [] = 0
count_deeds chan (deed ∷ deeds) = one_if (nat_eq deed.chan chan) + count_deeds chan deeds

-- the receipt of a committed transaction
abbrev pub receipt_of : Tag → State → Receipt
receipt_of tag state = record { tag = tag; replies = state.replies; acts = state.deeds }

-- a run returns this ending and leaves its channels; after a retry the channels are unchanged
abbrev pub RanAs : Tag → Ending → Ran → Map → Map → Type 0
RanAs tag (Kept state) (RanKept receipt) before after = (receipt ≡ receipt_of tag state) × (after ≡ state.chans)
RanAs tag (Again cause) (RanRetry why) before after = (why ≡ cause) × (after ≡ before)
RanAs tag outcome ran before after = ⊥

-- a run returns this ending and leaves its channels settled; after a retry the channels are unchanged
abbrev pub RanSettled : Tag → List ℕ → Ending → Ran → Map → Map → Type 0
RanSettled tag declared (Kept state) (RanKept receipt) before after =
    (receipt ≡ receipt_of tag state) × (after ≡ settle_all state.chans tag.stamp declared)
RanSettled tag declared (Again cause) (RanRetry why) before after = (why ≡ cause) × (after ≡ before)
RanSettled tag declared outcome ran before after = ⊥

-- a fact of the receipt if the transaction committed
abbrev pub IfKept : Ran → (Receipt → Type 0) → Type 0
IfKept (RanKept receipt) fact = fact receipt
IfKept (RanRetry cause) fact = Unit {0}

-- the later of two acts of a receipt in one channel has the higher place
abbrev pub PlacesRise : Receipt → Type 0
PlacesRise receipt = (i j : ℕ) (one other : Deed) → i < j → slice_get receipt.acts i ≡ Some one
    → slice_get receipt.acts j ≡ Some other
    → one.chan ≡ other.chan → one.place < other.place

-- a part of a run ended so: only declared channels grew, by entries under the tag, and the trace kept what it had
pub record HasRun (tag : Tag) (declared : List ℕ) (outcome : State → Ending) (m : Map) (trace : Trace)
    (result : Result StepOutcome Stop) (m' : Map) (trace' : Trace) : Type 0 where
  pub others : SameOutside declared m m'
  pub grows : AllGrow tag m m'
  pub keeps : KeepsTrace trace trace'
  pub ok : IfOk result (λ flow. outcome (state_of m trace) ≡ ending_of flow (state_of m' trace'))
  pub err : IfErr result (λ stop. stop ≢ NoMemory → outcome (state_of m trace) ≡ Aborted stop)
