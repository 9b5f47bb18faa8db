-- What the requests to a transaction do, and what they return.
use Rattle.std.specs.Prelude.{◌≡◌, ◌≢◌, ◌<◌, ◌≤◌, ℕ, ◌+◌, ◌/◌, ◌%◌, ◌^◌, Bool, true, false, ◌&&◌, ◌||◌, not}
use Rattle.std.specs.Prelude.{if◌then◌else◌, nat_le, nat_lt, ◌-◌}
use Rattle.std.specs.Prelude.{Option, Some, None, Result, Ok, Err, IfOk, IfErr, All, max, min, take}
use Rattle.std.specs.Prelude.{List, [], ◌∷◌, ◌++◌, length, map, slice_get}
use Rattle.txc_base.specs.declared.op.Op.{Op}
use Rattle.txc_base.specs.declared.reply.Reply.{Reply}
use Rattle.txc_base.specs.declared.stop.Stop.TheVariants.{NoMemory}
use Rattle.txc_base.specs.Op.{chan_of}
use Rattle.txc_chan.specs.ChanView.{ChanView}
use Rattle.txc_txn_check.specs.declared.step.Step.{Step}
use Rattle.txc_txn_check.specs.Walk.{Faulty as WalkFaulty, walk_op}
use Rattle.txc_txn.specs.declared.open_savepoint.OpenSavepoint.{OpenSavepoint}
use Rattle.txc_txn.specs.declared.trace.StepOutcome.{StepOutcome}
use Rattle.txc_txn.specs.declared.trace.StepOutcome.TheVariants.{Done, Retry}
use Rattle.txc_txn.specs.declared.trace.Trace.{Trace}
use Rattle.txc_txn.specs.Maps.{Map, put_at, settle_all}
use Rattle.txc_txn.specs.OpenTransaction.{IsMarkedSince}
use Rattle.txc_txn.specs.Plain.{chan_in}
use Rattle.txc_txn.specs.Run.{receipt_of, state_of}
use Rattle.yalwythen_channel.specs.declared.channels.RunError.{RunError}
use Rattle.yalwythen_channel.specs.declared.channels.RunError.TheVariants.{Faulty, Stopped}
use Rattle.yalwythen_channel.specs.declared.state.TransactionStatus.{TransactionStatus}
use Rattle.yalwythen_channel.specs.declared.state.TransactionStatus.TheVariants.{Idle, Open, Failed}
use Rattle.yalwythen_channel.specs.declared.raw_steps.RawStep.{RawStep}
use Rattle.yalwythen_channel.specs.declared.call_result.CallResult.{CallResult}
use Rattle.yalwythen_channel.specs.Channels.{TxnChannels}
use Rattle.yalwythen_channel.specs.State.{TxnState}
use Rattle.yalwythen_channel.specs.Ending.{RanInTxn, cause_code, response_of_run, seat_tag_after}
use Rattle.yalwythen_channel.specs.Opened.{HadRun, HasApplied, IfFaulty, IsOpenAt, IsRolledBackTo, IsSavedAt, Precedes}
use Rattle.yalwythen_channel.specs.Opened.{untallied}
use Rattle.yalwythen_channel.specs.Opening.{closed_response, count_response, is_open, length_response, readers_response}
use Rattle.yalwythen_channel.specs.Opening.{rejected_for}
use Rattle.yalwythen_channel.specs.RawSteps.{IsPlain, last_reply, last_response, operation_in, reply_response}
use Rattle.yalwythen_channel.specs.RawSteps.{response_of, steps_with}
use Rattle.yalwythen_channel.specs.Seats.{open_tag, response_to_begin, response_to_name}

-- a request that changes nothing returned this
abbrev pub Returned : CallResult → CallResult → TxnState → TxnState → Type 0
Returned expected response old new = (response ≡ expected) × (new ≡ old)

-- a transaction that did nothing left the channels, the seats and the last receipt unchanged
abbrev pub IsUnchanged : TxnState → TxnState → Type 0
IsUnchanged old new = (chan_in new.channels.held ≡ chan_in old.channels.held) × (new.tag ≡ old.tag)
    × (new.clock ≡ old.clock) × (new.last ≡ old.last)

-- the seat was named; or there is no such number, or a transaction is open, and nothing changed
pub record HasNamedSeat (number : ℕ) (serial : ℕ) (old : TxnState) (new : TxnState) (response : CallResult) : Type 0
  where
    pub answered : response ≡ response_to_name number (is_open old.status)
    pub done : response.code ≡ 0 → new.tag ≡ record { seat = number; serial = serial; stamp = old.tag.stamp }
    pub refused : response.code ≢ 0 → new ≡ old
    pub rest : (new.channels ≡ old.channels) × (new.clock ≡ old.clock) × (new.status ≡ old.status)
        × (new.last ≡ old.last)

-- a transaction was opened, with its tag and the next stamp; or it was rejected, and nothing changed
pub record HasOpened (old : TxnState) (new : TxnState) (response : CallResult) : Type 0 where
  pub answered : response ≡ response_to_begin old.tag (is_open old.status) old.clock
  pub opens : response.code ≡ 0 → IsOpenAt (chan_in old.channels.held) [] new.channels
  pub tagged : response.code ≡ 0 → new.channels.txn.tag ≡ open_tag old.tag old.clock
  pub status : response.code ≡ 0 → new.status ≡ Open
  pub channels : response.code ≡ 0 → (new.channels.held ≡ old.channels.held) × (new.channels.kinds ≡ old.channels.kinds)
      × (new.channels.savepoints ≡ [])
  pub refused : response.code ≢ 0 → new ≡ old
  pub rest : (new.tag ≡ old.tag) × (new.clock ≡ old.clock) × (new.last ≡ old.last)

-- the step of a request: its number, channel and reader are one number, the lowest bits first
abbrev pub step_of_request : ℕ → ℕ → Option Step
step_of_request a body = slice_get (steps_with ((a / 2 ^ 32) % 2 ^ 16) (a / 2 ^ 48) body) (a % 2 ^ 32)

-- the result of an operation of the open transaction, whose replies are then these
abbrev pub response_of_operation : Result StepOutcome RunError → List Reply → CallResult
response_of_operation (Ok Done) replies = last_response (last_reply replies)
response_of_operation (Ok (Retry cause)) replies = record { code = 1; value = cause_code cause }
response_of_operation (Err error) replies = response_of_run (Err error)

-- whether the transaction goes on after an operation: after a retry or a stop it must be rolled back
abbrev pub status_after : Result StepOutcome RunError → TransactionStatus
status_after (Ok Done) = Open
status_after (Ok (Retry cause)) = Failed
status_after (Err (Faulty fault)) = Open
status_after (Err (Stopped stop)) = Failed

-- an operation of the open transaction ran by its definition, or has the first fault of a walk and did nothing
pub record HasRunOperation (op : Op) (old : TxnState) (new : TxnState) (response : CallResult) : Type 0 where
  pub result : Result StepOutcome RunError
  pub applied : HasApplied op result old.channels new.channels
  pub faulty : IfErr result (λ error. IfFaulty error (λ fault.
      walk_op (slice_get old.channels.kinds) op untallied ≡ WalkFaulty fault))
  pub answered : response.code ≢ 5 → response ≡ response_of_operation result new.channels.txn.trace.replies.items
  pub memory : response.code ≡ 5 → result ≡ Err (Stopped NoMemory)
  pub status : new.status ≡ status_after result
  pub marked : (began : Map) → IsMarkedSince [] old.channels.txn began (chan_in old.channels.held)
      → IsMarkedSince [] new.channels.txn began (chan_in new.channels.held)
  pub goes_on : (began : Map) (ops : List Op) → IsOpenAt began ops old.channels
      → IfOk result (λ flow. flow ≡ Done → IsOpenAt began (ops ++ op ∷ []) new.channels)
  pub saved : (savepoint : OpenSavepoint) (at : Map) (trace : Trace) → IsSavedAt savepoint at trace old.channels
      → IsSavedAt savepoint at trace new.channels
  pub rest : (new.channels.kinds ≡ old.channels.kinds) × (new.channels.txn.tag ≡ old.channels.txn.tag)
      × (new.channels.savepoints ≡ old.channels.savepoints) × (new.tag ≡ old.tag) × (new.clock ≡ old.clock)
      × (new.last ≡ old.last)

-- an operation of the open transaction ran; or there is none, or no transaction that goes on, and nothing changed
pub record HasRunStep (step : Option Step) (old : TxnState) (new : TxnState) (response : CallResult) : Type 0
  where
    pub ran : (op : Op) → old.status ≡ Open → operation_in step ≡ Some op → HasRunOperation op old new response
    pub unknown : old.status ≡ Open → operation_in step ≡ None → Returned (rejected_for 0) response old new
    pub refused : old.status ≢ Open → Returned (rejected_for 1) response old new

-- the last savepoint is new, and the open transaction can be rolled back to its state at this savepoint
pub record HasPoint (old : TxnChannels) (new : TxnChannels) : Type 0 where
  pub savepoint : OpenSavepoint
  pub added : new.savepoints ≡ old.savepoints ++ savepoint ∷ []
  pub saved : (began : Map) → IsMarkedSince [] old.txn began (chan_in old.held)
      → IsSavedAt savepoint (chan_in old.held) old.txn.trace new
  pub later : (point : OpenSavepoint) (at : Map) (trace : Trace) → IsSavedAt point at trace old
      → Precedes old.txn.tag at trace (chan_in old.held) old.txn.trace

-- a savepoint was set, and is the last one; or no transaction goes on, or allocation failed, and nothing changed
pub record HasSaved (old : TxnState) (new : TxnState) (response : CallResult) : Type 0 where
  pub answered : old.status ≡ Open → response.code ≢ 5
      → response ≡ record { code = 0; value = length new.channels.savepoints }
  pub savepoint : old.status ≡ Open → response.code ≢ 5 → HasPoint old.channels new.channels
  pub memory : response.code ≡ 5 → new ≡ old
  pub refused : old.status ≢ Open → Returned (rejected_for 1) response old new
  pub rest : (new.channels.held ≡ old.channels.held) × (new.channels.kinds ≡ old.channels.kinds)
      × (new.channels.txn ≡ old.channels.txn) × (new.status ≡ old.status) × (new.tag ≡ old.tag)
      × (new.clock ≡ old.clock) × (new.last ≡ old.last)

-- the open transaction is in the state of its last savepoint, which is removed
pub record IsBackAt (savepoints : List OpenSavepoint) (savepoint : OpenSavepoint) (old new : TxnState)
    (response : CallResult) : Type 0 where
  pub answered : response ≡ record { code = 0; value = length savepoints }
  pub left : new.channels.savepoints ≡ savepoints
  pub status : new.status ≡ Open
  pub back : IsRolledBackTo savepoint old.channels new.channels

-- the open transaction was rolled back to its last savepoint; or there is none, and nothing changed
pub record HasGoneBack (old : TxnState) (new : TxnState) (response : CallResult) : Type 0 where
  pub done : (savepoints : List OpenSavepoint) (savepoint : OpenSavepoint) → is_open old.status ≡ true
      → old.channels.savepoints ≡ savepoints ++ savepoint ∷ [] → IsBackAt savepoints savepoint old new response
  pub none : old.channels.savepoints ≡ [] → Returned (rejected_for 1) response old new
  pub refused : is_open old.status ≡ false → Returned (rejected_for 1) response old new
  pub rest : (new.channels.kinds ≡ old.channels.kinds) × (new.channels.txn.tag ≡ old.channels.txn.tag)
      × (new.tag ≡ old.tag) × (new.clock ≡ old.clock) × (new.last ≡ old.last)

-- the last savepoint of the open transaction was removed; or there is none, and nothing changed
pub record HasReleased (old : TxnState) (new : TxnState) (response : CallResult) : Type 0 where
  pub done : (savepoints : List OpenSavepoint) (savepoint : OpenSavepoint) → is_open old.status ≡ true
      → old.channels.savepoints ≡ savepoints ++ savepoint ∷ []
      → (response ≡ record { code = 0; value = length savepoints }) × (new.channels.savepoints ≡ savepoints)
  pub none : old.channels.savepoints ≡ [] → Returned (rejected_for 1) response old new
  pub refused : is_open old.status ≡ false → Returned (rejected_for 1) response old new
  pub rest : (new.channels.held ≡ old.channels.held) × (new.channels.kinds ≡ old.channels.kinds)
      × (new.channels.txn ≡ old.channels.txn) × (new.status ≡ old.status) × (new.tag ≡ old.tag)
      × (new.clock ≡ old.clock) × (new.last ≡ old.last)

-- the open transaction was committed, and its channels are settled; or none can be committed, and nothing changed
pub record HasCommitted (old : TxnState) (new : TxnState) (response : CallResult) : Type 0 where
  pub answered : old.status ≡ Open → response ≡ record { code = 0; value = length new.last.replies }
  pub receipt : old.status ≡ Open → (m : Map)
      → new.last ≡ receipt_of old.channels.txn.tag (state_of m old.channels.txn.trace)
  pub settled : old.status ≡ Open → chan_in new.channels.held
      ≡ settle_all (chan_in old.channels.held) old.channels.txn.tag.stamp old.channels.txn.touched.items
  pub tag : old.status ≡ Open → new.tag ≡ seat_tag_after old.channels.txn.tag
  pub clock : old.status ≡ Open → new.clock ≡ max old.clock old.channels.txn.tag.stamp
  pub status : old.status ≡ Open → new.status ≡ Idle
  pub untouched : old.status ≡ Open → new.channels.txn.touched.items ≡ []
  pub kinds : new.channels.kinds ≡ old.channels.kinds
  pub refused : old.status ≢ Open → Returned (rejected_for 1) response old new

-- the open transaction was rolled back as a whole; or none is open, and nothing changed
pub record HasRolledBack (old : TxnState) (new : TxnState) (response : CallResult) : Type 0 where
  pub answered : is_open old.status ≡ true → response ≡ record { code = 0; value = 0 }
  pub back : (began : Map) → is_open old.status ≡ true
      → IsMarkedSince [] old.channels.txn began (chan_in old.channels.held) → chan_in new.channels.held ≡ began
  pub status : is_open old.status ≡ true → new.status ≡ Idle
  pub untouched : is_open old.status ≡ true → new.channels.txn.touched.items ≡ []
  pub refused : is_open old.status ≡ false → Returned (rejected_for 1) response old new
  pub rest : (new.channels.kinds ≡ old.channels.kinds) × (new.tag ≡ old.tag) × (new.clock ≡ old.clock)
      × (new.last ≡ old.last)

-- what the request with this number and these arguments did, and what it returned
pub record HasAnswered (request : ℕ) (a : ℕ) (b : ℕ) (old : TxnState) (new : TxnState) (response : CallResult) : Type 0
  where
    pub seat : request ≡ 1 → HasNamedSeat a b old new response
    pub reply : request ≡ 2 → Returned (reply_response (slice_get old.last.replies a)) response old new
    pub count : request ≡ 3 → Returned (count_response old.channels a) response old new
    pub length : request ≡ 4 → (response.code ≢ 5 → response ≡ length_response old.channels a b) × (new ≡ old)
    pub closed : request ≡ 5 → Returned (closed_response old.channels a) response old new
    pub begun : request ≡ 6 → HasOpened old new response
    pub applied : request ≡ 7 → HasRunStep (step_of_request a b) old new response
    pub saved : request ≡ 8 → HasSaved old new response
    pub back : request ≡ 9 → HasGoneBack old new response
    pub released : request ≡ 10 → HasReleased old new response
    pub committed : request ≡ 11 → HasCommitted old new response
    pub rolled_back : request ≡ 12 → HasRolledBack old new response
    pub readers : request ≡ 13 → Returned (readers_response old.channels a) response old new
    pub none : request ≡ 0 → Returned (rejected_for 0) response old new
    pub unknown : 14 ≤ request → Returned (rejected_for 0) response old new

-- what a transaction with these raw steps did, and to the array for its replies, and what it returned
pub record HasTransacted (raw_steps : List RawStep) (old : TxnState) (new : TxnState)
    (out : List CallResult) (out' : List CallResult) (response : CallResult) : Type 0 where
  pub ran : is_open old.status ≡ false → All IsPlain raw_steps → response.code ≢ 5
      → RanInTxn old.tag raw_steps old.channels new.channels old.last new.last response
  pub ran_any : is_open old.status ≡ false → response.code < 3
      → RanInTxn old.tag raw_steps old.channels new.channels old.last new.last response
  pub replies : let count = min (length new.last.replies) (length out) in
      response.code ≡ 0 → take count out' ≡ map response_of (take count new.last.replies)
  pub tag : response.code ≡ 0 → new.tag ≡ seat_tag_after new.last.tag
  pub clock : response.code ≡ 0 → new.clock ≡ max old.clock new.last.tag.stamp
  pub failed : response.code ≢ 0 → IsUnchanged old new × (out' ≡ out)
  pub refused : is_open old.status ≡ true → Returned (rejected_for 1) response old new
  pub rest : (new.channels.kinds ≡ old.channels.kinds) × (new.channels.txn ≡ old.channels.txn)
      × (new.channels.savepoints ≡ old.channels.savepoints) × (new.status ≡ old.status) × (length out' ≡ length out)

-- whether a channel with this stamp is too late for the open transaction: its log is recorded, and its stamp is not
-- earlier
abbrev pub is_late : Bool → ℕ → TxnState → Bool
is_late records stamp state = records && (is_open state.status && nat_le state.channels.txn.tag.stamp stamp)

-- the result of giving a channel with this stamp to a transaction: its number, or that it is rejected
abbrev pub response_to_enlist : Bool → ℕ → TxnState → CallResult
response_to_enlist records stamp state = let count = length state.channels.kinds in
    if is_late records stamp state || not (nat_lt count 65536) then rejected_for 1
    else record { code = 0; value = count }

-- what a channel that was given to a transaction did to it: it is the last channel; or it was given back, and nothing
-- changed
pub record HasEnlisted (records : Bool) (chan : ChanView) (old new : TxnState) (response : CallResult)
    (back : Option ChanView) : Type 0 where
  pub answered : response.code ≢ 5 → response ≡ response_to_enlist records chan.logged.stamp old
  pub done : response.code ≡ 0 → (back ≡ None) × (length old.channels.held ≡ length old.channels.kinds)
      × (new.channels.held ≡ old.channels.held ++ chan ∷ [])
      × (new.channels.kinds ≡ old.channels.kinds ++ chan.logged.decl.kind ∷ [])
      × (new.clock ≡ max old.clock chan.logged.stamp)
  pub marked : response.code ≡ 0 → (began : Map) → IsMarkedSince [] old.channels.txn began (chan_in old.channels.held)
      → IsMarkedSince [] new.channels.txn (put_at began (length old.channels.kinds) chan.logged)
      (chan_in new.channels.held)
  pub goes_on : response.code ≡ 0 → (began : Map) (ops : List Op)
      → All (λ op. chan_of op < length old.channels.kinds) ops → IsOpenAt began ops old.channels
      → IsOpenAt (put_at began (length old.channels.kinds) chan.logged) ops new.channels
  pub saved : response.code ≡ 0 → (savepoint : OpenSavepoint) (at : Map) (trace : Trace)
      → IsSavedAt savepoint at trace old.channels
      → IsSavedAt savepoint (put_at at (length old.channels.kinds) chan.logged) trace new.channels
  pub had_run : response.code ≡ 0 → (began at : Map) (ops : List Op) (trace : Trace)
      → All (λ op. chan_of op < length old.channels.kinds) ops → HadRun old.channels.txn.tag began ops at trace
      → HadRun old.channels.txn.tag (put_at began (length old.channels.kinds) chan.logged) ops
      (put_at at (length old.channels.kinds) chan.logged) trace
  pub precedes : response.code ≡ 0 → (at at' : Map) (trace trace' : Trace)
      → Precedes old.channels.txn.tag at trace at' trace'
      → Precedes old.channels.txn.tag (put_at at (length old.channels.kinds) chan.logged) trace
      (put_at at' (length old.channels.kinds) chan.logged) trace'
  pub refused : response.code ≢ 0 → (back ≡ Some chan) × (new ≡ old)
  pub rest : (new.channels.txn ≡ old.channels.txn) × (new.channels.savepoints ≡ old.channels.savepoints)
      × (new.tag ≡ old.tag) × (new.status ≡ old.status) × (new.last ≡ old.last)

-- the last channel, of this number, was taken back from a transaction while none was open; or nothing changed
pub record HasGivenBack (number : ℕ) (old new : TxnState) (response : CallResult) (back : Option ChanView) : Type 0
  where
    pub done : response.code ≡ 0 → (chan : ChanView) × (back ≡ Some chan) × (is_open old.status ≡ false)
        × (old.channels.held ≡ new.channels.held ++ chan ∷ []) × (number ≡ length new.channels.held)
        × (new.channels.kinds ≡ take (length old.channels.kinds - 1) old.channels.kinds)
        × (length new.channels.kinds ≡ length new.channels.held)
    pub answered : is_open old.status ≡ false → old.channels.txn.touched.items ≡ []
        → number + 1 ≡ length old.channels.kinds → response.code ≡ 0
    pub refused : response.code ≢ 0 → (response ≡ rejected_for 1) × (back ≡ None) × (new ≡ old)
    pub rest : (new.channels.txn ≡ old.channels.txn) × (new.channels.savepoints ≡ old.channels.savepoints)
        × (new.tag ≡ old.tag) × (new.status ≡ old.status) × (new.last ≡ old.last) × (new.clock ≡ old.clock)
