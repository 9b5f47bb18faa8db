-- What the requests to a domain do, and what they return.
use Rattle.std.specs.Prelude.{◌≡◌, ◌≢◌, ◌<◌, ◌≤◌, ℕ, ◌+◌, ◌/◌, ◌%◌, ◌^◌, Bool, true, false}
use Rattle.std.specs.Prelude.{Option, Some, None, Result, Ok, Err, IfOk, IfErr, All, max, min, take}
use Rattle.std.specs.Prelude.{List, [], ◌∷◌, ◌++◌, length, map, slice_get, slice_set}
use Rattle.txc_base.specs.declared.op.Op.{Op}
use Rattle.txc_base.specs.declared.reply.Reply.{Reply}
use Rattle.txc_base.specs.declared.stop.Stop.TheVariants.{NoMemory}
use Rattle.txc_base.specs.declared.tag.Tag.{Tag}
use Rattle.txc_chan.specs.declared.decl.Decl.{Decl}
use Rattle.txc_chan.specs.Logged.{opened}
use Rattle.txc_txn_check.specs.declared.step.Step.{Step}
use Rattle.txc_txn_check.specs.declared.step.Step.TheVariants.{Do}
use Rattle.txc_txn_check.specs.Walk.{Faulty as WalkFaulty, walk_op}
use Rattle.txc_txn.specs.declared.open_savepoint.OpenSavepoint.{OpenSavepoint}
use Rattle.txc_txn.specs.declared.trace.StepOutcome.{StepOutcome}
use Rattle.txc_txn.specs.declared.trace.StepOutcome.TheVariants.{Done, Retry}
use Rattle.txc_txn.specs.declared.trace.Trace.{Trace}
use Rattle.txc_txn.specs.Maps.{Map, settle_all}
use Rattle.txc_txn.specs.OpenTransaction.{IsMarkedSince}
use Rattle.txc_txn.specs.Plain.{chan_in}
use Rattle.txc_txn.specs.Run.{receipt_of, state_of}
use Rattle.yalwythen_domain.specs.declared.channels.RunError.{RunError}
use Rattle.yalwythen_domain.specs.declared.channels.RunError.TheVariants.{Faulty, Stopped}
use Rattle.yalwythen_domain.specs.declared.domain.TransactionStatus.{TransactionStatus}
use Rattle.yalwythen_domain.specs.declared.domain.TransactionStatus.TheVariants.{Idle, Open, Failed}
use Rattle.yalwythen_domain.specs.declared.raw_steps.RawStep.{RawStep}
use Rattle.yalwythen_domain.specs.declared.call_result.CallResult.{CallResult}
use Rattle.yalwythen_domain.specs.Channels.{DomainChannels}
use Rattle.yalwythen_domain.specs.Domain.{DomainState}
use Rattle.yalwythen_domain.specs.Ending.{RanInDomain, cause_code, response_of_run, seat_tag_after}
use Rattle.yalwythen_domain.specs.Opened.{HasApplied, IfFaulty, IsOpenAt, IsRolledBackTo, IsSavedAt, Precedes, untallied}
use Rattle.yalwythen_domain.specs.Opening.{closed_response, count_response, is_open, length_response, readers_response}
use Rattle.yalwythen_domain.specs.Opening.{rejected_for, response_to_decl}
use Rattle.yalwythen_domain.specs.RawSteps.{IsPlain, decls_with, last_reply, reply_response, response_of, steps_with}
use Rattle.yalwythen_domain.specs.Seats.{first_tag, open_tag, response_to_begin, response_to_seat}

-- a request that changes nothing returned this
abbrev pub Returned : CallResult → CallResult → DomainState → DomainState → Type 0
Returned expected response old new = (response ≡ expected) × (new ≡ old)

-- a transaction that did nothing left the channels, the seats and the last receipt unchanged
abbrev pub IsUnchanged : DomainState → DomainState → Type 0
IsUnchanged old new = (chan_in new.channels.held ≡ chan_in old.channels.held) × (new.tags ≡ old.tags)
    × (new.clock ≡ old.clock) × (new.last ≡ old.last)

-- a channel was declared: it is the last one, open and empty; or the request failed, and nothing changed
pub record HasDeclared (choice : Option Decl) (records : Bool) (old : DomainState) (new : DomainState)
    (response : CallResult) : Type 0 where
  pub answered : response.code ≢ 5 → response ≡ response_to_decl choice (is_open old.status) records
      (length old.channels.kinds)
  pub added : (decl : Decl) → choice ≡ Some decl → response.code ≡ 0 → map (λ held. held.logged) new.channels.held
      ≡ map (λ held. held.logged) old.channels.held ++ opened decl ∷ []
  pub refused : response.code ≢ 0 → new ≡ old
  pub rest : (new.tags ≡ old.tags) × (new.clock ≡ old.clock) × (new.status ≡ old.status) × (new.last ≡ old.last)

-- a seat was added: it is the last one; or the request failed, and nothing changed
pub record HasAddedSeat (old : DomainState) (new : DomainState) (response : CallResult) : Type 0 where
  pub answered : response.code ≢ 5 → response ≡ response_to_seat (is_open old.status) (length old.tags)
  pub done : response.code ≡ 0 → new.tags ≡ old.tags ++ first_tag (length old.tags) ∷ []
  pub refused : response.code ≢ 0 → new ≡ old
  pub rest : (new.channels ≡ old.channels) × (new.clock ≡ old.clock) × (new.status ≡ old.status)
      × (new.last ≡ old.last)

-- a transaction of a seat was opened, with its tag and the next stamp; or it was rejected, and nothing changed
pub record HasOpened (seat : ℕ) (old : DomainState) (new : DomainState) (response : CallResult) : Type 0 where
  pub answered : response ≡ response_to_begin (slice_get old.tags seat) (is_open old.status) old.clock
  pub opens : response.code ≡ 0 → IsOpenAt (chan_in old.channels.held) [] new.channels
  pub tagged : (tag : Tag) → slice_get old.tags seat ≡ Some tag → response.code ≡ 0
      → new.channels.txn.tag ≡ open_tag tag old.clock
  pub status : response.code ≡ 0 → new.status ≡ Open
  pub channels : response.code ≡ 0 → (new.channels.held ≡ old.channels.held) × (new.channels.kinds ≡ old.channels.kinds)
      × (new.channels.savepoints ≡ [])
  pub refused : response.code ≢ 0 → new ≡ old
  pub rest : (new.tags ≡ old.tags) × (new.clock ≡ old.clock) × (new.last ≡ old.last)

-- the operation of a step, if it is one
abbrev pub operation_in : Option Step → Option Op
operation_in (Some (Do op)) = Some op
operation_in step = None

-- the step of a request: its number, channel and reader are one number, the lowest bits first
abbrev pub step_of_request : ℕ → ℕ → Option Step
step_of_request a body = slice_get (steps_with ((a / 2 ^ 32) % 2 ^ 16) (a / 2 ^ 48) body) (a % 2 ^ 32)

-- the result of the last reply of the open transaction
abbrev pub last_response : Option Reply → CallResult
last_response (Some reply) = record { code = 16 + (response_of reply).code; value = (response_of reply).value }
last_response None = record { code = 64; value = 0 }

-- the result of an operation of the open transaction, whose replies are then these
abbrev pub response_of_operation : Result StepOutcome RunError → List Reply → CallResult
response_of_operation (Ok Done) replies = last_response (last_reply replies)
response_of_operation (Ok (Retry cause)) replies = record { code = 1; value = cause_code cause }
response_of_operation (Err error) replies = response_of_run (Err error)

-- whether the transaction goes on after an operation: after a retry or a stop it must be rolled back
abbrev pub status_after : Result StepOutcome RunError → TransactionStatus
status_after (Ok Done) = Open
status_after (Ok (Retry cause)) = Failed
status_after (Err (Faulty fault)) = Open
status_after (Err (Stopped stop)) = Failed

-- an operation of the open transaction ran by its definition, or has the first fault of a walk and did nothing
pub record HasRunOperation (op : Op) (old : DomainState) (new : DomainState) (response : CallResult) : Type 0 where
  pub result : Result StepOutcome RunError
  pub applied : HasApplied op result old.channels new.channels
  pub faulty : IfErr result (λ error. IfFaulty error (λ fault.
      walk_op (slice_get old.channels.kinds) op untallied ≡ WalkFaulty fault))
  pub answered : response.code ≢ 5 → response ≡ response_of_operation result new.channels.txn.trace.replies.items
  pub memory : response.code ≡ 5 → result ≡ Err (Stopped NoMemory)
  pub status : new.status ≡ status_after result
  pub marked : (began : Map) → IsMarkedSince [] old.channels.txn began (chan_in old.channels.held)
      → IsMarkedSince [] new.channels.txn began (chan_in new.channels.held)
  pub goes_on : (began : Map) (ops : List Op) → IsOpenAt began ops old.channels
      → IfOk result (λ flow. flow ≡ Done → IsOpenAt began (ops ++ op ∷ []) new.channels)
  pub saved : (savepoint : OpenSavepoint) (at : Map) (trace : Trace) → IsSavedAt savepoint at trace old.channels
      → IsSavedAt savepoint at trace new.channels
  pub rest : (new.channels.kinds ≡ old.channels.kinds) × (new.channels.txn.tag ≡ old.channels.txn.tag)
      × (new.channels.savepoints ≡ old.channels.savepoints) × (new.tags ≡ old.tags) × (new.clock ≡ old.clock)
      × (new.last ≡ old.last)

-- an operation of the open transaction ran; or there is none, or no transaction that goes on, and nothing changed
pub record HasRunStep (step : Option Step) (old : DomainState) (new : DomainState) (response : CallResult) : Type 0
  where
    pub ran : (op : Op) → old.status ≡ Open → operation_in step ≡ Some op → HasRunOperation op old new response
    pub unknown : old.status ≡ Open → operation_in step ≡ None → Returned (rejected_for 0) response old new
    pub refused : old.status ≢ Open → Returned (rejected_for 1) response old new

-- the last savepoint is new, and the open transaction can be rolled back to its state at this savepoint
pub record HasPoint (old : DomainChannels) (new : DomainChannels) : Type 0 where
  pub savepoint : OpenSavepoint
  pub added : new.savepoints ≡ old.savepoints ++ savepoint ∷ []
  pub saved : (began : Map) → IsMarkedSince [] old.txn began (chan_in old.held)
      → IsSavedAt savepoint (chan_in old.held) old.txn.trace new
  pub later : (point : OpenSavepoint) (at : Map) (trace : Trace) → IsSavedAt point at trace old
      → Precedes old.txn.tag at trace (chan_in old.held) old.txn.trace

-- a savepoint was set, and is the last one; or no transaction goes on, or allocation failed, and nothing changed
pub record HasSaved (old : DomainState) (new : DomainState) (response : CallResult) : Type 0 where
  pub answered : old.status ≡ Open → response.code ≢ 5
      → response ≡ record { code = 0; value = length new.channels.savepoints }
  pub savepoint : old.status ≡ Open → response.code ≢ 5 → HasPoint old.channels new.channels
  pub memory : response.code ≡ 5 → new ≡ old
  pub refused : old.status ≢ Open → Returned (rejected_for 1) response old new
  pub rest : (new.channels.held ≡ old.channels.held) × (new.channels.kinds ≡ old.channels.kinds)
      × (new.channels.txn ≡ old.channels.txn) × (new.status ≡ old.status) × (new.tags ≡ old.tags)
      × (new.clock ≡ old.clock) × (new.last ≡ old.last)

-- the open transaction is in the state of its last savepoint, which is removed
pub record IsBackAt (savepoints : List OpenSavepoint) (savepoint : OpenSavepoint) (old new : DomainState)
    (response : CallResult) : Type 0 where
  pub answered : response ≡ record { code = 0; value = length savepoints }
  pub left : new.channels.savepoints ≡ savepoints
  pub status : new.status ≡ Open
  pub back : IsRolledBackTo savepoint old.channels new.channels

-- the open transaction was rolled back to its last savepoint; or there is none, and nothing changed
pub record HasGoneBack (old : DomainState) (new : DomainState) (response : CallResult) : Type 0 where
  pub done : (savepoints : List OpenSavepoint) (savepoint : OpenSavepoint) → is_open old.status ≡ true
      → old.channels.savepoints ≡ savepoints ++ savepoint ∷ [] → IsBackAt savepoints savepoint old new response
  pub none : old.channels.savepoints ≡ [] → Returned (rejected_for 1) response old new
  pub refused : is_open old.status ≡ false → Returned (rejected_for 1) response old new
  pub rest : (new.channels.kinds ≡ old.channels.kinds) × (new.channels.txn.tag ≡ old.channels.txn.tag)
      × (new.tags ≡ old.tags) × (new.clock ≡ old.clock) × (new.last ≡ old.last)

-- the last savepoint of the open transaction was removed; or there is none, and nothing changed
pub record HasReleased (old : DomainState) (new : DomainState) (response : CallResult) : Type 0 where
  pub done : (savepoints : List OpenSavepoint) (savepoint : OpenSavepoint) → is_open old.status ≡ true
      → old.channels.savepoints ≡ savepoints ++ savepoint ∷ []
      → (response ≡ record { code = 0; value = length savepoints }) × (new.channels.savepoints ≡ savepoints)
  pub none : old.channels.savepoints ≡ [] → Returned (rejected_for 1) response old new
  pub refused : is_open old.status ≡ false → Returned (rejected_for 1) response old new
  pub rest : (new.channels.held ≡ old.channels.held) × (new.channels.kinds ≡ old.channels.kinds)
      × (new.channels.txn ≡ old.channels.txn) × (new.status ≡ old.status) × (new.tags ≡ old.tags)
      × (new.clock ≡ old.clock) × (new.last ≡ old.last)

-- the open transaction was committed, and its channels are settled; or none can be committed, and nothing changed
pub record HasCommitted (old : DomainState) (new : DomainState) (response : CallResult) : Type 0 where
  pub answered : old.status ≡ Open → response ≡ record { code = 0; value = length new.last.replies }
  pub receipt : old.status ≡ Open → (m : Map)
      → new.last ≡ receipt_of old.channels.txn.tag (state_of m old.channels.txn.trace)
  pub settled : old.status ≡ Open → chan_in new.channels.held
      ≡ settle_all (chan_in old.channels.held) old.channels.txn.tag.stamp old.channels.txn.touched.items
  pub tags : old.status ≡ Open
      → new.tags ≡ slice_set old.tags old.channels.txn.tag.seat (seat_tag_after old.channels.txn.tag)
  pub clock : old.status ≡ Open → new.clock ≡ max old.clock old.channels.txn.tag.stamp
  pub status : old.status ≡ Open → new.status ≡ Idle
  pub kinds : new.channels.kinds ≡ old.channels.kinds
  pub refused : old.status ≢ Open → Returned (rejected_for 1) response old new

-- the open transaction was rolled back as a whole; or none is open, and nothing changed
pub record HasRolledBack (old : DomainState) (new : DomainState) (response : CallResult) : Type 0 where
  pub answered : is_open old.status ≡ true → response ≡ record { code = 0; value = 0 }
  pub back : (began : Map) → is_open old.status ≡ true
      → IsMarkedSince [] old.channels.txn began (chan_in old.channels.held) → chan_in new.channels.held ≡ began
  pub status : is_open old.status ≡ true → new.status ≡ Idle
  pub refused : is_open old.status ≡ false → Returned (rejected_for 1) response old new
  pub rest : (new.channels.kinds ≡ old.channels.kinds) × (new.tags ≡ old.tags) × (new.clock ≡ old.clock)
      × (new.last ≡ old.last)

-- what the request with this number and these arguments did to a domain, and what it returned
pub record HasAnswered (request : ℕ) (a : ℕ) (b : ℕ) (records : Bool) (old : DomainState) (new : DomainState)
    (response : CallResult) : Type 0 where
  pub declared : request ≡ 0 → HasDeclared (slice_get (decls_with b) a) records old new response
  pub seat : request ≡ 1 → HasAddedSeat old new response
  pub reply : request ≡ 2 → Returned (reply_response (slice_get old.last.replies a)) response old new
  pub count : request ≡ 3 → Returned (count_response old.channels a) response old new
  pub length : request ≡ 4 → (response.code ≢ 5 → response ≡ length_response old.channels a b) × (new ≡ old)
  pub closed : request ≡ 5 → Returned (closed_response old.channels a) response old new
  pub begun : request ≡ 6 → HasOpened a old new response
  pub applied : request ≡ 7 → HasRunStep (step_of_request a b) old new response
  pub saved : request ≡ 8 → HasSaved old new response
  pub back : request ≡ 9 → HasGoneBack old new response
  pub released : request ≡ 10 → HasReleased old new response
  pub committed : request ≡ 11 → HasCommitted old new response
  pub rolled_back : request ≡ 12 → HasRolledBack old new response
  pub readers : request ≡ 13 → Returned (readers_response old.channels a) response old new
  pub unknown : 14 ≤ request → Returned (rejected_for 0) response old new

-- what a transaction with these raw steps did to a domain and to the array for its replies, and what it returned
pub record HasTransacted (seat : ℕ) (raw_steps : List RawStep) (old : DomainState) (new : DomainState)
    (out : List CallResult) (out' : List CallResult) (response : CallResult) : Type 0 where
  pub ran : (tag : Tag) → slice_get old.tags seat ≡ Some tag → is_open old.status ≡ false → All IsPlain raw_steps
      → response.code ≢ 5 → RanInDomain tag raw_steps old.channels new.channels old.last new.last response
  pub ran_any : (tag : Tag) → slice_get old.tags seat ≡ Some tag → is_open old.status ≡ false → response.code < 3
      → RanInDomain tag raw_steps old.channels new.channels old.last new.last response
  pub replies : let count = min (length new.last.replies) (length out) in
      response.code ≡ 0 → take count out' ≡ map response_of (take count new.last.replies)
  pub tags : response.code ≡ 0 → new.tags ≡ slice_set old.tags seat (seat_tag_after new.last.tag)
  pub clock : response.code ≡ 0 → new.clock ≡ max old.clock new.last.tag.stamp
  pub failed : response.code ≢ 0 → IsUnchanged old new × (out' ≡ out)
  pub unknown : slice_get old.tags seat ≡ None → Returned (rejected_for 0) response old new
  pub refused : (tag : Tag) → slice_get old.tags seat ≡ Some tag → is_open old.status ≡ true
      → Returned (rejected_for 1) response old new
  pub rest : (new.channels.kinds ≡ old.channels.kinds) × (new.channels.txn ≡ old.channels.txn)
      × (new.channels.savepoints ≡ old.channels.savepoints) × (new.status ≡ old.status) × (length out' ≡ length out)
