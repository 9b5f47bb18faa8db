-- A list of operations on a few channels, as a whole transaction in one call.
use Rattle.std.specs.Prelude.{◌≡◌, ◌≢◌, ℕ, true, false, Option, Some, None, List, [], ◌∷◌, map, take, length}
use Rattle.txc_base.specs.declared.cause.Cause.{Cause}
use Rattle.txc_base.specs.declared.op.Op.{Op}
use Rattle.txc_base.specs.declared.reply.Reply.{Reply}
use Rattle.txc_base.specs.declared.stop.Stop.{Stop}
use Rattle.txc_base.specs.declared.stop.Stop.TheVariants.{NoMemory}
use Rattle.txc_base.specs.declared.tag.Tag.{Tag}
use Rattle.txc_base.specs.Op.{chan_of}
use Rattle.txc_base.specs.Stop.{stop_code}
use Rattle.txc_chan.specs.ChanView.{ChanView}
use Rattle.txc_chan.specs.Logged.{Left, Stopped, Waiting, op_on}
use Rattle.txc_txn_check.specs.declared.step.Step.{Step}
use Rattle.txc_txn_check.specs.declared.step.Step.TheVariants.{Do, Retry}
use Rattle.txc_txn.specs.declared.ran.Ran.TheVariants.{Kept as RanKept}
use Rattle.txc_txn.specs.declared.receipt.Receipt.{Receipt}
use Rattle.txc_txn.specs.Maps.{Map, put_at}
use Rattle.txc_txn.specs.Plain.{chan_in}
use Rattle.txc_txn.specs.Run.{RanSettled}
use Rattle.txc_txn.specs.Transaction.{Aborted, Again, Ending, Kept, State, kept_tag, start, steps_in, transaction}
use Rattle.yalwythen_channel.specs.declared.raw_steps.RawStep.{RawStep}
use Rattle.yalwythen_channel.specs.declared.call_result.CallResult.{CallResult}
use Rattle.yalwythen_channel.specs.OneOperation.{no_tag}
use Rattle.yalwythen_channel.specs.Ending.{cause_code}
use Rattle.yalwythen_channel.specs.declared.txn.Txn.{Txn}
use Rattle.yalwythen_channel.specs.Opening.{is_open, rejected_for}
use Rattle.yalwythen_channel.specs.RawSteps.{response_of, step_of}
use Rattle.yalwythen_channel.specs.State.{TxnState}
use Rattle.yalwythen_channel.specs.Txn.{is_recorded, state_in}

-- a step, or a retry if there is none
abbrev pub or_retry : Option Step → Step
or_retry (Some step) = step
or_retry None = Retry

-- the step of a raw step that is no mark of alternatives
abbrev pub listed : RawStep → Step
listed raw_step = or_retry (step_of raw_step)

-- the steps of a list
abbrev pub steps_of : List RawStep → List Step
steps_of raw_steps = map listed raw_steps

-- the result of a transaction that stops
abbrev pub response_of_stop : Stop → CallResult
response_of_stop NoMemory = record { code = 5; value = 0 }
response_of_stop stop = record { code = 2; value = stop_code stop }

-- an operation was applied to the channel that it names, with this reply
pub record HasAppliedTo (tag : Tag) (raw_step : RawStep) (last : Option ℕ) (m m' : Map) (reply : Reply) : Type 0 where
  pub op : Op
  pub is : step_of raw_step ≡ Some (Do op)
  pub did : op_on (m (chan_of op)) tag last op ≡ Left reply (m' (chan_of op))
  pub others : m' ≡ put_at m (chan_of op) (m' (chan_of op))

-- a step that is not applied, with this result: its operation waits, or stops, or something else
pub record IsEndedBy (tag : Tag) (raw_step : RawStep) (last : Option ℕ) (m : Map) (response : CallResult) : Type 0 where
  pub not : response.code ≢ 0
  pub waits : response.code ≡ 1 → (op : Op) × (cause : Cause) × (step_of raw_step ≡ Some (Do op))
      × (op_on (m (chan_of op)) tag last op ≡ Waiting cause) × (response.value ≡ cause_code cause)
  pub stops : response.code ≡ 2 → (op : Op) × (stop : Stop) × (step_of raw_step ≡ Some (Do op))
      × (op_on (m (chan_of op)) tag last op ≡ Stopped stop) × (response.value ≡ stop_code stop)

-- steps were run under this tag, one after another, with this result: all of them, or up to one that waits or stops
pub record HasRunSteps (tag : Tag) (raw_steps : List RawStep) (m m' : Map) (out' : List CallResult)
    (response : CallResult) : Type 0 where
  pub ran : response.code ≡ 0 → (state : State) × (steps_in tag (steps_of raw_steps) (start m) ≡ Kept state)
      × (state.chans ≡ m') × (take (length raw_steps) out' ≡ map response_of state.replies)
  pub waits : response.code ≡ 1 → (cause : Cause) × (steps_in tag (steps_of raw_steps) (start m) ≡ Again cause)
      × (response.value ≡ cause_code cause)
  pub stops : response.code ≡ 2 → (stop : Stop) × (steps_in tag (steps_of raw_steps) (start m) ≡ Aborted stop)
      × (response.value ≡ stop_code stop)

-- how a list on these channels ends
abbrev pub list_on : List RawStep → List ℕ → Map → Ending
list_on raw_steps declared m = transaction m no_tag declared (steps_of raw_steps)

-- the transaction of a list was committed: the front of `out` has its replies
pub record HasListed (raw_steps : List RawStep) (declared : List ℕ) (m m' : Map) (out' : List CallResult) : Type 0 where
  pub receipt : Receipt
  pub ran : RanSettled (kept_tag m no_tag declared) declared (list_on raw_steps declared m) (RanKept receipt) m m'
  pub replies : take (length raw_steps) out' ≡ map response_of receipt.replies

-- a list was run as a whole transaction that declares these channels: it was committed, or must be retried, or aborted,
-- or was not run for another reason; unless it was committed, nothing changed
pub record TransactsList (raw_steps : List RawStep) (declared : List ℕ) (m m' : Map) (out' : List CallResult)
    (response : CallResult) : Type 0 where
  pub committed : response.code ≡ 0 → HasListed raw_steps declared m m' out'
  pub waits : response.code ≡ 1 → (cause : Cause) × (list_on raw_steps declared m ≡ Again cause)
      × (response.value ≡ cause_code cause)
  pub stops : response.code ≡ 2 → (stop : Stop) × (list_on raw_steps declared m ≡ Aborted stop)
      × (response.value ≡ stop_code stop)
  pub unchanged : response.code ≢ 0 → m' ≡ m

-- the numbers of at most four channels
abbrev pub numbers_of : ℕ → List ℕ
numbers_of count = take count (0 ∷ 1 ∷ 2 ∷ 3 ∷ [])

-- the same on all channels of a list, which is declared whole
abbrev pub ListsOn : List RawStep → List ChanView → List ChanView → List CallResult → CallResult → Type 0
ListsOn raw_steps old new out' response =
    TransactsList raw_steps (numbers_of (length old)) (chan_in old) (chan_in new) out' response

-- the same of a seat with its channels: it is as it was, but for the channels
pub record HasRunList (raw_steps : List RawStep) (old new : TxnState) (out' : List CallResult) (response : CallResult)
    : Type 0 where
  pub listed : is_open old.status ≡ false → ListsOn raw_steps old.channels.held new.channels.held out' response
  pub refused : is_open old.status ≡ true → (response ≡ rejected_for 1) × (new ≡ old)
  pub kinds : new.channels.kinds ≡ old.channels.kinds
  pub opened : (new.channels.txn ≡ old.channels.txn) × (new.channels.savepoints ≡ old.channels.savepoints)
  pub seat : (new.tag ≡ old.tag) × (new.clock ≡ old.clock) × (new.status ≡ old.status) × (new.last ≡ old.last)

-- the same of a transaction whose channels are not recorded
pub record RunsList (raw_steps : List RawStep) (old new : Txn) (out' : List CallResult) (response : CallResult) : Type 0
  where
    pub ran : is_recorded old ≡ false → HasRunList raw_steps (state_in old) (state_in new) out' response
    pub refused : is_recorded old ≡ true → (response ≡ rejected_for 1) × (new ≡ old)
    pub records : is_recorded new ≡ is_recorded old
