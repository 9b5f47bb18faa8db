-- A transaction in a contract, on channels with recorded or unrecorded logs.
use Rattle.std.specs.Prelude.{◌≡◌, ◌≢◌, ℕ, Bool, true, false, Option, Some, None, List}
use Rattle.txc_chan.specs.ChanView.{ChanView}
use Rattle.yalwythen_channel.specs.declared.channel.Channel.{Channel}
use Rattle.yalwythen_channel.specs.declared.channel.Channel.TheVariants.{Absent}
use Rattle.yalwythen_channel.specs.declared.txn.Txn.{Txn}
use Rattle.yalwythen_channel.specs.declared.txn.Txn.TheVariants.{Unrecorded, Recorded}
use Rattle.yalwythen_channel.specs.declared.raw_steps.RawStep.{RawStep}
use Rattle.yalwythen_channel.specs.declared.call_result.CallResult.{CallResult}
use Rattle.yalwythen_channel.specs.Channel.{recorded_in, unrecorded_in, view_in}
use Rattle.yalwythen_channel.specs.Opening.{rejected_for}
use Rattle.yalwythen_channel.specs.State.{TxnState, IsNew}
use Rattle.yalwythen_channel.specs.RawSteps.{HasItems, reply_in}
use Rattle.yalwythen_channel.specs.Requests.{HasAnswered, HasEnlisted, HasGivenBack, HasTransacted}

-- its state
abbrev pub state_in : Txn → TxnState
state_in (Unrecorded state) = state
state_in (Recorded state) = state

-- whether the logs of its channels are recorded
abbrev pub is_recorded : Txn → Bool
is_recorded (Unrecorded state) = false
is_recorded (Recorded state) = true

-- one without channels, whose logs are recorded or not
abbrev pub IsNewTxn : Bool → Txn → Type 0
IsNewTxn records txn = (is_recorded txn ≡ records) × IsNew (state_in txn)

-- what the request with this number and these arguments did, and what it returned
pub record AnswersRequest (request : ℕ) (a : ℕ) (b : ℕ) (old : Txn) (new : Txn) (response : CallResult) : Type 0
  where
    pub answered : HasAnswered request a b (state_in old) (state_in new) response
    pub records : is_recorded new ≡ is_recorded old

-- what a transaction with these raw steps did, and to the array for its replies, and what it returned
pub record Transacts (raw_steps : List RawStep) (old : Txn) (new : Txn)
    (out : List CallResult) (out' : List CallResult) (response : CallResult) : Type 0 where
  pub transacted : HasTransacted raw_steps (state_in old) (state_in new) out out' response
  pub records : is_recorded new ≡ is_recorded old

-- the result of reading a reply's items from a place on, and the array for them before and after
abbrev pub TellsItems : ℕ → ℕ → Txn → List ℕ → List ℕ → CallResult → Type 0
TellsItems reply from txn out out' response = HasItems (reply_in (state_in txn) reply) from out out' response

-- the channel in a place whose log is recorded like those of this transaction
abbrev pub fitting : Txn → Channel → Option ChanView
fitting (Unrecorded state) channel = unrecorded_in channel
fitting (Recorded state) channel = recorded_in channel

-- the channel in a place was given to a transaction, and is no longer there; or nothing changed
pub record Enlists (txn txn' : Txn) (channel channel' : Channel) (response : CallResult) : Type 0 where
  pub enlisted : (chan : ChanView) → fitting txn channel ≡ Some chan → HasEnlisted (is_recorded txn) chan
      (state_in txn) (state_in txn') response (view_in channel')
  pub unfit : fitting txn channel ≡ None → (response ≡ rejected_for 1) × (txn' ≡ txn)
  pub refused : response.code ≢ 0 → channel' ≡ channel
  pub records : is_recorded txn' ≡ is_recorded txn

-- the last channel of a transaction was moved to an empty place; or nothing changed
pub record Releases (number : ℕ) (txn txn' : Txn) (channel channel' : Channel) (response : CallResult) : Type 0 where
  pub released : channel ≡ Absent → HasGivenBack number (state_in txn) (state_in txn') response (view_in channel')
  pub fits : response.code ≡ 0 → fitting txn channel' ≡ view_in channel'
  pub taken : channel ≢ Absent → (response ≡ rejected_for 1) × (txn' ≡ txn)
  pub refused : response.code ≢ 0 → channel' ≡ channel
  pub records : is_recorded txn' ≡ is_recorded txn
