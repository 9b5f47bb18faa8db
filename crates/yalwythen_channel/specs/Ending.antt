-- How steps on the channels of a transaction end.
use Rattle.std.specs.Prelude.{◌≡◌, ◌≢◌, ℕ, ◌+◌, ◌-◌, ◌^◌, max, min, Result, Ok, Err}
use Rattle.std.specs.Prelude.{List, length, slice_get}
use Rattle.txc_base.specs.declared.cause.Cause.{Cause}
use Rattle.txc_base.specs.declared.cause.Cause.TheVariants.{Full, Empty, Asked}
use Rattle.txc_base.specs.declared.stop.Stop.TheVariants.{NoMemory}
use Rattle.txc_base.specs.declared.tag.Tag.{Tag}
use Rattle.txc_base.specs.Stop.{stop_code}
use Rattle.txc_txn_check.specs.declared.step.Step.{Step}
use Rattle.txc_txn_check.specs.Fault.{txn_fault_code}
use Rattle.txc_txn_check.specs.Walk.{Walked, Fine, Faulty, walk}
use Rattle.txc_txn.specs.declared.ran.Ran.{Ran}
use Rattle.txc_txn.specs.declared.ran.Ran.TheVariants.{Kept, Retry}
use Rattle.txc_txn.specs.declared.receipt.Receipt.{Receipt}
use Rattle.txc_txn.specs.Maps.{Map}
use Rattle.txc_txn.specs.Plain.{chan_in}
use Rattle.txc_txn.specs.Run.{RanSettled}
use Rattle.txc_txn.specs.Transaction.{Ending, Aborted, kept_tag, transaction}
use Rattle.yalwythen_channel.specs.declared.channels.RunError.{RunError}
use Rattle.yalwythen_channel.specs.declared.channels.RunError.TheVariants.{Faulty as HaltedFaulty, Stopped}
use Rattle.yalwythen_channel.specs.Channels.{TxnChannels}
use Rattle.yalwythen_channel.specs.declared.raw_steps.RawStep.{RawStep}
use Rattle.yalwythen_channel.specs.declared.call_result.CallResult.{CallResult}
use Rattle.yalwythen_channel.specs.Written.{AreSteps}

-- a transaction ended so, and is settled if it commits; a stop is its own or `NoMemory`, and changes nothing
abbrev pub ComesTo : Ending → Tag → List ℕ → Result Ran RunError → Map → Map → Type 0
ComesTo outcome tag declared (Ok ran) before after = RanSettled tag declared outcome ran before after
ComesTo outcome tag declared (Err (Stopped stop)) before after
    = (stop ≢ NoMemory → outcome ≡ Aborted stop) × (after ≡ before)
ComesTo outcome tag declared (Err (HaltedFaulty fault)) before after = ⊥

-- steps ended with their first fault and changed nothing, or ended as their transaction does
abbrev pub ComesOfSteps : Walked → Tag → List Step → Result Ran RunError → Map → Map → Type 0
ComesOfSteps (Faulty fault) tag steps result before after = (result ≡ Err (HaltedFaulty fault)) × (after ≡ before)
ComesOfSteps (Fine tally) tag steps result before after = ComesTo (transaction before tag tally.channels steps)
    (kept_tag before tag tally.channels) tally.channels result before after

-- the number of a cause
abbrev pub cause_code : Cause → ℕ
cause_code Full = 0
cause_code Empty = 1
cause_code Asked = 2

-- the result of a transaction that ran: how many replies it has, or why it must be retried
abbrev pub response_of_ran : Ran → CallResult
response_of_ran (Kept receipt) = record { code = 0; value = length receipt.replies }
response_of_ran (Retry cause) = record { code = 1; value = cause_code cause }

-- the result of steps that ended so
abbrev pub response_of_run : Result Ran RunError → CallResult
response_of_run (Ok ran) = response_of_ran ran
response_of_run (Err (Stopped stop)) = record { code = 2; value = stop_code stop }
response_of_run (Err (HaltedFaulty fault)) = record { code = 3; value = txn_fault_code fault }

-- the last receipt after a transaction ran
abbrev pub last_after : Ran → Receipt → Receipt
last_after (Kept receipt) last = receipt
last_after (Retry cause) last = last

-- the tag of a seat's next transaction, after one that committed with this tag
abbrev pub seat_tag_after : Tag → Tag
seat_tag_after tag = record { seat = tag.seat; serial = min (tag.serial + 1) (2 ^ 64 - 1); stamp = tag.stamp }

-- the tag of a seat's next transaction, after one ran
abbrev pub tag_after_ran : Ran → Tag → Tag
tag_after_ran (Kept receipt) tag = seat_tag_after receipt.tag
tag_after_ran (Retry cause) tag = tag

-- the greatest stamp after a transaction ran
abbrev pub clock_after : Ran → ℕ → ℕ
clock_after (Kept receipt) clock = max clock receipt.tag.stamp
clock_after (Retry cause) clock = clock

-- the last receipt after steps that ended so
abbrev pub last_after_came : Result Ran RunError → Receipt → Receipt
last_after_came (Ok ran) last = last_after ran last
last_after_came (Err error) last = last

-- a seat with this tag ran the steps of these raw steps: how they ended, the result, and the last receipt
pub record RanInTxn (tag : Tag) (raw_steps : List RawStep) (before : TxnChannels) (after : TxnChannels)
    (old : Receipt) (new : Receipt) (response : CallResult) : Type 0 where
  pub steps : List Step
  pub came : Result Ran RunError
  pub are : AreSteps raw_steps steps
  pub comes : ComesOfSteps (walk (slice_get before.kinds) steps) tag steps came
      (chan_in before.held) (chan_in after.held)
  pub kinds : after.kinds ≡ before.kinds
  pub last : new ≡ last_after_came came old
  pub answered : response ≡ response_of_run came
