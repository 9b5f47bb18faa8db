-- Transactions that move an item from one of two lines, and are committed at once.
use Rattle.std.specs.Prelude.{◌≡◌, ℕ, None, List}
use Rattle.txc_base.specs.declared.cause.Cause.{Cause}
use Rattle.txc_base.specs.declared.op.Op.TheVariants.{Read}
use Rattle.txc_base.specs.declared.tag.Tag.{Tag}
use Rattle.txc_base.specs.Operation.{Waits, operate}
use Rattle.txc_txn.specs.Choice.{choice_steps, in_order}
use Rattle.txc_txn.specs.declared.receipt.Receipt.{Receipt}
use Rattle.txc_txn.specs.TwoOperations.{move_steps}
use Rattle.txc_table_line.specs.LineChan.{LineChanView}
use Rattle.txc_table_line.specs.SeatShare.{SeatShareView}
use Rattle.txc_table_lines.specs.declared.choice.Choice.{Choice}
use Rattle.txc_table_lines.specs.TwoOperations.{IsCommittedAs, IsNoPairAs, MustRetryAs}

-- the numbers of the channels of a choice, in rising order
abbrev pub channels_of : Choice → List ℕ
channels_of what = in_order what.first what.second what.to

-- the transaction of a choice was committed with this receipt, on channels that the seat may find
abbrev pub IsCommittedChoice : Tag → Choice → List SeatShareView → List SeatShareView → Receipt → Type 0
IsCommittedChoice tag what = IsCommittedAs tag (channels_of what)
    (choice_steps what.first what.first_reader what.second what.second_reader what.to)

-- on channels that the seat may find, the transaction of a choice must be retried, for this cause
abbrev pub MustRetryChoice : Tag → Choice → List SeatShareView → Cause → Type 0
MustRetryChoice tag what = MustRetryAs tag (channels_of what)
    (choice_steps what.first what.first_reader what.second what.second_reader what.to)

-- on channels that the seat may find, the first move of a choice does not commit with two acts
abbrev pub IsNoFirstMove : Tag → Choice → List SeatShareView → Type 0
IsNoFirstMove tag what = IsNoPairAs tag (channels_of what) (move_steps what.first what.first_reader what.to)

-- the channel that a read of the first one needs to wait for
pub record FirstWaits (what : Choice) (channel : LineChanView) : Type 0 where
  pub cause : Cause
  pub waits : (seat : ℕ)
      → operate channel.held.logged.channel seat None (Read what.first what.first_reader) ≡ Waits cause
