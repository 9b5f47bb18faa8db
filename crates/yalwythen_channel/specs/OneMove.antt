-- A move of an item from one channel to another one, as a whole transaction.
use Rattle.std.specs.Prelude.{◌≡◌, ◌≢◌, ℕ, ◌||◌, false, Option, Some, None, List, [], ◌∷◌}
use Rattle.txc_base.specs.declared.cause.Cause.{Cause}
use Rattle.txc_base.specs.declared.item.Item.{Item}
use Rattle.txc_base.specs.declared.reply.Reply.TheVariants.{Done, Got}
use Rattle.txc_base.specs.declared.tag.Tag.{Tag}
use Rattle.txc_chan.specs.ChanView.{ChanView}
use Rattle.txc_chan.specs.Logged.{Logged}
use Rattle.txc_txn.specs.declared.ran.Ran.TheVariants.{Kept}
use Rattle.txc_txn.specs.declared.receipt.Receipt.{Receipt}
use Rattle.txc_txn.specs.Maps.{Map, put_at}
use Rattle.txc_txn.specs.Run.{RanSettled}
use Rattle.txc_txn.specs.Transaction.{Again, Ending, greatest, is_worn, kept_tag, transaction}
use Rattle.txc_txn.specs.TwoOperations.{move_steps}
use Rattle.yalwythen_channel.specs.declared.call_result.CallResult.{CallResult}
use Rattle.yalwythen_channel.specs.declared.channel.Channel.{Channel}
use Rattle.yalwythen_channel.specs.OneOperation.{no_tag, only}
use Rattle.yalwythen_channel.specs.Channel.{unrecorded_in}
use Rattle.yalwythen_channel.specs.Ending.{cause_code}
use Rattle.yalwythen_channel.specs.Opening.{rejected_for}

-- the numbers of the two channels
abbrev pub two : List ℕ
two = 0 ∷ 1 ∷ []

-- the channels of a transaction on these two
abbrev pub both : Logged → Logged → Map
both source target = put_at (only source) 1 target

-- the tag that a move between these two commits with
abbrev pub tag_of_move : Logged → Logged → Tag
tag_of_move source target = kept_tag (both source target) no_tag two

-- a move between these two has such a tag
abbrev pub CanCommit : Logged → Logged → Type 0
CanCommit source target =
    (is_worn no_tag.serial || is_worn (greatest (both source target) no_tag.stamp two)) ≡ false

-- how the move ends: a read by reader 0 of the one, and a write of what was read to the other one
abbrev pub move_of : Logged → Logged → Ending
move_of source target = transaction (both source target) no_tag two (move_steps 0 0 1)

-- the transaction of the move was committed, with an item that has this body, and both channels are settled
pub record HasMovedItem (source target source' target' : Logged) (body : ℕ) : Type 0 where
  pub item : Item
  pub receipt : Receipt
  pub ran : RanSettled (tag_of_move source target) two (move_of source target) (Kept receipt)
      (both source target) (both source' target')
  pub replies : receipt.replies ≡ Got item ∷ Done ∷ []
  pub moved : body ≡ item.body

-- a move was run as a whole transaction on these two channels: it was committed, or must be retried for a cause, or was
-- not done at once; unless it was committed, nothing changed
pub record MovesAlone (source target source' target' : Logged) (response : CallResult) : Type 0 where
  pub moved : response.code ≡ 0 → HasMovedItem source target source' target' response.value
  pub waits : response.code ≡ 1 → (cause : Cause) × (move_of source target ≡ Again cause)
      × (response.value ≡ cause_code cause)
  pub unchanged : response.code ≢ 0 → (source' ≡ source) × (target' ≡ target)

-- the same of the channels in two places; or one of them has none whose log is not recorded
abbrev pub MovesTwo : Option ChanView → Option ChanView → Option ChanView → Option ChanView → CallResult → Type 0
MovesTwo (Some s) (Some t) (Some s') (Some t') response =
    MovesAlone s.logged t.logged s'.logged t'.logged response
MovesTwo (Some s) (Some t) (Some s') None response = ⊥
MovesTwo (Some s) (Some t) None after response = ⊥
MovesTwo (Some s) None after after' response = response ≡ rejected_for 1
MovesTwo None target after after' response = response ≡ rejected_for 1

-- the same of two places: nothing changed if one of them has no such channel
pub record MovesHere (source target source' target' : Channel) (response : CallResult) : Type 0 where
  pub moves : MovesTwo (unrecorded_in source) (unrecorded_in target) (unrecorded_in source') (unrecorded_in target')
      response
  pub no_source : unrecorded_in source ≡ None → (source' ≡ source) × (target' ≡ target)
  pub no_target : unrecorded_in target ≡ None → (source' ≡ source) × (target' ≡ target)
