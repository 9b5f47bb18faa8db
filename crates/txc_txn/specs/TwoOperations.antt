-- A transaction of two operations.
use Rattle.std.specs.Prelude.{◌≡◌, ◌≢◌, ℕ, ◌||◌, false, List, [], ◌∷◌, nat_lt, length, if◌then◌else◌}
use Rattle.txc_base.specs.declared.op.Op.{Op}
use Rattle.txc_base.specs.declared.op.Op.TheVariants.{Read, Write}
use Rattle.txc_base.specs.declared.source.Source.TheVariants.{Last}
use Rattle.txc_base.specs.declared.tag.Tag.{Tag}
use Rattle.txc_chan.specs.Committed.{reply_to}
use Rattle.txc_txn_check.specs.declared.step.Step.{Step}
use Rattle.txc_txn_check.specs.declared.step.Step.TheVariants.{Do}
use Rattle.txc_txn.specs.declared.deed.Deed.{Deed}
use Rattle.txc_txn.specs.declared.receipt.Receipt.{Receipt}
use Rattle.txc_txn.specs.Maps.{Map}
use Rattle.txc_txn.specs.Transaction.{Ending, Kept, State, and_then, greatest, is_worn, kept_tag, op_in, start}
use Rattle.txc_txn.specs.Transaction.{transaction}

-- unless a number is used up, a transaction of two operations is the one operation and then the other
abbrev pub TwoAreInTurn : Type 0
TwoAreInTurn = (m : Map) (tag : Tag) (declared : List ℕ) (one other : Op)
    → (is_worn tag.serial || is_worn (greatest m tag.stamp declared)) ≡ false
    → transaction m tag declared (Do one ∷ Do other ∷ [])
    ≡ and_then (op_in (kept_tag m tag declared) one (start m)) (op_in (kept_tag m tag declared) other)

-- the steps of a move: a read from one channel, and a write of what was read to another one
abbrev pub move_steps : ℕ → ℕ → ℕ → List Step
move_steps from reader to = Do (Read from reader) ∷ Do (Write to Last) ∷ []

-- the numbers of two channels, the lower one first
abbrev pub lower_first : ℕ → ℕ → List ℕ
lower_first a b = if nat_lt a b then a ∷ b ∷ [] else b ∷ a ∷ []

-- a receipt with two replies and two acts
abbrev pub IsPair : Receipt → Type 0
IsPair receipt = (length receipt.replies ≡ 2) × (length receipt.acts ≡ 2)

-- the receipt of a transaction that had these two acts
abbrev pub pair_of : Tag → Deed → Deed → Receipt
pair_of tag one other = record {
  tag = tag;
  replies = reply_to one.act ∷ reply_to other.act ∷ [];
  acts = one ∷ other ∷ [];
}

-- this ending is no commit with two acts
abbrev pub IsNoPair : Ending → Type 0
IsNoPair ending = (state : State) → ending ≡ Kept state → length state.deeds ≢ 2
