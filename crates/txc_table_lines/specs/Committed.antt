-- What a commit leaves of the lines, and of what a seat has of them.
use Rattle.std.specs.Prelude.{◌≡◌, ◌<◌, ◌+◌, ◌++◌, ◌∷◌, [], ℕ, List, length, AllPairs, Contains, slice_index_or}
use mathlib.Core.List.{IsPrefix}
use Rattle.txc_base.specs.declared.tag.Tag.{Tag}
use Rattle.txc_chan.specs.Logged.{MatchesLog, Logged, settled}
use Rattle.txc_table_line.specs.Marks.{HasNewMark, last_len, last_mark_stamp}
use Rattle.txc_table_line.specs.declared.mark.Mark.{Mark}
use Rattle.txc_txn.specs.declared.ran.Ran.{Ran}
use Rattle.txc_txn.specs.declared.ran.Ran.TheVariants.{Kept as RanKept, Retry as RanRetry}
use Rattle.txc_txn.specs.declared.receipt.Receipt.{Receipt}
use Rattle.txc_txn.specs.Maps.{Map}
use Rattle.txc_txn.specs.Run.{count_deeds}
use Rattle.txc_table_line.specs.LineChan.{no_channel}
use Rattle.txc_table_line.specs.SeatShare.{IsValidShare, SeatShareView}
use Rattle.txc_table_lines.specs.Guards.{GuardsView}
use Rattle.txc_table_lines.specs.Lines.{share_at}

-- a fact if the transaction must be tried again
abbrev pub IfRetry : Ran → Type 0 → Type 0
IfRetry (RanKept receipt) fact = Unit {0}
IfRetry (RanRetry cause) fact = fact

-- a receipt has no act in a channel that is not declared
abbrev pub HasNoneOutside : List ℕ → Receipt → Type 0
HasNoneOutside declared receipt = (n : ℕ) → ¬ Contains declared n → count_deeds n receipt.acts ≡ 0

-- a channel was settled, and what the seat has of its line counts what was pending and one more mark
pub record IsSettled (tag : Tag) (found : Logged) (old : SeatShareView) (left : Logged)
    (new : SeatShareView) : Type 0 where
  pub settled : left ≡ settled tag.stamp found
  pub line : new.line ≡ old.line
  pub amount : new.amount ≡ old.amount + found.pending
  pub log : new.log ≡ found.log
  pub made : new.made ≡ old.made + 1
  pub marked : HasNewMark found tag old.marks new.marks
  pub known : new.known ≡ left
  pub true_share : IsValidShare new

-- the line at this place among the locked ones was settled
abbrev pub SettledAt : Tag → ℕ → GuardsView → List SeatShareView → GuardsView → List SeatShareView → Type 0
SettledAt tag at old before new after = let number = slice_index_or old.declared at 0 in
    IsSettled tag (slice_index_or old.channels at no_channel).held.logged (share_at before number)
    (slice_index_or new.channels at no_channel).held.logged (share_at after number)

-- the channel with this number was settled if it is declared, and else the seat has what it had
pub record AreSettled (declared : List ℕ) (tag : Tag) (found : Map) (before : List SeatShareView) (left : Map)
    (after : List SeatShareView) (n : ℕ) : Type 0 where
  pub inside : Contains declared n → IsSettled tag (found n) (share_at before n) (left n) (share_at after n)
  pub outside : ¬ Contains declared n → share_at after n ≡ share_at before n

-- what was seen of the marks of a channel that was found so: what it had been, all that it had then, which its stamp
-- and its log were of, and one with this tag at the end of the log that was left
pub record HasItsMark (found left : Logged) (tag : Tag) (old new : List Mark) : Type 0 where
  pub lawful : MatchesLog left
  pub before : List Mark
  pub rise : AllPairs (λ one other. one.tag.stamp < other.tag.stamp) before
  pub stamp : last_mark_stamp before ≡ found.stamp
  pub len : last_len before ≡ length found.log
  pub since : IsPrefix old before
  pub now : new ≡ before ++ record { tag = tag; len = length left.log } ∷ []

-- a transaction with this receipt was committed on a channel, and the seat counts its acts there and one more mark, and
-- has seen the log
pub record CountsCommit (found left : Logged) (receipt : Receipt) (old new : SeatShareView) (n : ℕ) : Type 0 where
  pub line : new.line ≡ old.line
  pub amount : new.amount ≡ old.amount + count_deeds n receipt.acts
  pub log : new.log ≡ left.log
  pub made : new.made ≡ old.made + 1
  pub marked : HasItsMark found left receipt.tag old.marks new.marks

-- a transaction was committed on the channel with this number if it is declared, and else the seat has what it had
pub record AreCommitted (declared : List ℕ) (found left : Map) (receipt : Receipt)
    (before after : List SeatShareView) (n : ℕ)
    : Type 0 where
  pub inside : Contains declared n → CountsCommit (found n) (left n) receipt (share_at before n) (share_at after n) n
  pub outside : ¬ Contains declared n → share_at after n ≡ share_at before n
