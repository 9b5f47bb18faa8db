-- A write or a read that is committed at once.
use Rattle.std.specs.Prelude.{◌≡◌, ◌+◌, List, [], ◌∷◌, ◌++◌, length}
use mathlib.Core.List.{IsPrefix}
use Rattle.txc_base.specs.declared.tag.Tag.{Tag}
use Rattle.txc_chan.specs.Logged.{MatchesLog, Logged}
use Rattle.txc_table_line.specs.Marks.{AreMarks}
use Rattle.txc_table_line.specs.declared.mark.Mark.{Mark}
use Rattle.txc_table_line.specs.SeatShare.{SeatShareView}

-- what was seen of the marks of a channel: all that it had when it was found, which began with what had been seen of
-- them, and one with this tag at the end of the log that was left
pub record HasCommitMark (found left : Logged) (tag : Tag) (old new : List Mark) : Type 0 where
  pub lawful : MatchesLog left
  pub before : List Mark
  pub are : AreMarks found before
  pub since : IsPrefix old before
  pub now : new ≡ before ++ record { tag = tag; len = length left.log } ∷ []

-- one entry was committed with this tag, and the seat counts it and one more mark, and has seen the log
pub record CountsOne (found left : Logged) (tag : Tag) (old new : SeatShareView) : Type 0 where
  pub line : new.line ≡ old.line
  pub amount : new.amount ≡ old.amount + 1
  pub log : new.log ≡ left.log
  pub made : new.made ≡ old.made + 1
  pub marked : HasCommitMark found left tag old.marks new.marks
  pub known : new.known ≡ left
