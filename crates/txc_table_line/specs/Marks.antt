-- The marks in the history of a line.
use Rattle.std.specs.Prelude.{◌≡◌, ℕ, ◌+◌, ◌<◌, ◌≤◌, List, [], ◌∷◌, ◌++◌, map, length, All, AllPairs}
use Rattle.txc_base_ghost.specs.Last.{last_from}
use mathlib.Core.List.{IsPrefix}
use Rattle.txc_base.specs.declared.tag.Tag.{Tag}
use Rattle.txc_chan.specs.Logged.{Logged, MatchesLog}
use Rattle.txc_table_line.specs.declared.mark.Mark.{Mark}

-- the stamp of the last of these marks, 0 before the first
abbrev pub last_mark_stamp : List Mark → ℕ
last_mark_stamp marks = last_from 0 (map (λ mark. mark.tag.stamp) marks)

-- the length of the log at the last of these marks, 0 before the first
abbrev pub last_len : List Mark → ℕ
last_len marks = last_from 0 (map (λ mark. mark.len) marks)

-- the marks of a channel: their stamps rise to the channel's stamp, and the last has the number of its final entries
pub record AreMarks (l : Logged) (marks : List Mark) : Type 0 where
  pub rise : AllPairs (λ one other. one.tag.stamp < other.tag.stamp) marks
  pub below : All (λ mark. mark.tag.stamp ≤ l.stamp) marks
  pub stamp : last_mark_stamp marks ≡ l.stamp
  pub len : last_len marks + l.pending ≡ length l.log

-- a mark at the end of the log was added to a lawful channel's marks, which began with those seen before
pub record HasNewMark (l : Logged) (tag : Tag) (old new : List Mark) : Type 0 where
  pub lawful : MatchesLog l
  pub before : List Mark
  pub are : AreMarks l before
  pub since : IsPrefix old before
  pub now : new ≡ before ++ record { tag = tag; len = length l.log } ∷ []
