-- What a seat has of a line.
use Rattle.std.specs.Prelude.{◌≡◌, ℕ, ◌≤◌, List}
use mathlib.Core.List.{IsPrefix}
use Rattle.txc_base.specs.declared.entry.Entry.{Entry}
use Rattle.txc_base.specs.declared.limits.TheConstants.{GREATEST_NUMBER}
use Rattle.txc_chan.specs.declared.decl.Decl.{Decl}
use Rattle.txc_chan.specs.Logged.{Logged}
use Rattle.txc_table_line.specs.Known.{IsKnown}
use Rattle.txc_table_line.specs.declared.mark.Mark.{Mark}
use Rattle.txc_table_line.specs.Line.{LineId}

-- what a seat has of a line: which line it is, how many entries of its log and how many of its marks the seat has made,
-- and what it has seen of both
pub record SeatShareView : Type 0 where
  pub line : LineId
  pub amount : ℕ
  pub log : List Entry
  pub made : ℕ
  pub marks : List Mark
  pub known : Logged

-- what is true of every share: the seat knows a channel that was there, whose log begins with what the seat has seen,
-- and has made at most the greatest number of entries
pub record IsValidShare (s : SeatShareView) : Type 0 where
  pub known : IsKnown s.line.decl s.amount s.known
  pub since : IsPrefix s.log s.known.log
  pub few : s.amount ≤ GREATEST_NUMBER

-- one part of the line's ledgers, a channel that has been there, whose log begins with what was seen of it, and an
-- amount
-- that a number can say
pub record IsSeatShare (decl : Decl) (parts amount : ℕ) (log : List Entry) (l : Logged) : Type 0 where
  pub part : parts ≡ 1
  pub known : IsKnown decl amount l
  pub since : IsPrefix log l.log
  pub few : amount ≤ GREATEST_NUMBER
