-- The order in which a seat locks lines.
use Rattle.std.specs.Prelude.{ℕ, List}
use Rattle.txc_table_line.specs.Line.{LineId}

-- the lines, and the lowest number of a line that can still be locked
pub record LockOrderView : Type 0 where
  pub lines : List LineId
  pub lowest : ℕ
