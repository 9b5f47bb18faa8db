use Rattle.std.proofs.Common.{◌≡◌, ◌≤◌, ◌+◌, ◌++◌, All, length, map}
use Rattle.std.specs.Prelude.{reverse, vec_capacity}
use Rattle.txc_table_lines.specs.Guards.{channel_in}
use Rattle.txc_table_lines.specs.Locked.{IsLineThere, lines_of}
use Rattle.txc_table_lines.proofs.locked_lines.LockedLines.unlock.Given as goal

abbrev pub invariant-loop-line : goal.invariant-loop-line
invariant-loop-line g l = record {
  lines : map (λ lock. lock.label.value.line) l.locks.items ++ lines_of (map channel_in (reverse l.lines.items))
      ≡ lines_of l.fn.self;
  there : All IsLineThere l.lines.items;
  room : length l.locks.items + length l.lines.items ≤ vec_capacity l.locks;
  enough : length l.fn.self ≤ vec_capacity l.lines;
}

abbrev pub decreases-loop-line : goal.decreases-loop-line
decreases-loop-line g l = length l.lines.items
