use Rattle.std.proofs.Common.{◌≡◌, ◌≤◌, ◌+◌, ◌++◌, All, length, map}
use Rattle.std.specs.Prelude.{reverse, vec_capacity}
use Rattle.txc_table_lines.specs.Guards.{channel_in}
use Rattle.txc_table_lines.specs.Locked.{AreClean, IsLineThere, helds_of, lines_of}
use Rattle.txc_table_lines.proofs.lines.Lines.lock_all.Given as goal

abbrev pub invariant-loop-lock : goal.invariant-loop-lock
invariant-loop-lock g l = record {
  lines : lines_of (map channel_in l.lines.items) ++ map (λ lock. lock.label.value.line) (reverse l.locks.items)
      ≡ l.fn.self;
  there : All IsLineThere l.lines.items;
  clean : AreClean (helds_of (map channel_in l.lines.items));
  enough : length l.lines.items + length l.locks.items ≤ vec_capacity l.lines;
  room : length l.lines.items + length l.locks.items ≤ vec_capacity l.locks;
}

abbrev pub decreases-loop-lock : goal.decreases-loop-lock
decreases-loop-lock g l = length l.locks.items
