use Rattle.std.proofs.Common.{◌≡◌, ◌<◌, ℕ}
use Rattle.txc_table_line.specs.Marks.{AreMarks}
use Rattle.txc_table_lines.specs.Locked.{channel_at}
use Rattle.txc_table_lines.proofs.locked_lines.LockedLines.show_marks.Given as goal

abbrev pub invariant-loop-at : goal.invariant-loop-at
invariant-loop-at g l = record {
  marks : (n : ℕ) → n < l.at
      → AreMarks (channel_at l.initial.self n).held.logged (channel_at l.initial.self n).marks;
  same : l.self ≡ l.initial.self;
}
