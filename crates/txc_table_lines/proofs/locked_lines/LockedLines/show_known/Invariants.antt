use Rattle.std.proofs.Common.{◌≡◌, ◌<◌, ℕ}
use Rattle.txc_table_lines.specs.Lines.{share_at}
use Rattle.txc_table_lines.specs.Locked.{IsLineSeen, channel_at}
use Rattle.txc_table_lines.proofs.locked_lines.LockedLines.show_known.Given as goal

abbrev pub invariant-loop-at : goal.invariant-loop-at
invariant-loop-at g l = record {
  seen : (n : ℕ) → n < l.at → IsLineSeen (share_at l.initial.shares n) (channel_at l.initial.self n);
  shares : l.shares ≡ l.initial.shares;
  same : l.self ≡ l.initial.self;
}
