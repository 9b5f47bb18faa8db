use Rattle.std.proofs.Common.{◌≡◌, ◌<◌, ℕ}
use Rattle.txc_table_lines.specs.Locked.{IsLineCounted, channel_at, collected_at}
use Rattle.txc_table_lines.proofs.locked_lines.LockedLines.show_whole.Given as goal

abbrev pub invariant-loop-at : goal.invariant-loop-at
invariant-loop-at g l = record {
  counted : (n : ℕ) → n < l.at → IsLineCounted (channel_at l.initial.self n) (collected_at l.initial.shares n);
  shares : l.shares ≡ l.initial.shares;
  same : l.self ≡ l.initial.self;
}
