use Rattle.std.proofs.Common.{◌≡◌, ◌≤◌, length, map, take}
use Rattle.std.specs.Prelude.{vec_capacity}
use Rattle.txc_table_lines.specs.Locked.{no_part}
use Rattle.txc_table_lines.proofs.locked_lines.LockedLines.empty_shares.Given as goal

abbrev pub invariant-loop-at : goal.invariant-loop-at
invariant-loop-at g l = record {
  shares : l.shares.items ≡ map (λ channel. no_part channel.line.ledgers) (take l.at l.initial.self);
  room : length l.initial.self ≤ vec_capacity l.shares;
  same : l.self ≡ l.initial.self;
}
