use Rattle.std.proofs.Common.{◌≡◌, ◌+◌, ◌++◌, ◌∷◌, []}
use Rattle.txc_table_lines.specs.Lines.{fresh_share}
use Rattle.txc_table_lines.proofs.Mapping.{mapped}
use Rattle.txc_table_lines.proofs.opening.add_line.Given as goal

abbrev pub invariant-loop-at : goal.invariant-loop-at
invariant-loop-at g l = record {
  channel : l.channel ≡ l.initial.channel;
  ledgers : l.shares.ledgers ≡ l.initial.channel.line.ledgers;
  parts : l.shares.parts + l.at ≡ l.count;
  none : (l.shares.amount ≡ 0) × (l.shares.made ≡ 0);
  seats : l.seats.items ≡ mapped (λ shares. shares ++ fresh_share l.initial.channel.line ∷ []) l.at
      l.initial.seats.items;
}
