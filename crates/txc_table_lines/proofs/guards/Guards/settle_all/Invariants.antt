use Rattle.std.proofs.Common.{◌≡◌}
use Rattle.txc_table_line.specs.LineChan.{no_channel}
use Rattle.txc_table_lines.specs.Committed.{IsSettled}
use Rattle.txc_table_lines.specs.Lines.{line_ids, no_share}
use Rattle.txc_table_lines.proofs.Sweeping.{Swept}
use Rattle.txc_table_lines.proofs.guards.Guards.settle_all.Given as goal

abbrev pub invariant-loop-at : goal.invariant-loop-at
invariant-loop-at g l = record {
  declared : l.self.declared ≡ l.initial.self.declared;
  known : l.self.known ≡ l.initial.self.known;
  lines : line_ids l.shares ≡ line_ids l.initial.shares;
  swept : Swept (λ x y x' y'. IsSettled l.tag x.held.logged y x'.held.logged y') l.initial.self.declared no_channel
      no_share l.initial.self.channels l.initial.shares l.at l.self.channels l.shares;
}
