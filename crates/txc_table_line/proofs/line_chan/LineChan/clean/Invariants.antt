use Rattle.std.proofs.Common.{◌≡◌}
use Rattle.txc_table_line.specs.LineChan.{HasEmptyShares, HasLedgers}
use Rattle.txc_table_line.proofs.line_chan.LineChan.clean.Given as goal

abbrev pub invariant-loop-self : goal.invariant-loop-self
invariant-loop-self g l = record {
  marks : l.self-inside.marks.log ≡ l.fn.self.marks;
  decl : l.self-inside.chan.logged.decl ≡ l.fn.self.line.decl;
  entries : l.self-inside.entries.name ≡ l.fn.self.line.ledgers.entries;
  seats : l.self-inside.entries.whole ≡ l.fn.self.line.ledgers.seats;
  made : l.self-inside.made.name ≡ l.fn.self.line.ledgers.marks;
  log : l.self-inside.log.name ≡ l.fn.self.line.lists.log;
  history : l.self-inside.marks.name ≡ l.fn.self.line.lists.marks;
  whole : l.self-inside.made.whole ≡ l.self-inside.entries.whole;
  is : HasLedgers l.self-inside.chan.logged l.self-inside.entries.total l.self-inside.log.log l.self-inside.made.total
      l.self-inside.marks.log;
  none : HasEmptyShares l.self-inside.entries.name l.self-inside.made.name l.self-inside.entries.whole
      l.self-inside.none;
}

abbrev pub decreases-loop-self : goal.decreases-loop-self
decreases-loop-self g l = l.self-inside.chan.logged.pending
