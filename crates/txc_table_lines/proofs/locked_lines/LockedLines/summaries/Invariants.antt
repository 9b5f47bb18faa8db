use Rattle.std.proofs.Common.{◌≡◌, ◌≤◌, length}
use Rattle.std.specs.Prelude.{vec_capacity}
use Rattle.txc_table_lines.specs.Accounted.{AreSummaries}
use Rattle.txc_table_lines.specs.Locked.{line_decls_of, helds_of}
use Rattle.txc_table_lines.proofs.locked_lines.LockedLines.summaries.Given as goal

abbrev pub invariant-loop-at : goal.invariant-loop-at
invariant-loop-at g l = record {
  room : length l.initial.self ≤ vec_capacity l.summaries;
  made : AreSummaries (line_decls_of l.initial.self) (helds_of l.initial.self) l.at l.summaries.items;
  same : l.self ≡ l.initial.self;
}
