use Rattle.std.proofs.Common.{◌≡◌, ◌≤◌, length}
use Rattle.std.specs.Prelude.{vec_capacity}
use Rattle.txc_table_lines.specs.Accounted.{AreAccounts, with_logs}
use Rattle.txc_table_lines.specs.Locked.{line_decls_of, helds_of}
use Rattle.txc_table_lines.proofs.accounts.LockedLines+FullLog.accounts_without_logs.Given as goal

abbrev pub invariant-loop-at : goal.invariant-loop-at
invariant-loop-at l = record {
  room : length l.initial.self ≤ vec_capacity l.accounts;
  many : length l.accounts.items ≡ l.at;
  made : AreAccounts (line_decls_of l.initial.self) (helds_of l.initial.self) l.at
      (with_logs l.accounts.items (helds_of l.initial.self));
  same : l.self ≡ l.initial.self;
}
