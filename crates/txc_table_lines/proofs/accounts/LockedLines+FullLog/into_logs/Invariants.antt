use Rattle.std.proofs.Common.{◌≡◌, ◌++◌, length, map}
use Rattle.txc_table_lines.specs.Accounted.{with_logs}
use Rattle.txc_table_lines.specs.Guards.{channel_in}
use Rattle.txc_table_lines.specs.Locked.{helds_of}
use Rattle.txc_table_lines.proofs.accounts.LockedLines+FullLog.into_logs.Given as goal

abbrev pub invariant-loop-line : goal.invariant-loop-line
invariant-loop-line g l = record {
  all : map channel_in (l.yielded ++ l.line-iterator.rest.items) ≡ l.fn.self;
  accounts : l.accounts.items ≡ with_logs l.initial.accounts.items (helds_of (map channel_in l.yielded));
  at : l.at ≡ length l.yielded;
  shares : l.shares.items ≡ l.initial.shares.items;
}
