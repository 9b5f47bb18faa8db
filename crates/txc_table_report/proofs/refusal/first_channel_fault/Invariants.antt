use Rattle.std.proofs.Common.{◌≡◌, drop}
use Rattle.txc_chan.specs.Limits.{first_fault}
use Rattle.txc_table_report.proofs.refusal.first_channel_fault.Given as goal

abbrev pub invariant-loop-decl : goal.invariant-loop-decl
invariant-loop-decl l = record {
  fine : first_fault l.decls ≡ first_fault (drop l.decl-index l.decls);
}
