use Rattle.std.proofs.Common.{◌≡◌, map, take, drop}
use Rattle.txc_chan.specs.Logged.{opened}
use Rattle.txc_chan.specs.Limits.{first_fault}
use Rattle.txc_txn.proofs.plain.Plain.build.Given as goal

abbrev pub invariant-loop-decl : goal.invariant-loop-decl
invariant-loop-decl g l = record {
  made : map (λ held. held.logged) l.chans.items ≡ map opened (take l.decl-index l.decls);
  fine : first_fault l.decls ≡ first_fault (drop l.decl-index l.decls);
}
