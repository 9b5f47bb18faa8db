use Rattle.std.proofs.Common.{◌≡◌, map, take}
use Rattle.txc_chan.proofs.decl.kinds_of.Given as goal

abbrev pub invariant-loop-decl : goal.invariant-loop-decl
invariant-loop-decl l = record {
  made : l.kinds.items ≡ map (λ decl. decl.kind) (take l.decl-index l.decls);
}
