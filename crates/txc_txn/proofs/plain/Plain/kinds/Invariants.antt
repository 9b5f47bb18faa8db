use Rattle.std.proofs.Common.{◌≡◌, map, take}
use Rattle.txc_txn.proofs.plain.Plain.kinds.Given as goal

abbrev pub invariant-loop-chan : goal.invariant-loop-chan
invariant-loop-chan g l = l.kinds.items ≡ map (λ held. held.logged.decl.kind) (take l.chan-index l.self)
