use Rattle.std.proofs.Common.{◌≡◌, ℕ, drop}
use Rattle.txc_txn.specs.Maps.{settle_all}
use Rattle.txc_txn.proofs.held.settle_declared.Given as goal

abbrev pub invariant-loop-chan : goal.invariant-loop-chan
invariant-loop-chan g l = record {
  held : (n : ℕ) → g.H.Hold.IsHeld l.initial.hold n → g.H.Hold.IsHeld l.hold n;
  rest : settle_all (g.H.Hold.chans l.hold) l.stamp (drop l.chan-index l.declared)
      ≡ settle_all (g.H.Hold.chans l.initial.hold) l.stamp l.declared;
  fixed : g.H.Hold.fixed l.hold ≡ g.H.Hold.fixed l.initial.hold;
}
