use Rattle.std.proofs.Common.{◌≡◌, drop}
use Rattle.txc_txn.specs.Transaction.{greatest}
use Rattle.txc_txn.proofs.run.greatest_stamp.Given as goal

abbrev pub invariant-loop-chan : goal.invariant-loop-chan
invariant-loop-chan g l = record {
  same : l.hold ≡ l.initial.hold;
  most : greatest (g.H.Hold.chans l.initial.hold) l.most (drop l.chan-index l.declared)
      ≡ greatest (g.H.Hold.chans l.initial.hold) l.initial.most l.declared;
}
