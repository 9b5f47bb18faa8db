use Rattle.std.proofs.Common.{◌≡◌, ◌-◌, ◌++◌, take, drop}
use Rattle.txc_txn.specs.Run.{deeds_of}
use Rattle.txc_txn.proofs.trace.add_deeds.Given as goal

abbrev pub invariant-loop-at : goal.invariant-loop-at
invariant-loop-at g l = record {
  same : l.hold ≡ l.fn.hold;
  deeds : l.trace.deeds.items ≡ l.initial.trace.deeds.items ++ deeds_of l.chan l.place
      (take (l.at - l.place) (drop l.place (g.H.Hold.chans l.fn.hold l.chan).log));
  replies : l.trace.replies ≡ l.initial.trace.replies;
  last : l.trace.last ≡ l.initial.trace.last;
}
