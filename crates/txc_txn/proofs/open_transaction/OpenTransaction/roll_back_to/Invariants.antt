use Rattle.std.proofs.Common.{◌≡◌, ℕ, drop}
use Rattle.txc_txn.specs.Growth.{IsMarked}
use Rattle.txc_txn.specs.Maps.{Map, kinds_of}
use Rattle.txc_txn.specs.OpenTransaction.{marks_since}
use Rattle.txc_txn.proofs.Restoring.{BackOr}
use Rattle.txc_txn.proofs.open_transaction.OpenTransaction.roll_back_to.Given as goal

abbrev pub invariant-loop-i : goal.invariant-loop-i
invariant-loop-i g l = record {
  held : (n : ℕ) → g.H.Hold.IsHeld l.initial.hold n → g.H.Hold.IsHeld l.hold n;
  kinds : kinds_of (g.H.Hold.chans l.hold) ≡ kinds_of (g.H.Hold.chans l.initial.hold);
  back : (m : Map) → IsMarked l.fn.self.tag l.touched (marks_since l.saved l.marks) m (g.H.Hold.chans l.initial.hold)
      → (n : ℕ) → BackOr l.fn.self.tag (drop l.i l.touched) m (g.H.Hold.chans l.hold) n;
  fixed : g.H.Hold.fixed l.hold ≡ g.H.Hold.fixed l.initial.hold;
}
