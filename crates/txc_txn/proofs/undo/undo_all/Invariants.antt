use Rattle.std.proofs.Common.{◌≡◌, ℕ, drop}
use Rattle.txc_base.specs.declared.tag.Tag.{Tag}
use Rattle.txc_txn.specs.Growth.{IsMarked}
use Rattle.txc_txn.proofs.Restoring.{BackOr}
use Rattle.txc_txn.specs.Maps.{Map, kinds_of}
use Rattle.txc_txn.proofs.undo.undo_all.Given as goal

abbrev pub invariant-loop-i : goal.invariant-loop-i
invariant-loop-i g l = record {
  fixed : g.H.Hold.fixed l.hold ≡ g.H.Hold.fixed l.initial.hold;
  held : (n : ℕ) → g.H.Hold.IsHeld l.initial.hold n → g.H.Hold.IsHeld l.hold n;
  kinds : kinds_of (g.H.Hold.chans l.hold) ≡ kinds_of (g.H.Hold.chans l.initial.hold);
  back : (tag : Tag) (m : Map) → IsMarked tag l.declared l.marks m (g.H.Hold.chans l.initial.hold) → (n : ℕ)
      → BackOr tag (drop l.i l.declared) m (g.H.Hold.chans l.hold) n;
}
