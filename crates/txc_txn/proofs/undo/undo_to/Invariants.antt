use Rattle.std.proofs.Common.{◌≡◌, ℕ}
use Rattle.txc_base.specs.declared.tag.Tag.{Tag}
use Rattle.txc_chan.specs.Logged.{Logged}
use Rattle.txc_txn.specs.Growth.{Grows}
use Rattle.txc_txn.specs.Maps.{kinds_of, put_at}
use Rattle.txc_txn.proofs.undo.undo_to.Given as goal

abbrev pub invariant-loop-hold : goal.invariant-loop-hold
invariant-loop-hold g l = record {
  fixed : g.H.Hold.fixed l.hold ≡ g.H.Hold.fixed l.initial.hold;
  held : (n : ℕ) → g.H.Hold.IsHeld l.initial.hold n → g.H.Hold.IsHeld l.hold n;
  others : g.H.Hold.chans l.hold ≡ put_at (g.H.Hold.chans l.initial.hold) l.chan (g.H.Hold.chans l.hold l.chan);
  kinds : kinds_of (g.H.Hold.chans l.hold) ≡ kinds_of (g.H.Hold.chans l.initial.hold);
  back : (tag : Tag) (a : Logged) → a.pending ≡ l.mark → Grows tag a (g.H.Hold.chans l.initial.hold l.chan)
      → Grows tag a (g.H.Hold.chans l.hold l.chan);
}

abbrev pub decreases-loop-hold : goal.decreases-loop-hold
decreases-loop-hold g l = (g.H.Hold.chans l.hold l.chan).pending
