use Rattle.std.proofs.Common.{◌≡◌, ◌<◌, ℕ, take, slice_index_or}
use Rattle.txc_chan.specs.Logged.{MatchesLog}
use Rattle.txc_txn.specs.Growth.{marks_of}
use Rattle.txc_txn.proofs.undo.mark_all.Given as goal

abbrev pub invariant-loop-chan : goal.invariant-loop-chan
invariant-loop-chan g l = record {
  same : l.hold ≡ l.initial.hold;
  marks : l.marks.items ≡ marks_of (g.H.Hold.chans l.initial.hold) (take l.chan-index l.declared);
  lawful : (k : ℕ) (d : ℕ) → k < l.chan-index
      → MatchesLog (g.H.Hold.chans l.initial.hold (slice_index_or l.declared k d));
}
