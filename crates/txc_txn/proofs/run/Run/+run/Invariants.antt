use Rattle.std.proofs.Common.{◌≡◌, ℕ, ◌+◌, ◌*◌, drop}
use Rattle.txc_base.specs.declared.cause.Cause.TheVariants.{Asked}
use Rattle.txc_txn.specs.Growth.{AllGrow, SameOutside}
use Rattle.txc_txn.specs.Run.{KeepsTrace, alternatives, state_of}
use Rattle.txc_txn.specs.Transaction.{steps_in}
use Rattle.txc_txn.proofs.run.Run.+run.Given as goal

abbrev pub invariant-or-loop-branch : goal.invariant-or-loop-branch
invariant-or-loop-branch g l = record {
  fixed : g.H.Hold.fixed l.hold ≡ g.H.Hold.fixed l.fn.hold;
  held : (n : ℕ) → g.H.Hold.IsHeld l.fn.hold n → g.H.Hold.IsHeld l.hold n;
  same : g.H.Hold.chans l.hold ≡ g.H.Hold.chans l.fn.hold;
  last : l.trace.last ≡ l.initial.trace.last;
  replies : l.trace.replies.items ≡ l.initial.trace.replies.items;
  deeds : l.trace.deeds.items ≡ l.initial.trace.deeds.items;
  rest : alternatives l.self.tag Asked l.branches (state_of (g.H.Hold.chans l.fn.hold) l.initial.trace)
      ≡ alternatives l.self.tag l.cause (drop l.branch-index l.branches)
      (state_of (g.H.Hold.chans l.fn.hold) l.initial.trace);
}

abbrev pub invariant-steps-loop-step : goal.invariant-steps-loop-step
invariant-steps-loop-step g l = record {
  fixed : g.H.Hold.fixed l.hold ≡ g.H.Hold.fixed l.initial.hold;
  held : (n : ℕ) → g.H.Hold.IsHeld l.initial.hold n → g.H.Hold.IsHeld l.hold n;
  others : SameOutside l.self.declared.now (g.H.Hold.chans l.initial.hold) (g.H.Hold.chans l.hold);
  grows : AllGrow l.self.tag (g.H.Hold.chans l.initial.hold) (g.H.Hold.chans l.hold);
  keeps : KeepsTrace l.initial.trace l.trace;
  rest : steps_in l.self.tag l.steps (state_of (g.H.Hold.chans l.initial.hold) l.initial.trace)
      ≡ steps_in l.self.tag (drop l.step-index l.steps) (state_of (g.H.Hold.chans l.hold) l.trace);
}

abbrev pub decreases-step : goal.decreases-step
decreases-step g l = 3 * goal.size-step g l

abbrev pub decreases-steps : goal.decreases-steps
decreases-steps g l = 3 * goal.size-steps g l + 1

abbrev pub decreases-or : goal.decreases-or
decreases-or g l = 3 * goal.size-or g l + 2
