use Rattle.std.proofs.Common.{rules, arith, IsTrue, ◌≡◌, ◌≢◌, refl, sym, ap, subst, ◌∙◌}
use Rattle.std.proofs.lemmas.Grind.{common_steps}
use Rattle.std.proofs.lemmas.List.{at_drop_all}
use Rattle.std.proofs.lemmas.Result.{IfOk-from_err}
use Rattle.txc_base.specs.declared.cause.Cause.TheVariants.{Asked}
use Rattle.txc_base.specs.declared.stop.Stop.TheVariants.{NoMemory}
use Rattle.txc_txn_check.specs.declared.step.Step.{the_lemmas}
use Rattle.txc_txn.specs.Growth.{AllGrow}
use Rattle.txc_txn.specs.Maps.{Map, kinds_of}
use Rattle.txc_txn.specs.Run.{state_of, alternatives}
use Rattle.txc_txn_check.specs.Steps.{Fits, NamesOnly, every, is_fit, is_on}
use Rattle.txc_txn.specs.Transaction.{steps_in, step_in, Again, Kept, Aborted}
use Rattle.txc_txn_check.proofs.Folds.{at_or, declared_op}
use Rattle.txc_txn.proofs.Growing.{grow_none, grow_on, grows_refl, kinds_stay}
use Rattle.txc_txn.proofs.Restoring.{marked}
use Rattle.txc_txn.proofs.Running.{all_at, falls, taken, step_in-Do, step_in-Or, step_in-Retry, others_op, states_equal}
use Rattle.txc_txn.proofs.Running.{tried, failed, step_done, step_again, step_halt, keeps_refl, keeps_same, keeps_on}
use Rattle.txc_txn.proofs.Running.{keeps_as}
use Rattle.txc_txn.proofs.run.Run.+run.Goals as goal

pub or-returns-in_err-steps : goal.or-returns-in_err-steps
or-returns-in_err-steps g t c = record {
  held = λ n h. c.steps.ensures.held n (c.loop-branch.invariant.held n h);
  fixed = c.steps.ensures.fixed ∙ c.loop-branch.invariant.fixed;
  runs = record {
    others = λ n no. c.steps.ensures.runs.others n no ∙ ap (λ f. f n) c.loop-branch.invariant.same;
    grows = subst (λ (m : Map). AllGrow c.args.self.now.tag m (g.H.Hold.chans c.steps.new.hold))
        c.loop-branch.invariant.same c.steps.ensures.runs.grows;
    keeps = keeps_as c.loop-branch.trace c.args.trace.now c.steps.new.trace c.loop-branch.invariant.replies
        c.loop-branch.invariant.deeds c.steps.ensures.runs.keeps;
    ok = IfOk-from_err c.from_residual.result _ c.from_residual.ensures.0;
    err =
        let same : state_of (g.H.Hold.chans c.loop-branch.hold) c.loop-branch.trace
        ≡ state_of (g.H.Hold.chans c.args.hold.now) c.args.trace.now =
        states_equal _ _ c.loop-branch.trace c.args.trace.now c.loop-branch.invariant.same c.loop-branch.invariant.last
        c.loop-branch.invariant.replies c.loop-branch.invariant.deeds in
        let here : c.in_err-steps.field-0.0 ≢ NoMemory
        → steps_in c.args.self.now.tag c.branch-item.result
        (state_of (g.H.Hold.chans c.loop-branch.hold) c.loop-branch.trace) ≡ Aborted c.in_err-steps.field-0.0 =
        rw (← c.as_slice.ensures) c.in_err-steps.ensures.runs.err in
        let halted : c.in_err-steps.field-0.0 ≢ NoMemory
        → alternatives c.args.self.now.tag Asked c.args.branches.now
        (state_of (g.H.Hold.chans c.args.hold.now) c.args.trace.now) ≡ Aborted c.in_err-steps.field-0.0 =
        λ ne. failed c.args.self.now.tag c.loop-branch.cause c.in_err-steps.field-0.0 c.args.branches.now
        c.loop-branch.branch-index c.branch-item.result
        (state_of (g.H.Hold.chans c.loop-branch.hold) c.loop-branch.trace)
        (state_of (g.H.Hold.chans c.args.hold.now) c.args.trace.now) c.loop-branch-test.true c.branch-item.is same
        c.loop-branch.invariant.rest (here ne) in
        search rules;
  };
}

pub or-loop-branch-preserved : goal.or-loop-branch-preserved
or-loop-branch-preserved g t c = record {
  fixed = c.restore.ensures.fixed ∙ c.steps.ensures.fixed ∙ c.loop-branch.invariant.fixed;
  held = λ n h. c.restore.ensures.held n (c.steps.ensures.held n (c.loop-branch.invariant.held n h));
  same = c.restore.ensures.back c.args.self.now.tag (g.H.Hold.chans c.args.hold.now)
      (marked c.args.self.now.tag c.args.self.now.declared.now _ (g.H.Hold.chans c.args.hold.now)
      (g.H.Hold.chans c.loop-branch.hold) (g.H.Hold.chans c.steps.new.hold)
      c.loop-branch.invariant.same c.of-start.ensures.marks c.of-start.ensures.lawful c.steps.ensures.runs.others
      c.steps.ensures.runs.grows);
  last = c.restore.ensures.last ∙ c.of-start.ensures.last;
  replies = grind (arith, common_steps);
  deeds = grind (arith, common_steps);
  rest =
      let same : state_of (g.H.Hold.chans c.loop-branch.hold) c.loop-branch.trace
      ≡ state_of (g.H.Hold.chans c.args.hold.now) c.args.trace.now =
      states_equal _ _ c.loop-branch.trace c.args.trace.now c.loop-branch.invariant.same c.loop-branch.invariant.last
      c.loop-branch.invariant.replies c.loop-branch.invariant.deeds in
      let again : steps_in c.args.self.now.tag c.branch-item.result
      (state_of (g.H.Hold.chans c.loop-branch.hold) c.loop-branch.trace) ≡ Again c.in-Retry.why = search rules in
      tried c.args.self.now.tag c.loop-branch.cause c.in-Retry.why c.args.branches.now c.loop-branch.branch-index
      c.branch-item.result (state_of (g.H.Hold.chans c.loop-branch.hold) c.loop-branch.trace)
      (state_of (g.H.Hold.chans c.args.hold.now) c.args.trace.now) c.loop-branch-test.true c.branch-item.is same
      c.loop-branch.invariant.rest again;
}

pub step-or-requires : goal.step-or-requires
step-or-requires g t c κs within = (
  search (rules, the_lemmas),
  (
    search rules,
    (
      search rules,
      (
        rw c.as_slice.ensures (at_or (is_on c.args.self.now.declared.now) c.args.step.now c.in-Or.branches c.in-Or.is
            c.requires.names),
        (
          rw c.as_slice.ensures (at_or (is_fit (kinds_of (g.H.Hold.chans c.args.hold.now))) c.args.step.now
              c.in-Or.branches c.in-Or.is c.requires.fits),
          (c.requires.held, c.requires.few),
        ),
      ),
    ),
  ),
)

pub step-returns-in-Or : goal.step-returns-in-Or
step-returns-in-Or g t c = record {
  held = c.or.ensures.held;
  fixed = c.or.ensures.fixed;
  runs = record {
    others = c.or.ensures.runs.others;
    grows = c.or.ensures.runs.grows;
    keeps = c.or.ensures.runs.keeps;
    ok = rw (c.in-Or.is, step_in-Or, ← c.as_slice.ensures) c.or.ensures.runs.ok;
    err = rw (c.in-Or.is, step_in-Or, ← c.as_slice.ensures) c.or.ensures.runs.err;
  };
}

pub step-returns-in-Do : goal.step-returns-in-Do
step-returns-in-Do g t c = record {
  held = c.op.ensures.held;
  fixed = c.op.ensures.fixed;
  runs = record {
    others =
        others_op (g.H.Hold.chans c.args.hold.now) (g.H.Hold.chans c.op.new.hold) c.args.self.now.declared.now _ _
        (declared_op c.args.self.now.declared.now c.args.step.now c.in-Do.op c.in-Do.is c.requires.names)
        c.op.ensures.others;
    grows = c.op.ensures.grows;
    keeps = c.op.ensures.keeps;
    ok = rw (c.in-Do.is, step_in-Do) c.op.ensures.ok;
    err = rw (c.in-Do.is, step_in-Do) c.op.ensures.err;
  };
}

pub steps-returns-in_err-step : goal.steps-returns-in_err-step
steps-returns-in_err-step g t c = record {
  held = λ n h. c.step.ensures.held n (c.loop-step.invariant.held n h);
  fixed = c.step.ensures.fixed ∙ c.loop-step.invariant.fixed;
  runs = record {
    others = λ n no. c.step.ensures.runs.others n no ∙ c.loop-step.invariant.others n no;
    grows = grow_on c.args.self.now.tag (g.H.Hold.chans c.args.hold.now) (g.H.Hold.chans c.loop-step.hold)
        (g.H.Hold.chans c.step.new.hold) c.loop-step.invariant.grows c.step.ensures.runs.grows;
    keeps = keeps_on c.args.trace.now c.loop-step.trace c.step.new.trace c.loop-step.invariant.keeps
        c.step.ensures.runs.keeps;
    ok = IfOk-from_err c.from_residual.result _ c.from_residual.ensures.0;
    err =
        let halted : c.in_err-step.field-0.0 ≢ NoMemory
        → steps_in c.args.self.now.tag c.args.steps.now (state_of (g.H.Hold.chans c.args.hold.now) c.args.trace.now)
        ≡ Aborted c.in_err-step.field-0.0 =
        λ ne. step_halt c.args.self.now.tag c.args.steps.now c.loop-step.step-index c.step-item.result
        (state_of (g.H.Hold.chans c.args.hold.now) c.args.trace.now)
        (state_of (g.H.Hold.chans c.loop-step.hold) c.loop-step.trace) c.in_err-step.field-0.0 c.loop-step-test.true
        c.step-item.is c.loop-step.invariant.rest (c.in_err-step.ensures.runs.err ne) in
        search rules;
  };
}

pub steps-returns-in-Retry : goal.steps-returns-in-Retry
steps-returns-in-Retry g t c = record {
  held = λ n h. c.step.ensures.held n (c.loop-step.invariant.held n h);
  fixed = c.step.ensures.fixed ∙ c.loop-step.invariant.fixed;
  runs = record {
    others = λ n no. c.step.ensures.runs.others n no ∙ c.loop-step.invariant.others n no;
    grows = grow_on c.args.self.now.tag (g.H.Hold.chans c.args.hold.now) (g.H.Hold.chans c.loop-step.hold)
        (g.H.Hold.chans c.step.new.hold) c.loop-step.invariant.grows c.step.ensures.runs.grows;
    keeps = keeps_on c.args.trace.now c.loop-step.trace c.step.new.trace c.loop-step.invariant.keeps
        c.step.ensures.runs.keeps;
    ok =
        let again : step_in c.args.self.now.tag c.step-item.result
        (state_of (g.H.Hold.chans c.loop-step.hold) c.loop-step.trace) ≡ Again c.in-Retry.cause = search rules in
        step_again c.args.self.now.tag c.args.steps.now c.loop-step.step-index c.step-item.result
        (state_of (g.H.Hold.chans c.args.hold.now) c.args.trace.now)
        (state_of (g.H.Hold.chans c.loop-step.hold) c.loop-step.trace) c.in-Retry.cause c.loop-step-test.true
        c.step-item.is c.loop-step.invariant.rest again;
    err = tt;
  };
}

pub steps-loop-step-preserved : goal.steps-loop-step-preserved
steps-loop-step-preserved g t c = record {
  fixed = c.step.ensures.fixed ∙ c.loop-step.invariant.fixed;
  held = λ n h. c.step.ensures.held n (c.loop-step.invariant.held n h);
  others = λ n no. c.step.ensures.runs.others n no ∙ c.loop-step.invariant.others n no;
  grows = grow_on c.args.self.now.tag (g.H.Hold.chans c.args.hold.now) (g.H.Hold.chans c.loop-step.hold)
      (g.H.Hold.chans c.step.new.hold) c.loop-step.invariant.grows c.step.ensures.runs.grows;
  keeps = keeps_on c.args.trace.now c.loop-step.trace c.step.new.trace c.loop-step.invariant.keeps
      c.step.ensures.runs.keeps;
  rest =
      let kept : step_in c.args.self.now.tag c.step-item.result
      (state_of (g.H.Hold.chans c.loop-step.hold) c.loop-step.trace)
      ≡ Kept (state_of (g.H.Hold.chans c.step.new.hold) c.step.new.trace) = search rules in
      step_done c.args.self.now.tag c.args.steps.now c.loop-step.step-index c.step-item.result
      (state_of (g.H.Hold.chans c.args.hold.now) c.args.trace.now)
      (state_of (g.H.Hold.chans c.loop-step.hold) c.loop-step.trace)
      (state_of (g.H.Hold.chans c.step.new.hold) c.step.new.trace) c.loop-step-test.true c.step-item.is
      c.loop-step.invariant.rest kept;
}

pub or-returns : goal.or-returns
or-returns g t c = record {
  held = c.loop-branch.invariant.held;
  fixed = c.loop-branch.invariant.fixed;
  runs = record {
    others = λ n none. ap (λ f. f n) c.loop-branch.invariant.same;
    grows = grow_none c.args.self.now.tag (g.H.Hold.chans c.args.hold.now) (g.H.Hold.chans c.loop-branch.hold)
        c.loop-branch.invariant.same;
    keeps = keeps_same c.args.trace.now c.loop-branch.trace c.loop-branch.invariant.replies
        c.loop-branch.invariant.deeds;
    ok = c.loop-branch.invariant.rest
        ∙ at_drop_all (λ bs. alternatives c.args.self.now.tag c.loop-branch.cause bs
        (state_of (g.H.Hold.chans c.args.hold.now) c.args.trace.now)) c.args.branches.now c.loop-branch.branch-index
        (omega arith);
    err = tt;
  };
}

pub step-op-requires-clause-held : goal.step-op-requires-clause-held
step-op-requires-clause-held g t c =
    c.requires.held _ (declared_op c.args.self.now.declared.now c.args.step.now c.in-Do.op c.in-Do.is c.requires.names)

pub or-returns-in-Done : goal.or-returns-in-Done
or-returns-in-Done g t c = record {
  held = λ n h. c.steps.ensures.held n (c.loop-branch.invariant.held n h);
  fixed = c.steps.ensures.fixed ∙ c.loop-branch.invariant.fixed;
  runs = record {
    others = λ n no. c.steps.ensures.runs.others n no ∙ ap (λ f. f n) c.loop-branch.invariant.same;
    grows = subst (λ (m : Map). AllGrow c.args.self.now.tag m (g.H.Hold.chans c.steps.new.hold))
        c.loop-branch.invariant.same c.steps.ensures.runs.grows;
    keeps = keeps_as c.loop-branch.trace c.args.trace.now c.steps.new.trace c.loop-branch.invariant.replies
        c.loop-branch.invariant.deeds c.steps.ensures.runs.keeps;
    ok = let kept : steps_in c.args.self.now.tag c.branch-item.result
        (state_of (g.H.Hold.chans c.loop-branch.hold) c.loop-branch.trace)
        ≡ Kept (state_of (g.H.Hold.chans c.steps.new.hold) c.steps.new.trace) = search rules in
        taken c.args.self.now.tag c.loop-branch.cause c.args.branches.now c.loop-branch.branch-index
        c.branch-item.result (state_of (g.H.Hold.chans c.loop-branch.hold) c.loop-branch.trace)
        (state_of (g.H.Hold.chans c.args.hold.now) c.args.trace.now)
        (state_of (g.H.Hold.chans c.steps.new.hold) c.steps.new.trace) c.loop-branch-test.true c.branch-item.is
        (states_equal _ _ c.loop-branch.trace c.args.trace.now c.loop-branch.invariant.same c.loop-branch.invariant.last
        c.loop-branch.invariant.replies c.loop-branch.invariant.deeds) c.loop-branch.invariant.rest kept;
    err = tt;
  };
}

pub step-returns-in-Retry : goal.step-returns-in-Retry
step-returns-in-Retry g t c = record {
  held = λ n h. h;
  fixed = refl;
  runs = record {
    others = λ n none. refl;
    grows = λ n. grows_refl c.args.self.now.tag (g.H.Hold.chans c.args.hold.now n);
    keeps = keeps_refl c.args.trace.now;
    ok = rw (c.in-Retry.is, step_in-Retry) refl;
    err = tt;
  };
}

pub steps-returns : goal.steps-returns
steps-returns g t c = record {
  held = c.loop-step.invariant.held;
  fixed = c.loop-step.invariant.fixed;
  runs = record {
    others = c.loop-step.invariant.others;
    grows = c.loop-step.invariant.grows;
    keeps = c.loop-step.invariant.keeps;
    ok = c.loop-step.invariant.rest
        ∙ at_drop_all (λ xs. steps_in c.args.self.now.tag xs
        (state_of (g.H.Hold.chans c.loop-step.hold) c.loop-step.trace)) c.args.steps.now c.loop-step.step-index
        (omega arith);
    err = tt;
  };
}

pub or-of-start-requires-clause-held : goal.or-of-start-requires-clause-held
or-of-start-requires-clause-held g t c = c.requires.held

pub or-of-start-requires-clause-few : goal.or-of-start-requires-clause-few
or-of-start-requires-clause-few g t c = c.requires.few

pub or-loop-branch-init : goal.or-loop-branch-init
or-loop-branch-init g t c = record {
  fixed = ap g.H.Hold.fixed c.of-start.ensures.same;
  held = λ n h. subst (λ hold. g.H.Hold.IsHeld hold n) (sym c.of-start.ensures.same) h;
  same = ap g.H.Hold.chans c.of-start.ensures.same;
  last = refl;
  replies = refl;
  deeds = refl;
  rest = refl;
}

pub or-restore-requires-clause-held : goal.or-restore-requires-clause-held
or-restore-requires-clause-held g t c n h =
    c.steps.ensures.held n (c.loop-branch.invariant.held n (c.requires.held n h))

pub steps-loop-step-init : goal.steps-loop-step-init
steps-loop-step-init g t c = record {
  fixed = refl;
  held = λ n h. h;
  others = λ n no. refl;
  grows = λ n. grows_refl c.args.self.now.tag (g.H.Hold.chans c.args.hold.now n);
  keeps = keeps_refl c.args.trace.now;
  rest = refl;
}

pub or-steps-requires : goal.or-steps-requires
or-steps-requires g t c κs within = (
  search (rules, the_lemmas),
  (
    search rules,
    (
      search rules,
      (
        all_at (NamesOnly c.args.self.now.declared.now) c.args.branches.now c.loop-branch.branch-index
            c.branch-item.result _ c.requires.names c.loop-branch-test.true c.branch-item.is c.as_slice.ensures,
        (
          subst (λ (m : Map). Fits (kinds_of m) c.as_slice.result.now) (sym c.loop-branch.invariant.same)
              (all_at (Fits (kinds_of (g.H.Hold.chans c.args.hold.now))) c.args.branches.now
              c.loop-branch.branch-index c.branch-item.result _ c.requires.fits c.loop-branch-test.true
              c.branch-item.is c.as_slice.ensures),
          (λ n h. c.loop-branch.invariant.held n (c.requires.held n h), c.requires.few),
        ),
      ),
    ),
  ),
)

pub or-loop-branch-smaller : goal.or-loop-branch-smaller
or-loop-branch-smaller g t c = falls c.args.branches.now c.loop-branch.branch-index c.loop-branch-test.true

pub steps-step-requires : goal.steps-step-requires
steps-step-requires g t c κs within = (
  search (rules, the_lemmas),
  (
    search rules,
    (
      search rules,
      (
        all_at (λ step. IsTrue (every (is_on c.args.self.now.declared.now) step)) c.args.steps.now
            c.loop-step.step-index c.step-item.result _ c.requires.names c.loop-step-test.true c.step-item.is refl,
        (
          all_at (λ step. IsTrue (every (is_fit (kinds_of (g.H.Hold.chans c.loop-step.hold))) step)) c.args.steps.now
              c.loop-step.step-index c.step-item.result _
              (rw (kinds_stay c.args.self.now.tag (g.H.Hold.chans c.args.hold.now) (g.H.Hold.chans c.loop-step.hold)
              c.loop-step.invariant.grows) c.requires.fits) c.loop-step-test.true c.step-item.is refl,
          (λ n h. c.loop-step.invariant.held n (c.requires.held n h), c.requires.few),
        ),
      ),
    ),
  ),
)

pub steps-loop-step-smaller : goal.steps-loop-step-smaller
steps-loop-step-smaller g t c = falls c.args.steps.now c.loop-step.step-index c.loop-step-test.true
