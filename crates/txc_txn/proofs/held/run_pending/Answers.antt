use Rattle.std.proofs.Common.{rules, ◌≡◌, refl, ap, subst, ◌∙◌}
use Rattle.txc_base.specs.declared.stop.Stop.TheVariants.{NoMemory}
use Rattle.txc_txn.specs.Run.{state_of}
use Rattle.txc_txn.specs.Transaction.{transaction, steps_in, Again, Aborted}
use Rattle.txc_txn.proofs.Beginning.{from_start}
use Rattle.txc_txn.proofs.held.run_pending.Goals as goal

pub returns-in-Ok-Done-clause-ended : goal.returns-in-Ok-Done-clause-ended
returns-in-Ok-Done-clause-ended g c = record {
  others = search rules;
  worn = search rules;
  stopped = tt;
  unchanged = tt;
}

pub returns-in-Ok-Retry-clause-ended : goal.returns-in-Ok-Retry-clause-ended
returns-in-Ok-Retry-clause-ended g c =
    let back = c.undo_all.ensures.back c.in_ok-run.run'.tag (g.H.Hold.chans c.mark_all.new.hold)
    (record {
      made = rw c.mark_all.ensures.same (c.as_slice.ensures.value ∙ c.mark_all.ensures.marks);
      lawful = rw c.mark_all.ensures.same c.mark_all.ensures.lawful;
      others = c.steps-3.ensures.runs.others;
      grows = c.steps-3.ensures.runs.grows;
    }) ∙ ap g.H.Hold.chans (c.mark_all.ensures.same ∙ c.begin.ensures.same) in
    record {
      others = λ n none. ap (λ f. f n) back;
      worn = search rules;
      stopped = tt;
      unchanged = tt;
    }

pub returns-in-Ok-Retry-clause-ran : goal.returns-in-Ok-Retry-clause-ran
returns-in-Ok-Retry-clause-ran g c =
    let again : transaction (g.H.Hold.chans c.args.hold.now) c.args.tag c.args.checked.now.declared
    c.args.checked.now.steps ≡ Again c.in-Ok-Retry.cause = search rules in
    rw again (
      refl,
      c.undo_all.ensures.back c.in_ok-run.run'.tag (g.H.Hold.chans c.mark_all.new.hold)
          (record {
            made = rw c.mark_all.ensures.same (c.as_slice.ensures.value ∙ c.mark_all.ensures.marks);
            lawful = rw c.mark_all.ensures.same c.mark_all.ensures.lawful;
            others = c.steps-3.ensures.runs.others;
            grows = c.steps-3.ensures.runs.grows;
          }) ∙ ap g.H.Hold.chans (c.mark_all.ensures.same ∙ c.begin.ensures.same),
    )

pub returns-in-Err-clause-ended : goal.returns-in-Err-clause-ended
returns-in-Err-clause-ended g c =
    let stopped : ¬ (c.in-Err.stop ≡ NoMemory)
    → transaction (g.H.Hold.chans c.args.hold.now) c.args.tag c.args.checked.now.declared c.args.checked.now.steps
    ≡ Aborted c.in-Err.stop =
    λ ne.
    subst (λ steps. transaction (g.H.Hold.chans c.args.hold.now) c.args.tag c.args.checked.now.declared steps
    ≡ Aborted c.in-Err.stop) c.steps-2.ensures
    (from_start (g.H.Hold.chans c.args.hold.now) c.args.tag c.in_ok-run.run'.tag _ _ _ c.reusing-trace.result
    (Aborted c.in-Err.stop) c.declared.ensures c.in_ok-run.ensures.can_rise
    c.in_ok-run.ensures.tag c.reusing-trace.ensures.last c.reusing-trace.ensures.replies c.reusing-trace.ensures.deeds
    (subst (λ hold. steps_in c.in_ok-run.run'.tag c.steps-2.result.now
    (state_of (g.H.Hold.chans hold) c.reusing-trace.result) ≡ Aborted c.in-Err.stop)
    (c.mark_all.ensures.same ∙ c.begin.ensures.same) (c.in-Err.ensures.runs.err ne))) in
    let back = c.undo_all-in-Err.ensures.back c.in_ok-run.run'.tag (g.H.Hold.chans c.mark_all.new.hold)
    (record {
      made = rw c.mark_all.ensures.same (c.as_slice-in-Err.ensures.value ∙ c.mark_all.ensures.marks);
      lawful = rw c.mark_all.ensures.same c.mark_all.ensures.lawful;
      others = c.steps-3.ensures.runs.others;
      grows = c.steps-3.ensures.runs.grows;
    }) ∙ ap g.H.Hold.chans (c.mark_all.ensures.same ∙ c.begin.ensures.same) in
    record {
      others = λ n none. ap (λ f. f n) back;
      worn = search rules;
      stopped = stopped;
      unchanged = back;
    }
