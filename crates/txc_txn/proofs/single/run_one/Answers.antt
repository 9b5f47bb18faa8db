use Rattle.std.proofs.Common.{rules, ◌≡◌, ◌∙◌, subst, [], ◌∷◌}
use Rattle.txc_txn.specs.Growth.{AllGrow}
use Rattle.txc_txn.specs.Run.{state_of}
use Rattle.txc_txn.specs.Transaction.{Again, Aborted, Kept, op_in}
use Rattle.txc_txn.proofs.OneOperation.{one_again, one_kept, one_step}
use Rattle.txc_txn.proofs.Settling.{settle_kinds}
use Rattle.txc_txn.proofs.single.run_one.Goals as goal

pub returns-in-Ok-Done-clause-kinds : goal.returns-in-Ok-Done-clause-kinds
returns-in-Ok-Done-clause-kinds g c = rw c.settle.ensures.settled
    (settle_kinds c.in_ok-run.run'.tag (g.H.Hold.chans c.args.hold.now) (g.H.Hold.chans c.op.new.hold)
    c.in_ok-run.run'.tag.stamp (c.chan-chan.result ∷ [])
    (subst (λ hold. AllGrow c.in_ok-run.run'.tag (g.H.Hold.chans hold) (g.H.Hold.chans c.op.new.hold))
    (c.pending-mark.ensures.same ∙ c.begin.ensures.same) c.op.ensures.grows))

pub returns-in-Ok-Done-clause-ran : goal.returns-in-Ok-Done-clause-ran
returns-in-Ok-Done-clause-ran g c =
    let kept : op_in c.in_ok-run.run'.tag c.args.op.now
    (state_of (g.H.Hold.chans c.pending-mark.new.self) c.reusing-trace.result)
    ≡ Kept (state_of (g.H.Hold.chans c.op.new.hold) c.op.new.trace) = search rules in
    one_kept (g.H.Hold.chans c.args.hold.now) (g.H.Hold.chans c.op.new.hold) (g.H.Hold.chans c.settle.new.self)
    c.args.tag c.in_ok-run.run'.tag c.chan-chan.result c.args.op.now c.reusing-trace.result c.op.new.trace
    c.receipt.result
    (record {
      on = c.chan-chan.ensures;
      rises = c.in_ok-run.ensures.can_rise;
      tagged = c.in_ok-run.ensures.tag;
      last = c.reusing-trace.ensures.last;
      replies = c.reusing-trace.ensures.replies;
      deeds = c.reusing-trace.ensures.deeds;
    })
    (subst (λ hold. op_in c.in_ok-run.run'.tag c.args.op.now (state_of (g.H.Hold.chans hold) c.reusing-trace.result)
    ≡ Kept (state_of (g.H.Hold.chans c.op.new.hold) c.op.new.trace))
    (c.pending-mark.ensures.same ∙ c.begin.ensures.same) kept)
    c.settle.ensures.settled (search rules)

pub returns-in-Ok-Retry-clause-ran : goal.returns-in-Ok-Retry-clause-ran
returns-in-Ok-Retry-clause-ran g c =
    let again : op_in c.in_ok-run.run'.tag c.args.op.now
    (state_of (g.H.Hold.chans c.pending-mark.new.self) c.reusing-trace.result) ≡ Again c.in-Ok-Retry.cause =
    search rules in
    one_again (g.H.Hold.chans c.args.hold.now) (g.H.Hold.chans c.undo_to.new.hold)
    c.args.tag c.in_ok-run.run'.tag c.chan-chan.result c.args.op.now c.reusing-trace.result c.in-Ok-Retry.cause
    (record {
      on = c.chan-chan.ensures;
      rises = c.in_ok-run.ensures.can_rise;
      tagged = c.in_ok-run.ensures.tag;
      last = c.reusing-trace.ensures.last;
      replies = c.reusing-trace.ensures.replies;
      deeds = c.reusing-trace.ensures.deeds;
    })
    (subst (λ hold. op_in c.in_ok-run.run'.tag c.args.op.now (state_of (g.H.Hold.chans hold) c.reusing-trace.result)
    ≡ Again c.in-Ok-Retry.cause) (c.pending-mark.ensures.same ∙ c.begin.ensures.same) again)
    (search rules)

pub returns-in-Err-clause-stopped : goal.returns-in-Err-clause-stopped
returns-in-Err-clause-stopped g c other =
    one_step (g.H.Hold.chans c.args.hold.now) c.args.tag c.in_ok-run.run'.tag c.chan-chan.result c.args.op.now
    c.reusing-trace.result (Aborted c.in-Err.stop)
    (record {
      on = c.chan-chan.ensures;
      rises = c.in_ok-run.ensures.can_rise;
      tagged = c.in_ok-run.ensures.tag;
      last = c.reusing-trace.ensures.last;
      replies = c.reusing-trace.ensures.replies;
      deeds = c.reusing-trace.ensures.deeds;
    })
    (subst (λ hold. op_in c.in_ok-run.run'.tag c.args.op.now (state_of (g.H.Hold.chans hold) c.reusing-trace.result)
    ≡ Aborted c.in-Err.stop) (c.pending-mark.ensures.same ∙ c.begin.ensures.same) (c.in-Err.ensures.err other))
