use Rattle.std.proofs.Common.{rules, ap, ◌∙◌}
use Rattle.std.proofs.lemmas.Result.{IfOk-from_err}
use Rattle.txc_txn.proofs.Following.{is_pending}
use Rattle.txc_txn.proofs.Settling.{settle_kinds, settle_others}
use Rattle.txc_txn.proofs.held.run_held_reusing.Goals as goal

pub returns-in-Kept-clause-kinds : goal.returns-in-Kept-clause-kinds
returns-in-Kept-clause-kinds g c =
    let pending = is_pending (g.H.Hold.chans c.args.hold.now) (g.H.Hold.chans c.run_pending.new.hold) c.args.tag
    c.args.checked.now.declared c.args.checked.now.steps
    _ c.in-Kept.receipt c.in-Kept.is c.in_ok-receipt.ensures.ran in
    rw c.settle_declared.ensures.settled
    (settle_kinds c.in-Kept.receipt.tag (g.H.Hold.chans c.args.hold.now) (g.H.Hold.chans c.run_pending.new.hold)
    c.in-Kept.receipt.tag.stamp c.declared.result.now pending.grows)

pub returns-in_err-receipt-clause-held : goal.returns-in_err-receipt-clause-held
returns-in_err-receipt-clause-held g c = c.run_pending.ensures.held

pub returns-in_err-receipt-clause-ran : goal.returns-in_err-receipt-clause-ran
returns-in_err-receipt-clause-ran g c = IfOk-from_err c.from_residual.result _ c.from_residual.ensures.0

pub returns-in-Kept-clause-held : goal.returns-in-Kept-clause-held
returns-in-Kept-clause-held g c n h = c.settle_declared.ensures.held n (c.run_pending.ensures.held n h)

pub returns-in-Retry-clause-held : goal.returns-in-Retry-clause-held
returns-in-Retry-clause-held g c = c.run_pending.ensures.held

pub returns-in-Kept-clause-ended : goal.returns-in-Kept-clause-ended
returns-in-Kept-clause-ended g c = record {
  others = λ n none. ap (λ f. f n) c.settle_declared.ensures.settled
      ∙ settle_others (g.H.Hold.chans c.run_pending.new.hold) _ c.declared.result.now n (rw c.declared.ensures none)
      ∙ c.run_pending.ensures.ended.others n none;
  worn = search rules;
  stopped = tt;
  unchanged = tt;
}
