use Rattle.std.proofs.Common.{◌≡◌, ◌∙◌, ap, subst, sym}
use Rattle.txc_table_seat.specs.Seated.{SeatCommits}
use Rattle.yalwythen_work.specs.SeatWithPlans.{IsAfterSession, SeatWithPlansView}
use Rattle.yalwythen_work.proofs.job.serve.Goals as goal

pub returns-clause-left : goal.returns-clause-left
returns-clause-left g c =
    let back : IsAfterSession (record { seat = c.args.seat; plans = c.new-plans.result })
    (record { seat = c.seat.inside.seat; plans = c.seat.inside.plans }) =
    subst (λ (p : SeatWithPlansView). IsAfterSession (record { seat = c.args.seat; plans = c.new-plans.result }) p)
    (sym c.seat.view_is)
    (subst (λ (p : SeatWithPlansView). IsAfterSession p c.into_inner.result) c.in-Ok.ensures c.into_inner.ensures) in
    record {
      number = ap (λ (s : SeatCommits). s.number) c.leave-2.ensures.commits ∙ back.number;
      lines = c.leave-2.ensures.lines ∙ back.lines;
      noted = λ is.
          back.noted (back.audited ∙ c.new-plans.ensures.audited ∙ is)
          ∙ ap (λ (s : SeatCommits). s.plans) (sym c.leave-2.ensures.commits);
    }

pub new-session-requires-clause-its : goal.new-session-requires-clause-its
new-session-requires-clause-its g c =
    let same : c.claim.result ≡ record { seat = c.args.seat; plans = c.new-plans.result } =
    c.claim.ensures ∙ c.in-Ok.ensures in
    record {
      number = sym (ap (λ (p : SeatWithPlansView). p.seat.commits.number) same);
      lines = sym (ap (λ (p : SeatWithPlansView). p.seat.lines) same);
      audited = sym (ap (λ (p : SeatWithPlansView). p.plans.audited) same);
      noted = λ is. c.new-plans.ensures.kept ∙ sym (ap (λ (s : SeatCommits). s.plans) c.requires.fresh);
    }
