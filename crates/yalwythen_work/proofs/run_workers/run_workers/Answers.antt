use Rattle.std.proofs.Common.{rules, ◌≡◌, ◌∙◌, ap, subst, sym, ◌<◌}
use Rattle.std.specs.Prelude.{vec_len}
use Rattle.txc_table.specs.Seat.{SeatView}
use Rattle.txc_table.proofs.Made.{made_at, many_made}
use Rattle.yalwythen_work.proofs.Ending.{all_back}
use Rattle.yalwythen_work.proofs.run_workers.run_workers.Goals as goal

pub work_all-requires-clause-workers : goal.work_all-requires-clause-workers
work_all-requires-clause-workers g c κs within =
    sym (c.in-Ok.made.1.ok.0 ∙ many_made _ _ _ _ c.in-Ok.ensures.ok ∙ search rules)

pub work_all-requires-clause-of : goal.work_all-requires-clause-of
work_all-requires-clause-of g c κs within = λ k s below.
    ap (λ (seat : SeatView). seat.lines)
    (made_at _ _ _ _ c.in-Ok.ensures.ok k s (subst (λ n. k < n) c.in-Ok.made.1.ok.0 below))

pub work_all-requires-clause-fresh : goal.work_all-requires-clause-fresh
work_all-requires-clause-fresh g c κs within = λ k s below.
    ap (λ (seat : SeatView). seat.commits)
    (made_at _ _ _ _ c.in-Ok.ensures.ok k s (subst (λ n. k < n) c.in-Ok.made.1.ok.0 below))

pub returns-in-Ok-work_all-clause-back : goal.returns-in-Ok-work_all-clause-back
returns-in-Ok-work_all-clause-back g c =
    let seats : c.in-Ok.made.0.seats ≡ vec_len c.args.workers = c.in-Ok.ensures.ok.its_seats ∙ search rules in
    all_back c.in-Ok.made.0.lines c.in-Ok.made.0.seats c.in-Ok-work_all.results.left.items
    (sym c.in-Ok-work_all.results.left.ok.0 ∙ c.in-Ok-work_all.ensures.len.0 ∙ sym seats)
    (λ k l below. c.in-Ok-work_all.ensures.numbered k l (subst (λ n. k < n) seats below))
    (λ k l below. c.in-Ok-work_all.ensures.of k l (subst (λ n. k < n) seats below))
