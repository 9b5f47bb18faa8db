use Rattle.std.proofs.Common.{◌≡◌, ◌∙◌, sym, ap, subst, ◌<◌, List, length, map}
use Rattle.std.proofs.lemmas.List.{length-map}
use Rattle.std.proofs.lemmas.Result.{IfOk-weaker}
use Rattle.txc_txn_check.specs.Limits.{CheckedView}
use Rattle.txc_table.proofs.Left.{are_of, none_missing}
use Rattle.txc_table.proofs.Made.{made_at, many_made}
use Rattle.txc_table.specs.Built.{IsBuilt}
use Rattle.txc_table.specs.Seat.{SeatView}
use Rattle.txc_table.specs.Table.{decls_of}
use Rattle.txc_cmd_threads.specs.Pool.{HaveServed}
use Rattle.txc_cmd_threads.proofs.Back.{back_number}
use Rattle.txc_cmd_threads.proofs.Closed.{plans_fit, ran, ran_script}
use Rattle.txc_cmd_threads.proofs.run.run_gated.Goals as goal

pub work_all-requires-clause-fits : goal.work_all-requires-clause-fits
work_all-requires-clause-fits g c κs within =
    plans_fit _ _ _ _ _ c.in-Ok.ensures.ok.its_kinds c.decls.ensures c.seats-plans.ensures c.show.ensures.fits

pub work_all-requires-clause-seats : goal.work_all-requires-clause-seats
work_all-requires-clause-seats g c κs within = c.in-Ok.made.1.ok.0 ∙ many_made _ _ _ _ c.in-Ok.ensures.ok

pub work_all-requires-clause-of : goal.work_all-requires-clause-of
work_all-requires-clause-of g c κs within = λ k s below.
    ap (λ (seat : SeatView). seat.lines)
    (made_at _ _ _ _ c.in-Ok.ensures.ok k s (subst (λ n. k < n) c.in-Ok.made.1.ok.0 below))

pub work_all-requires-clause-fresh : goal.work_all-requires-clause-fresh
work_all-requires-clause-fresh g c κs within = λ k s below.
    ap (λ (seat : SeatView). seat.commits)
    (made_at _ _ _ _ c.in-Ok.ensures.ok k s (subst (λ n. k < n) c.in-Ok.made.1.ok.0 below))

pub close-requires : goal.close-requires
close-requires g c =
    let results = c.in_ok-results.results in
    let all = c.in_ok-results.ensures.back in
    let built = c.in-Ok.ensures.ok in
    let plans : List (List CheckedView) = map (λ seat. seat.items) c.seats-plans.result.now in
    let many : length plans ≡ length c.seats-plans.result.now =
    length-map c.seats-plans.result.now (λ seat. seat.items) in
    let here : length results.left.items ≡ length plans = sym results.left.ok.0 ∙ all.left ∙ sym many in
    let served : HaveServed (decls_of c.in-Ok.made.0.lines) plans results.left.items results.ends.items =
    λ k d below. (all.each k d (subst (λ n. k < n) many below)).serves in
    let number = back_number (decls_of c.in-Ok.made.0.lines) plans results.left.items results.ends.items served in
    let seats : c.in-Ok.made.0.seats ≡ length plans = built.its_seats ∙ sym many in
    record {
      back = record {
        of = are_of c.in-Ok.made.0.lines results.left.items
            (λ k l below. (all.each k l (subst (λ n. k < n) (here ∙ many) below)).of);
        all = none_missing c.in-Ok.made.0.seats results.left.items (here ∙ sym seats)
            (λ k l below. number k l (subst (λ n. k < n) seats below));
      };
      left = all.left;
      ended = all.ends;
      fits = plans_fit _ _ _ _ _ built.its_kinds c.decls.ensures c.seats-plans.ensures c.show.ensures.fits;
      served = served;
    }

pub returns-clause-ok : goal.returns-clause-ok
returns-clause-ok g c =
    let built = c.in-Ok.ensures.ok in
    let plans : List (List CheckedView) = map (λ seat. seat.items) c.seats-plans.result.now in
    let many : length plans ≡ length c.seats-plans.result.now =
    length-map c.seats-plans.result.now (λ seat. seat.items) in
    IfOk-weaker c.close.result _ _ (λ outcome closed. ran_script _ _ _ _ outcome c.decls.ensures c.seats-plans.ensures
    (ran c.in-Ok.made.0 c.decls.result.now c.in-Ok.made.1.items plans outcome
    (subst (λ n. IsBuilt c.decls.result.now n c.in-Ok.made.0 c.in-Ok.made.1.items) (sym many) built) closed))
    c.close.ensures.ok
