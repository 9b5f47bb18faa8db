use Rattle.std.proofs.Common.{All, rules, subst, ◌≡◌, ◌∙◌, ◌<◌, ◌≤◌, ◌+◌, sym, ap, ℕ, List, length}
use Rattle.txc_base.specs.declared.limits.TheConstants.{GREATEST_NUMBER}
use Rattle.txc_base.specs.declared.tag.Tag.{Tag}
use Rattle.txc_txn_check.specs.declared.step.Step.{Step}
use Rattle.txc_txn.specs.declared.deed.Deed.{Deed}
use Rattle.txc_txn.specs.declared.receipt.Receipt.{Receipt}
use Rattle.txc_txn.specs.declared.ran.Ran.TheVariants.{Kept as RanKept}
use Rattle.txc_txn.specs.Run.{count_deeds}
use Rattle.txc_txn.specs.Transaction.{kept_tag, transaction}
use Rattle.txc_table_seat.specs.Seated.{SeatCommits, StampsRise, count, next_tag, with_receipt}
use Rattle.txc_table.specs.Attempt.{IsKeptWith, ran_of}
use Rattle.txc_table.specs.Seat.{SeatView, IsSeated, SeesMore, log_at, seen_at, seen_in}
use Rattle.txc_table.specs.Outcome.{Answers}
use Rattle.txc_table.proofs.Standing.{acts_inside, few_more, same_many, seated_more}
use Rattle.txc_table.proofs.Trying.{answers_kept, answers_retry, found_by}
use Rattle.txc_table.proofs.Views.{sees_by}
use Rattle.txc_table.proofs.table.Table.attempt_with.Goals as goal

pub returns-in-Err-clause-outcome : goal.returns-in-Err-clause-outcome
returns-in-Err-clause-outcome g c =
    let declared : List ℕ = c.args.checked.now.declared in
    let steps : List Step = c.args.checked.now.steps in
    let tag_is : c.in_ok-receipt.field-0 ≡ next_tag c.args.seat.now.commits =
    c.in_ok-receipt.ensures.tag ∙ ap next_tag (ap (λ (s : SeatView). s.commits) c.seat.view_is) in
    record {
      returned = tt;
      sees = tt;
      stopped = λ ne.
          (let found = c.in-Err.ensures.stopped ne in (
            found.0,
            found_by c.seat.inside.access.shares c.seat.inside.history.commits c.args.seat.now c.args.self.now.lines found.0
                c.seat.view_is c.requires.of c.seat.invariant found.1,
            ap (λ (t : Tag). transaction found.0 t declared steps) (sym tag_is) ∙ found.2,
          ));
      unchanged = search rules;
    }

pub keep-number-requires-clause-inside : goal.keep-number-requires-clause-inside
keep-number-requires-clause-inside g c =
    let r : Receipt = c.run.new.receipt in
    let kept : IsKeptWith c.in_ok-receipt.field-0 c.args.checked.now c.seat.inside.access.shares c.run.new.access.shares r =
    rw c.in-Ok-None.field-0-is at c.in-Ok-None.ensures.kept in
    let channels : length c.run.new.access.shares ≡ c.reserve.new.self.channels =
    same_many c.seat.inside.access.shares c.run.new.access.shares c.run.ensures.lines
    ∙ sym (c.reserve.ensures.channels ∙ c.seat.invariant.each) in
    subst (λ n. All (λ (deed : Deed). deed.chan < n) r.acts) channels (acts_inside c.run.new.access.shares r kept.stand)

pub keep-number-requires-clause-few : goal.keep-number-requires-clause-few
keep-number-requires-clause-few g c =
    let rs : List Receipt = c.seat.inside.history.commits.receipts in
    let r : Receipt = c.run.new.receipt in
    let kept : IsKeptWith c.in_ok-receipt.field-0 c.args.checked.now c.seat.inside.access.shares c.run.new.access.shares r =
    rw c.in-Ok-None.field-0-is at c.in-Ok-None.ensures.kept in
    subst (λ (s : SeatCommits). (n : ℕ) → n < c.reserve.new.self.channels → count n s.receipts + count_deeds n r.acts
    ≤ GREATEST_NUMBER)
    (sym c.reserve.ensures.same)
    (λ n below. few_more c.in_ok-receipt.field-0 c.args.checked.now c.seat.inside.access.shares c.run.new.access.shares rs r
    c.seat.invariant.counted kept c.show.ensures n)

pub invariant_of-seat-2 : goal.invariant_of-seat-2
invariant_of-seat-2 g c =
    let r : Receipt = c.run.new.receipt in
    let kept : IsKeptWith c.in_ok-receipt.field-0 c.args.checked.now c.seat.inside.access.shares c.run.new.access.shares r =
    rw c.in-Ok-None.field-0-is at c.in-Ok-None.ensures.kept in
    let commits : c.reserve.new.self.commits ≡ c.seat.inside.history.commits =
    c.reserve.ensures.same in
    let channels : c.keep-number.new.self.channels ≡ c.seat.inside.history.channels =
    c.keep-number.ensures.channels ∙ c.reserve.ensures.channels in
    subst (λ n. IsSeated c.run.new.access.shares c.keep-number.new.self.commits n c.seat.inside.table_share.parts)
    (sym channels)
    (seated_more c.in_ok-receipt.field-0 c.args.checked.now c.seat.inside.access.shares c.run.new.access.shares
    c.seat.inside.history.commits c.keep-number.new.self.commits r c.seat.invariant kept c.run.ensures.lines
    c.in_ok-receipt.ensures.tag
    (subst (λ (s : SeatCommits). length s.plans ≡ length s.receipts) commits c.show-2.ensures.even)
    (subst (λ (s : SeatCommits). StampsRise 0 s.stamp s.receipts) commits c.show-2.ensures.stamped)
    (c.keep-number.ensures.kept ∙ ap (λ (s : SeatCommits). with_receipt s c.args.checked.now r) commits))

pub returns-in-Ok-Some-clause-outcome : goal.returns-in-Ok-Some-clause-outcome
returns-in-Ok-Some-clause-outcome g c =
    let declared : List ℕ = c.args.checked.now.declared in
    let steps : List Step = c.args.checked.now.steps in
    let commits : c.reserve.new.self.commits ≡ c.args.seat.now.commits =
    c.reserve.ensures.same ∙ ap (λ (s : SeatView). s.commits) c.seat.view_is in
    let tag_is : c.in_ok-receipt.field-0 ≡ next_tag c.args.seat.now.commits =
    c.in_ok-receipt.ensures.tag ∙ ap next_tag (ap (λ (s : SeatView). s.commits) c.seat.view_is) in
    let found = c.in-Ok-Some.ensures.outcome in
    let again = answers_retry (kept_tag found.0 c.in_ok-receipt.field-0 declared)
    (transaction found.0 c.in_ok-receipt.field-0 declared steps) (ran_of c.in-Ok-Some.field-0 c.run.new.receipt)
    c.in-Ok-Some.cause (ap (λ e. ran_of e c.run.new.receipt) c.in-Ok-Some.field-0-is) found.2 in
    record {
      returned = (
        found.0,
        found_by c.seat.inside.access.shares c.seat.inside.history.commits c.args.seat.now c.args.self.now.lines found.0
            c.seat.view_is c.requires.of c.seat.invariant found.1,
        (commits, ap (λ (t : Tag). transaction found.0 t declared steps) (sym tag_is) ∙ again),
      );
      sees = search rules;
      stopped = tt;
      unchanged = tt;
    }

pub returns-clause-outcome : goal.returns-clause-outcome
returns-clause-outcome g c =
    let declared : List ℕ = c.args.checked.now.declared in
    let steps : List Step = c.args.checked.now.steps in
    let r : Receipt = c.run.new.receipt in
    let commits : c.reserve.new.self.commits ≡ c.args.seat.now.commits =
    c.reserve.ensures.same ∙ ap (λ (s : SeatView). s.commits) c.seat.view_is in
    let tag_is : c.in_ok-receipt.field-0 ≡ next_tag c.args.seat.now.commits =
    c.in_ok-receipt.ensures.tag ∙ ap next_tag (ap (λ (s : SeatView). s.commits) c.seat.view_is) in
    let found = c.in-Ok-None.ensures.outcome in
    let answers = answers_kept (kept_tag found.0 c.in_ok-receipt.field-0 declared)
    (transaction found.0 c.in_ok-receipt.field-0 declared steps) (ran_of c.in-Ok-None.field-0 r) r
    (ap (λ e. ran_of e r) c.in-Ok-None.field-0-is) found.2 in
    let kept : IsKeptWith c.in_ok-receipt.field-0 c.args.checked.now c.seat.inside.access.shares c.run.new.access.shares r =
    rw c.in-Ok-None.field-0-is at c.in-Ok-None.ensures.kept in
    record {
      returned = (
        found.0,
        found_by c.seat.inside.access.shares c.seat.inside.history.commits c.args.seat.now c.args.self.now.lines found.0
            c.seat.view_is c.requires.of c.seat.invariant found.1,
        (
          r,
          c.keep-number.ensures.number ∙ ap (λ (s : SeatCommits). length s.receipts) commits,
          c.keep-number.ensures.kept ∙ ap (λ (s : SeatCommits). with_receipt s c.args.checked.now r) commits,
          subst (λ (t : Tag). Answers (kept_tag found.0 t declared) (transaction found.0 t declared steps) (RanKept r))
              tag_is answers,
        ),
      );
      sees = subst (λ (s : SeatView). SeesMore (seen_at s) (log_at (seen_in c.run.new.access.shares))) c.seat.view_is
          (sees_by c.seat.inside.access.shares c.run.new.access.shares kept.grew);
      stopped = tt;
      unchanged = tt;
    }
