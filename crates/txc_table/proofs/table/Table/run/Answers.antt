use Rattle.std.proofs.Common.{◌≡◌, ◌≢◌, ◌∙◌, sym, subst, List, IfOk}
use Rattle.std.specs.Prelude.{IfErr, Result, Ok, Err}
use Rattle.txc_base.specs.declared.stop.Stop.TheVariants.{NoMemory}
use Rattle.txc_base.specs.declared.tag.Tag.{Tag}
use Rattle.txc_txn.specs.declared.ran.Ran.TheVariants.{Kept as RanKept}
use Rattle.txc_txn.specs.Maps.{Map}
use Rattle.txc_txn.specs.Transaction.{Aborted, kept_tag, transaction}
use Rattle.txc_table_line.specs.SeatShare.{SeatShareView}
use Rattle.txc_table_lines.specs.declared.one_operation.AtOnce.{AtOnce}
use Rattle.txc_table_lines.specs.declared.one_operation.AtOnce.TheVariants.{Committed, NotDone}
use Rattle.txc_table_lines.specs.OneOperation.{AreKnown}
use Rattle.txc_table.specs.Attempt.{ran_of}
use Rattle.txc_table.specs.Outcome.{Answers}
use Rattle.txc_table.proofs.table.Table.run.Goals as goal

-- what was not done did not commit
not_committed : (is : AtOnce) → is ≡ NotDone → is ≢ Committed
not_committed is none same = let never = sym none ∙ same in cc

pub returns-in-Committed-2-clause-outcome : goal.returns-in-Committed-2-clause-outcome
returns-in-Committed-2-clause-outcome g c =
    let plan = c.args.call.now.checked.now in
    let left = c.in_ok-commit_at_once.ensures.left (not_committed _ c.in-NotDone.is) in
    subst (λ (shares : List SeatShareView). (m : Map) × AreKnown shares m
    × Answers (kept_tag m c.args.receipt.now.tag plan.declared)
    (transaction m c.args.receipt.now.tag plan.declared plan.steps) (RanKept c.commit_move_at_once.new.receipt)) left.0
    (subst (λ (t : Tag). (m : Map) × AreKnown c.commit_at_once.new.shares m
    × Answers (kept_tag m t plan.declared) (transaction m t plan.declared plan.steps)
    (RanKept c.commit_move_at_once.new.receipt)) left.1
    (c.in_ok-commit_move_at_once.ensures.outcome c.in-Committed-2.is))

pub returns-in-NotDone-2-clause-outcome : goal.returns-in-NotDone-2-clause-outcome
returns-in-NotDone-2-clause-outcome g c =
    let plan = c.args.call.now.checked.now in
    let left = c.in_ok-commit_at_once.ensures.left (not_committed _ c.in-NotDone.is) in
    let again = c.in_ok-commit_move_at_once.ensures.left (not_committed _ c.in-NotDone-2.is) in
    let shares : c.commit_move_at_once.new.shares ≡ c.args.access.now.shares = again.0 ∙ left.0 in
    let tag : c.commit_move_at_once.new.receipt.tag ≡ c.args.receipt.now.tag = again.1 ∙ left.1 in
    subst (λ (shares : List SeatShareView). IfOk c.run_in_place-in-NotDone-2.result (λ ended. (m : Map)
    × AreKnown shares m × Answers (kept_tag m c.args.receipt.now.tag plan.declared)
    (transaction m c.args.receipt.now.tag plan.declared plan.steps)
    (ran_of ended c.run_in_place-in-NotDone-2.new.receipt))) shares
    (subst (λ (t : Tag). IfOk c.run_in_place-in-NotDone-2.result (λ ended. (m : Map)
    × AreKnown c.commit_move_at_once.new.shares m × Answers (kept_tag m t plan.declared)
    (transaction m t plan.declared plan.steps) (ran_of ended c.run_in_place-in-NotDone-2.new.receipt))) tag
    c.run_in_place-in-NotDone-2.ensures.outcome)

-- a fact that needs no result
whatever_ok : {A E : Type 0} {P : Type 0} (result : Result A E) → P → IfOk result (λ _. P)
whatever_ok (Ok value) fact = fact
whatever_ok (Err error) fact = tt

pub returns-in-Some-clause-passed : goal.returns-in-Some-clause-passed
returns-in-Some-clause-passed g c =
    rw c.in-Some.is (whatever_ok c.run_in_place.result c.run_in_place.ensures.passed)

pub returns-in-NotDone-2-clause-stopped : goal.returns-in-NotDone-2-clause-stopped
returns-in-NotDone-2-clause-stopped g c =
    let plan = c.args.call.now.checked.now in
    let left = c.in_ok-commit_at_once.ensures.left (not_committed _ c.in-NotDone.is) in
    let again = c.in_ok-commit_move_at_once.ensures.left (not_committed _ c.in-NotDone-2.is) in
    let shares : c.commit_move_at_once.new.shares ≡ c.args.access.now.shares = again.0 ∙ left.0 in
    let tag : c.commit_move_at_once.new.receipt.tag ≡ c.args.receipt.now.tag = again.1 ∙ left.1 in
    subst (λ (shares : List SeatShareView). IfErr c.run_in_place-in-NotDone-2.result (λ stop. stop ≢ NoMemory
    → (m : Map) × AreKnown shares m
    × (transaction m c.args.receipt.now.tag plan.declared plan.steps ≡ Aborted stop))) shares
    (subst (λ (t : Tag). IfErr c.run_in_place-in-NotDone-2.result (λ stop. stop ≢ NoMemory
    → (m : Map) × AreKnown c.commit_move_at_once.new.shares m
    × (transaction m t plan.declared plan.steps ≡ Aborted stop))) tag
    c.run_in_place-in-NotDone-2.ensures.stopped)
