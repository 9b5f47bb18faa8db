use Rattle.std.proofs.Common.{rules, ◌≡◌, ◌≢◌, ◌∙◌, ◌<◌, sym, ap, subst, ℕ, length, List, Contains}
use Rattle.std.specs.Prelude.{IfErr}
use Rattle.txc_base.specs.declared.stop.Stop.TheVariants.{NoMemory}
use Rattle.txc_txn.specs.Growth.{IsMarked, SameOutside}
use Rattle.txc_txn.specs.Maps.{Map}
use Rattle.txc_txn.specs.Plain.{chan_in}
use Rattle.txc_txn.specs.Transaction.{Aborted, Kept, State, transaction}
use Rattle.txc_txn.proofs.Following.{is_pending}
use Rattle.txc_txn.proofs.Restoring.{marked}
use Rattle.txc_table_line.specs.LineChan.{LineChanView}
use Rattle.txc_table_lines.specs.Locked.{helds_of}
use Rattle.txc_table_lines.proofs.Retrying.{clean_still, retry_same, would_keep}
use Rattle.txc_table_lines.proofs.locked_lines.LockedLines.cause_to_retry.Goals as goal

pub mark_all-requires-clause-held : goal.mark_all-requires-clause-held
mark_all-requires-clause-held g c n declared =
    c.requires.there n (subst (λ (ds : List ℕ). Contains ds n) c.declared.ensures declared)

pub run_pending-requires-clause-held : goal.run_pending-requires-clause-held
run_pending-requires-clause-held g c n declared =
    subst (λ (lines : List LineChanView). n < length lines) (sym c.mark_all.ensures.same) (c.requires.there n declared)

pub undo_all-requires-clause-held : goal.undo_all-requires-clause-held
undo_all-requires-clause-held g c n declared =
    c.in_ok-receipt.ensures.held n
    (subst (λ (lines : List LineChanView). n < length lines) (sym c.mark_all.ensures.same)
    (c.requires.there n (subst (λ (ds : List ℕ). Contains ds n) c.declared-in-Kept.ensures declared)))

pub returns-in_err-receipt-clause-stopped : goal.returns-in_err-receipt-clause-stopped
returns-in_err-receipt-clause-stopped g c =
    subst (λ (lines : List LineChanView). IfErr c.from_residual.result (λ stop. stop ≢ NoMemory
    → transaction (chan_in (helds_of lines)) c.args.tag c.args.checked.now.declared c.args.checked.now.steps
    ≡ Aborted stop)) c.mark_all.ensures.same (search rules)

pub returns-in_err-receipt-clause-clean : goal.returns-in_err-receipt-clause-clean
returns-in_err-receipt-clause-clean g c =
    clean_still (helds_of c.args.self.now) (helds_of c.run_pending.new.hold) c.requires.clean
    (c.in_err-receipt.ensures.ended.unchanged
    ∙ ap (λ (lines : List LineChanView). chan_in (helds_of lines)) c.mark_all.ensures.same)

-- a run that commits is undone
pub returns-in-Kept-clause-same : goal.returns-in-Kept-clause-same
returns-in-Kept-clause-same g c =
    let plan = c.args.checked.now in
    let declared : List ℕ = c.declared.result.now in
    let before : Map = chan_in (helds_of c.args.self.now) in
    let found : Map = chan_in (helds_of c.mark_all.new.hold) in
    let after : Map = chan_in (helds_of c.run_pending.new.hold) in
    let same : found ≡ before =
    ap (λ (lines : List LineChanView). chan_in (helds_of lines)) c.mark_all.ensures.same in
    let pending = is_pending found after c.args.tag plan.declared plan.steps _ c.in-Kept.receipt c.in-Kept.is
    c.in_ok-receipt.ensures.ran in
    let are : IsMarked c.in-Kept.receipt.tag declared c.as_slice.result.now before after =
    marked c.in-Kept.receipt.tag declared c.as_slice.result.now before found after same
    (c.as_slice.ensures.value ∙ c.mark_all.ensures.marks) c.mark_all.ensures.lawful
    (subst (λ (ds : List ℕ). SameOutside ds found after) (sym c.declared.ensures)
    c.in_ok-receipt.ensures.ended.others) pending.grows in
    c.undo_all.ensures.back c.in-Kept.receipt.tag before
    (subst (λ (ds : List ℕ). IsMarked c.in-Kept.receipt.tag ds c.as_slice.result.now before after)
    (c.declared.ensures ∙ sym c.declared-in-Kept.ensures) are)

pub returns-in-Kept-clause-clean : goal.returns-in-Kept-clause-clean
returns-in-Kept-clause-clean g c =
    clean_still (helds_of c.args.self.now) (helds_of c.undo_all.new.hold) c.requires.clean
    (returns-in-Kept-clause-same g c)

pub returns-in-Kept-clause-kept : goal.returns-in-Kept-clause-kept
returns-in-Kept-clause-kept g c =
    subst (λ (lines : List LineChanView). (state : State) × (transaction (chan_in (helds_of lines)) c.args.tag
    c.args.checked.now.declared c.args.checked.now.steps ≡ Kept state)) c.mark_all.ensures.same
    (would_keep _ _ _ c.in-Kept.receipt _ _ c.in-Kept.is c.in_ok-receipt.ensures.ran)

pub returns-in-Retry-clause-same : goal.returns-in-Retry-clause-same
returns-in-Retry-clause-same g c =
    retry_same _ _ _ c.in-Retry.cause _ _ c.in-Retry.is c.in_ok-receipt.ensures.ran
    ∙ ap (λ (lines : List LineChanView). chan_in (helds_of lines)) c.mark_all.ensures.same

pub returns-in-Retry-clause-clean : goal.returns-in-Retry-clause-clean
returns-in-Retry-clause-clean g c =
    clean_still (helds_of c.args.self.now) (helds_of c.run_pending.new.hold) c.requires.clean
    (returns-in-Retry-clause-same g c)
