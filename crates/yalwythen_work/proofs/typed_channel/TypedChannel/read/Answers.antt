use Rattle.std.proofs.Common.{◌≡◌, ◌∙◌, ap, sym, subst, Some, None, List, [], ◌∷◌, slice_get}
use Rattle.txc_base.specs.declared.op.Op.TheVariants.{Read}
use Rattle.txc_txn_check.specs.declared.step.Step.{Step}
use Rattle.txc_txn_check.specs.declared.step.Step.TheVariants.{Do}
use Rattle.yalwythen_work.specs.Committed.{HasCommittedSteps, last_item, replies_in}
use Rattle.yalwythen_work.specs.ReadOutcome.{IsOfRead}
use Rattle.yalwythen_work.proofs.Reading.{ended, got, replied}
use Rattle.yalwythen_work.proofs.typed_channel.TypedChannel.read.Goals as goal

pub returns-in-Some-clause-committed : goal.returns-in-Some-clause-committed
returns-in-Some-clause-committed g c =
    let steps : c.in_ok-steps.steps.items ≡ Do (Read c.args.self.now.chan 0) ∷ [] = c.in_ok-steps.ensures.items
    ∙ ap (λ (s : Step). s ∷ []) c.reading.ensures in
    let committed : HasCommittedSteps c.args.session.now (Do (Read c.args.self.now.chan 0) ∷ []) c.in_ok-number.number
    c.transact.new.self =
    subst (λ (ss : List Step). HasCommittedSteps c.args.session.now ss c.in_ok-number.number c.transact.new.self) steps
    c.in_ok-number.ensures.committed in
    let here : Some c.in-Some.item
    ≡ last_item (replies_in (slice_get c.transact.new.self.seat.receipts c.in_ok-number.number)) =
    c.in-Some.ensures ∙ ap (λ replies. last_item replies) c.replies_of.ensures in (
      c.in_ok-number.number,
      committed,
      subst (λ end. IsOfRead end (replies_in (slice_get c.transact.new.self.seat.receipts c.in_ok-number.number)))
          (sym c.opened.ensures.item)
          (got (replies_in (slice_get c.transact.new.self.seat.receipts c.in_ok-number.number)) c.in-Some.item here
          (replied c.args.session.now c.transact.new.self c.args.self.now.chan c.in_ok-number.number committed)),
    )

pub returns-in-None-clause-committed : goal.returns-in-None-clause-committed
returns-in-None-clause-committed g c =
    let steps : c.in_ok-steps.steps.items ≡ Do (Read c.args.self.now.chan 0) ∷ [] = c.in_ok-steps.ensures.items
    ∙ ap (λ (s : Step). s ∷ []) c.reading.ensures in
    let committed : HasCommittedSteps c.args.session.now (Do (Read c.args.self.now.chan 0) ∷ []) c.in_ok-number.number
    c.transact.new.self =
    subst (λ (ss : List Step). HasCommittedSteps c.args.session.now ss c.in_ok-number.number c.transact.new.self) steps
    c.in_ok-number.ensures.committed in
    let none : None ≡ last_item (replies_in (slice_get c.transact.new.self.seat.receipts c.in_ok-number.number)) =
    c.in-None.ensures ∙ ap (λ replies. last_item replies) c.replies_of.ensures in (
      c.in_ok-number.number,
      committed,
      ended (replies_in (slice_get c.transact.new.self.seat.receipts c.in_ok-number.number)) none
          (replied c.args.session.now c.transact.new.self c.args.self.now.chan c.in_ok-number.number committed),
    )
