use Rattle.std.proofs.Common.{◌∙◌, refl}
use Rattle.std.proofs.lemmas.Option.{get_or_from_slice_get}
use Rattle.std.proofs.lemmas.Result.{err_from_is_err_and}
use Rattle.txc_table_audit.specs.ReceiptKeys.{no_plan}
use Rattle.yalwythen_work.specs.Plans.{noted}
use Rattle.yalwythen_work.proofs.Asking.{asks, is_there, stalls, stops}
use Rattle.txc_table.specs.declared.tried.Tried.{Tried}
use Rattle.yalwythen_work.proofs.session.Session.transact_numbered.Goals as goal

pub returns-in-Kept-clause-committed : goal.returns-in-Kept-clause-committed
returns-in-Kept-clause-committed g c =
    let table = c.self.inside.table.now in let seat = c.self.inside.seat in let after = c.transact.new.seat in
    let plan = c.in-Some.plan.now in
    let found = rw c.in-Kept.is at c.in_ok-receipt.ensures.outcome.returned in (
      plan,
      is_there table seat c.self.inside.plans c.reserve_prepared.new.self c.args.number plan c.args.self.now
          c.self.view_is c.reserve_prepared.ensures.prepared c.in-Some.ensures.some,
      asks table seat after c.self.inside.plans c.note_prepared.new.self plan.steps plan
          (Tried.Kept c.in-Kept.receipt) c.args.self.now c.self.view_is refl c.show.ensures
          (c.note_prepared.ensures.kept
          ∙ (λ i. noted (c.reserve_prepared.ensures.audited i) (c.reserve_prepared.ensures.kept i)
          (get_or_from_slice_get c.reserve_prepared.new.self.prepared c.args.number plan no_plan c.in-Some.ensures.some
          i)))
          (c.note_prepared.ensures.audited ∙ c.reserve_prepared.ensures.audited)
          (c.note_prepared.ensures.prepared ∙ c.reserve_prepared.ensures.prepared) found
          (rw c.in-Kept.is at c.in_ok-receipt.ensures.outcome.sees),
    )

pub returns-in-Stalled-clause-failed : goal.returns-in-Stalled-clause-failed
returns-in-Stalled-clause-failed g c =
    let table = c.self.inside.table.now in let seat = c.self.inside.seat in let after = c.transact.new.seat in
    let plan = c.in-Some.plan.now in
    let found = rw c.in-Stalled.is at c.in_ok-receipt.ensures.outcome.returned in (
      plan,
      is_there table seat c.self.inside.plans c.reserve_prepared.new.self c.args.number plan c.args.self.now
          c.self.view_is c.reserve_prepared.ensures.prepared c.in-Some.ensures.some,
      stalls table seat after c.self.inside.plans plan.steps plan c.in-Stalled.cause c.args.self.now c.self.view_is refl
          c.show.ensures found,
    )

pub returns-in_err-receipt-clause-failed : goal.returns-in_err-receipt-clause-failed
returns-in_err-receipt-clause-failed g c =
    let p = err_from_is_err_and c.from_residual-in_err-receipt.result c.from_residual-in_err-receipt.ensures.1 in
    let table = c.self.inside.table.now in let seat = c.self.inside.seat in
    let plan = c.in-Some.plan.now in
    rw (p.1, p.2) (λ other. (
      plan,
      is_there table seat c.self.inside.plans c.reserve_prepared.new.self c.args.number plan c.args.self.now
          c.self.view_is c.reserve_prepared.ensures.prepared c.in-Some.ensures.some,
      stops table seat c.self.inside.plans plan.steps plan c.in_err-receipt.field-0.0 c.args.self.now c.self.view_is
          refl c.show.ensures c.in_err-receipt.ensures.outcome.stopped,
    ))
