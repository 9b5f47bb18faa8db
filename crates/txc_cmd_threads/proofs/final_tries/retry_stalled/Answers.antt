use Rattle.std.proofs.Common.{◌≡◌, ◌∙◌, ◌<◌, List, [], All, ap, arith, length, map, slice_get, slice_index_or}
use Rattle.std.proofs.Common.{refl, subst, sym}
use Rattle.std.proofs.lemmas.List.{get_or-map, length-map}
use Rattle.txc_txn_check.specs.Limits.{CheckedView}
use Rattle.txc_txn_check.specs.Steps.{Fits}
use Rattle.txc_table.specs.Table.{TableView, decls_of}
use Rattle.txc_cmd_report.specs.declared.seat_end.SeatEnd.{SeatEnd}
use Rattle.txc_cmd_report.specs.declared.seat_end.SeatEnd.TheVariants.{Finished, Stalled}
use Rattle.txc_table_seat.specs.Seated.{no_commits}
use Rattle.txc_table.specs.Seat.{DepartedSeatView}
use Rattle.txc_cmd_threads.specs.Pool.{HaveRun, HaveServed}
use Rattle.txc_cmd_threads.specs.Serves.{Serves}
use Rattle.txc_cmd_threads.specs.Stuck.{IsStuck}
use Rattle.txc_cmd_threads.proofs.FinalTries.{back_others, items_at, stalled_for}
use Rattle.txc_cmd_threads.proofs.final_tries.retry_stalled.Goals as goal

pub find_ready-requires-clause-served : goal.find_ready-requires-clause-served
find_ready-requires-clause-served g c =
    let seats : List (List CheckedView) = map (λ seat. seat.items) c.args.plans.now in
    subst (λ (t : TableView). HaveRun t seats c.loop.idle.left c.loop.ends.items) (sym c.loop.invariant.2)
    (record { fits = c.requires.served.fits; back = c.loop.invariant.5 })

pub returns-in_default-clause-stuck : goal.returns-in_default-clause-stuck
returns-in_default-clause-stuck g c n d below =
    subst (λ (ls : List DepartedSeatView). IsStuck c.find_ready.new.idle.helds
    (slice_index_or (map (λ seat. seat.items) c.args.plans.now) n []) (slice_index_or ls n d).commits
    (slice_index_or c.find_ready.new.ends.items n Finished)) (sym c.find_ready.ensures.same.1)
    (c.in_default.ensures.stuck refl n d below)

pub resume-after-requires-clause-fits : goal.resume-after-requires-clause-fits
resume-after-requires-clause-fits g c =
    let seats : List (List CheckedView) = map (λ seat. seat.items) c.args.plans.now in
    let within : c.in-Some-find_ready.at < length c.args.plans.now = c.in-Some-find_ready.ensures.ready.0 in
    let below : c.in-Some-find_ready.at < length seats =
    omega (arith, within, length-map c.args.plans.now (λ seat. seat.items)) in
    subst (All (λ (plan : CheckedView). Fits (slice_get c.find_ready.new.idle.table.kinds) plan.steps))
    (sym c.as_slice.ensures.value)
    (subst (λ (t : TableView). All (λ (plan : CheckedView). Fits (slice_get t.kinds) plan.steps)
    c.index-plans-at.result.items) (sym (c.find_ready.ensures.same.0 ∙ c.loop.invariant.2))
    (items_at (All (λ (plan : CheckedView). Fits (slice_get c.args.worked.idle.table.kinds) plan.steps))
    (λ seat. seat.items) c.args.plans.now c.in-Some-find_ready.at [] c.index-plans-at.result within
    c.index-plans-at.is (c.requires.served.fits c.in-Some-find_ready.at [] below)))

pub resume-after-requires-clause-stalled : goal.resume-after-requires-clause-stalled
resume-after-requires-clause-stalled g c =
    let at = c.in-Some-find_ready.at in
    let seats : List (List CheckedView) = map (λ seat. seat.items) c.args.plans.now in
    let within : at < length c.args.plans.now = c.in-Some-find_ready.ensures.ready.0 in
    let below : at < length seats = omega (arith, within, length-map c.args.plans.now (λ seat. seat.items)) in
    let own : c.as_slice.result.now ≡ slice_index_or seats at [] =
    c.as_slice.ensures.value
    ∙ sym (get_or-map (λ seat. seat.items) c.args.plans.now at c.index-plans-at.result [] within
    ∙ ap (λ seat. seat.items) (sym c.index-plans-at.is)) in
    let end : SeatEnd = slice_index_or c.find_ready.new.ends.items at Finished in
    let why = stalled_for end c.in-Some-find_ready.ensures.ready.1 in (
      why.0,
      λ d. subst (λ (ps : List CheckedView). Serves (decls_of c.find_ready.new.idle.table.lines) ps (no_commits at)
          (slice_index_or c.find_ready.new.idle.left at d).commits (Stalled why.0)) (sym own)
          (subst (Serves (decls_of c.find_ready.new.idle.table.lines) (slice_index_or seats at []) (no_commits at)
          (slice_index_or c.find_ready.new.idle.left at d).commits) why.1
          (subst (λ (ls : List DepartedSeatView). Serves (decls_of c.find_ready.new.idle.table.lines)
          (slice_index_or seats at [])
          (no_commits at) (slice_index_or ls at d).commits end) (sym c.find_ready.ensures.same.1)
          (subst (λ (t : TableView). Serves (decls_of t.lines) (slice_index_or seats at [])
          (no_commits at) (slice_index_or c.loop.idle.left at d).commits end) (sym c.find_ready.ensures.same.0)
          (c.find_ready.ensures.back at d below)))),
    )

pub loop-preserved : goal.loop-preserved
loop-preserved g c =
    let at = c.in-Some-find_ready.at in
    let seats : List (List CheckedView) = map (λ seat. seat.items) c.args.plans.now in
    let within : at < length c.args.plans.now = c.in-Some-find_ready.ensures.ready.0 in
    let own : c.as_slice.result.now ≡ slice_index_or seats at [] =
    c.as_slice.ensures.value
    ∙ sym (get_or-map (λ seat. seat.items) c.args.plans.now at c.index-plans-at.result [] within
    ∙ ap (λ seat. seat.items) (sym c.index-plans-at.is)) in
    let there : at < length c.find_ready.new.ends.items =
    omega (arith, within, c.find_ready.new.ends.ok.0, c.find_ready.ensures.ended) in
    let table : c.find_ready.new.idle.table ≡ c.args.worked.idle.table =
    c.find_ready.ensures.same.0 ∙ c.loop.invariant.2 in
    let back : HaveServed
    (decls_of c.args.worked.idle.table.lines) seats c.find_ready.new.idle.left c.find_ready.new.ends.items =
    subst (λ (ls : List DepartedSeatView). HaveServed
    (decls_of c.args.worked.idle.table.lines) seats ls c.find_ready.new.ends.items)
    (sym c.find_ready.ensures.same.1)
    (subst (λ (t : TableView). HaveServed
    (decls_of t.lines) seats c.loop.idle.left c.find_ready.new.ends.items) c.loop.invariant.2
    c.find_ready.ensures.back) in (
      tt,
      tt,
      c.resume-after.ensures.table ∙ table,
      c.resume-after.ensures.others.many
          ∙ (ap (λ (ls : List DepartedSeatView). length ls) c.find_ready.ensures.same.1 ∙ c.loop.invariant.3),
      c.find_ready.ensures.ended,
      back_others (decls_of c.args.worked.idle.table.lines) seats c.find_ready.new.idle.left
          c.resume-after.result.0.left c.find_ready.new.ends.items at c.resume-after.result.1 there
          c.resume-after.ensures.others
          (λ d. subst (λ (ps : List CheckedView). Serves (decls_of c.args.worked.idle.table.lines) ps (no_commits at)
          (slice_index_or c.resume-after.result.0.left at d).commits c.resume-after.result.1) own
          (subst (λ (t : TableView). Serves (decls_of t.lines) c.as_slice.result.now (no_commits at)
          (slice_index_or c.resume-after.result.0.left at d).commits c.resume-after.result.1) table
          (c.resume-after.ensures.serves d))) back,
    )
