use Rattle.std.proofs.Common.{◌≡◌, ◌∙◌, ◌<◌, length, refl, rules, slice_get, slice_index_or}
use Rattle.std.proofs.Common.{subst, sym, zero-add}
use Rattle.txc_txn_check.specs.Limits.{CheckedView}
use Rattle.txc_txn_check.specs.Steps.{Fits}
use Rattle.txc_cmd_report.specs.declared.seat_end.SeatEnd.TheVariants.{Stalled}
use Rattle.txc_table_seat.specs.Seated.{SeatCommits, no_commits}
use Rattle.txc_txn.specs.Plain.{chan_in}
use Rattle.txc_table.specs.Table.{decls_of}
use Rattle.txc_table.proofs.Left.{nobody}
use Rattle.txc_cmd_threads.proofs.FinalTries.{stuck_at}
use Rattle.txc_cmd_threads.proofs.Serving.{ends_here, next_there, serves_then}
use Rattle.txc_cmd_threads.proofs.final_tries.retry_cause.Goals as goal

pub bounds-plans-next : goal.bounds-plans-next
bounds-plans-next g c =
    let seat : SeatCommits = (slice_index_or c.args.idle.now.left c.args.at nobody).commits in
    next_there (decls_of c.args.idle.now.table.lines) c.args.plans.now (no_commits c.args.at) seat c.requires.stalled.0
    (c.requires.stalled.1 nobody) c.count-next.result
    (sym (c.count-next.ensures nobody) ∙ sym (zero-add c.count-next.result))

pub offset_bounds-plans-next : goal.offset_bounds-plans-next
offset_bounds-plans-next g c =
    let seat : SeatCommits = (slice_index_or c.args.idle.now.left c.args.at nobody).commits in
    let below : c.count-next.result < length c.args.plans.now =
    next_there (decls_of c.args.idle.now.table.lines) c.args.plans.now (no_commits c.args.at) seat c.requires.stalled.0
    (c.requires.stalled.1 nobody) c.count-next.result
    (sym (c.count-next.ensures nobody) ∙ sym (zero-add c.count-next.result)) in
    search rules

pub cause_to_retry-requires : goal.cause_to_retry-requires
cause_to_retry-requires g c =
    let seat : SeatCommits = (slice_index_or c.args.idle.now.left c.args.at nobody).commits in
    let below : c.count-next.result < length c.args.plans.now =
    next_there (decls_of c.args.idle.now.table.lines) c.args.plans.now (no_commits c.args.at) seat c.requires.stalled.0
    (c.requires.stalled.1 nobody) c.count-next.result
    (sym (c.count-next.ensures nobody) ∙ sym (zero-add c.count-next.result)) in
    let fits = subst (λ (p : CheckedView). Fits (slice_get c.args.idle.now.table.kinds) p.steps)
    (sym c.index-plans-next.is) (c.requires.fits c.count-next.result c.index-plans-next.result below) in
    record { there = c.requires.there; fits = fits }

pub returns-in-Ok-Some-clause-serves : goal.returns-in-Ok-Some-clause-serves
returns-in-Ok-Some-clause-serves g c d =
    let lines = (decls_of c.args.idle.now.table.lines) in
    let seat : SeatCommits = (slice_index_or c.args.idle.now.left c.args.at d).commits in
    let why = c.requires.stalled.0 in
    let before = c.requires.stalled.1 d in
    let many : length seat.receipts ≡ c.count-next.result = sym (c.count-next.ensures d) in
    let below : c.count-next.result < length c.args.plans.now =
    next_there lines c.args.plans.now (no_commits c.args.at) seat why before c.count-next.result
    (many ∙ sym (zero-add c.count-next.result)) in
    let lawful = rw c.in-Ok-Some.field-0-is at c.in-Ok-Some.ensures.lawful in
    let again = rw c.in-Ok-Some.field-0-is at c.in-Ok-Some.ensures.again in
    serves_then lines c.args.plans.now (no_commits c.args.at) seat seat why
    (Stalled c.in-Ok-Some.cause) before c.count-next.result (many ∙ sym (zero-add c.count-next.result))
    (ends_here lines c.args.plans.now c.count-next.result c.index-plans-next.result seat seat
    (Stalled c.in-Ok-Some.cause) below c.index-plans-next.is refl
    (chan_in c.args.idle.now.helds, lawful d, again d))

pub returns-in-Ok-Some-clause-stuck : goal.returns-in-Ok-Some-clause-stuck
returns-in-Ok-Some-clause-stuck g c d =
    let lines = (decls_of c.args.idle.now.table.lines) in
    let seat : SeatCommits = (slice_index_or c.args.idle.now.left c.args.at d).commits in
    let many : length seat.receipts ≡ c.count-next.result = sym (c.count-next.ensures d) in
    let below : c.count-next.result < length c.args.plans.now =
    next_there lines c.args.plans.now (no_commits c.args.at) seat c.requires.stalled.0 (c.requires.stalled.1 d)
    c.count-next.result (many ∙ sym (zero-add c.count-next.result)) in
    let again = rw c.in-Ok-Some.field-0-is at c.in-Ok-Some.ensures.again in
    let same = c.cause_to_retry.ensures.same in
    stuck_at c.args.idle.now.helds c.cause_to_retry.new.self.helds c.args.plans.now seat c.index-plans-next.result
    c.in-Ok-Some.cause c.count-next.result many below c.index-plans-next.is same (again d)
