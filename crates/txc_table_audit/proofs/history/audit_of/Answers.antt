use Rattle.std.proofs.Common.{sym, ◌∙◌, ap, subst, length, map, slice_get, List, All, arith}
use Rattle.std.proofs.lemmas.List.{length-map}
use Rattle.std.proofs.lemmas.Result.{err_from_is_err_and}
use Rattle.txc_base.specs.declared.kind.Kind.{Kind}
use Rattle.txc_txn_check.specs.Steps.{Fits}
use Rattle.txc_txn.specs.Plain.{chan_in}
use Rattle.txc_table_audit.specs.declared.condition.Condition.TheVariants.{FewChannels, ChannelsCanBeMade}
use Rattle.txc_table_audit.specs.declared.condition.Condition.TheVariants.{AccountForEach}
use Rattle.txc_table_audit.specs.declared.condition.Condition.TheVariants.{FewSeats, ReceiptsForEach, TransactionsFit}
use Rattle.txc_table_audit.specs.ReceiptKeys.{event_at}
use Rattle.txc_table_audit.proofs.Ending.{accepted, permuted, refused, sorted_order}
use Rattle.txc_table_audit.proofs.Opening.{opening_is}
use Rattle.txc_table_audit.proofs.Serial.{never_refused, own_order}
use Rattle.txc_table_audit.proofs.Sorting.{rank}
use Rattle.txc_table_audit.proofs.Turning.{all_places}
use Rattle.txc_table_audit.proofs.history.audit_of.Goals as goal

pub find_out_of_order-requires : goal.find_out_of_order-requires
find_out_of_order-requires g c =
    omega (arith, c.requires FewSeats, (c.requires ReceiptsForEach).each, ap length c.as_slice-receipts.ensures)

pub sort_keys-requires : goal.sort_keys-requires
sort_keys-requires g c = omega (
  arith,
  c.requires FewSeats,
  (c.requires ReceiptsForEach).each,
  ap length c.as_slice-receipts.ensures,
)

pub build-requires-clause-few : goal.build-requires-clause-few
build-requires-clause-few g c = c.requires FewChannels

pub build-requires-clause-made : goal.build-requires-clause-made
build-requires-clause-made g c = c.requires ChannelsCanBeMade

pub compare-requires-clause-few : goal.compare-requires-clause-few
compare-requires-clause-few g c = omega (arith, c.requires FewChannels, c.requires AccountForEach)

pub compare-requires-clause-there : goal.compare-requires-clause-there
compare-requires-clause-there g c =
    omega (
      arith,
      c.requires AccountForEach,
      ap length c.in_ok-rerun.ensures.kinds,
      length-map c.args.decls.now (λ decl. decl.kind),
    )

pub compare-requires-clause-fits : goal.compare-requires-clause-fits
compare-requires-clause-fits g c =
    subst (λ (kinds : List Kind). All (All (λ plan. Fits (slice_get kinds) plan.steps))
    (g.T.Transactions.plans c.args.transactions.now)) (sym c.in_ok-rerun.ensures.kinds)
    (c.requires TransactionsFit)

pub compare-requires-clause-begun : goal.compare-requires-clause-begun
compare-requires-clause-begun g c = c.requires ReceiptsForEach

pub compare-requires-clause-keys : goal.compare-requires-clause-keys
compare-requires-clause-keys g c =
    all_places c.args.report.now.receipts c.as_slice.result.now
    (permuted c.args.report.now.receipts c.as_slice-receipts.result.now c.in_ok-keys.keys.items c.as_slice.result.now
    c.as_slice-receipts.ensures c.as_slice.ensures.value
    c.in_ok-keys.ensures.same)

pub returns-in_err-compare-clause-err : goal.returns-in_err-compare-clause-err
returns-in_err-compare-clause-err g c =
    let p = err_from_is_err_and c.from_residual-in_err-compare.result c.from_residual-in_err-compare.ensures.1 in
    let sorted = sorted_order (g.T.Transactions.plans c.args.transactions.now) c.args.report.now
    c.as_slice-receipts.result.now c.in_ok-keys.keys.items c.as_slice.result.now
    c.as_slice-receipts.ensures c.as_slice.ensures.value (c.requires ReceiptsForEach) c.in_default.ensures
    c.in_ok-keys.ensures.same c.in_ok-keys.ensures.sorted in
    rw (p.1, p.2) (refused c.args.decls.now (g.T.Transactions.plans c.args.transactions.now) c.args.report.now
    (chan_in c.in_ok-rerun.rerun.held)
    (map (event_at (g.T.Transactions.plans c.args.transactions.now) c.args.report.now.receipts) c.as_slice.result.now) _
    (opening_is c.in_ok-rerun.rerun.held c.args.decls.now c.in_ok-rerun.ensures.held) sorted
    c.in_err-compare.ensures.err)

pub returns-clause-ok : goal.returns-clause-ok
returns-clause-ok g c =
    let sorted = sorted_order (g.T.Transactions.plans c.args.transactions.now) c.args.report.now
    c.as_slice-receipts.result.now c.in_ok-keys.keys.items c.as_slice.result.now
    c.as_slice-receipts.ensures c.as_slice.ensures.value (c.requires ReceiptsForEach) c.in_default.ensures
    c.in_ok-keys.ensures.same c.in_ok-keys.ensures.sorted in
    accepted c.args.decls.now (g.T.Transactions.plans c.args.transactions.now) c.args.report.now
    (chan_in c.in_ok-rerun.rerun.held) c.as_slice.result.now
    c.in_ok-list_ranks.field-0.items (opening_is c.in_ok-rerun.rerun.held c.args.decls.now c.in_ok-rerun.ensures.held)
    sorted
    (permuted c.args.report.now.receipts c.as_slice-receipts.result.now c.in_ok-keys.keys.items c.as_slice.result.now
    c.as_slice-receipts.ensures c.as_slice.ensures.value
    c.in_ok-keys.ensures.same)
    c.in_ok-compare.ensures.ok
    (c.in_ok-list_ranks.ensures ∙ ap (map rank) (c.as_slice-2.ensures.value ∙ sym c.as_slice.ensures.value))

pub returns-in_err-compare-clause-serial : goal.returns-in_err-compare-clause-serial
returns-in_err-compare-clause-serial g c order is =
    let p = err_from_is_err_and c.from_residual-in_err-compare.result c.from_residual-in_err-compare.ensures.1 in
    rw p.1 (never_refused c.args.decls.now (g.T.Transactions.plans c.args.transactions.now) c.args.report.now order
    p.0 is
    (rw p.1 at (returns-in_err-compare-clause-err g c)))

pub returns-clause-serial : goal.returns-clause-serial
returns-clause-serial g c order is =
    own_order c.args.decls.now (g.T.Transactions.plans c.args.transactions.now) c.args.report.now order
    c.in_ok-list_ranks.field-0.items is (returns-clause-ok g c)
