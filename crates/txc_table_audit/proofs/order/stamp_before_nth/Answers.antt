use Rattle.std.proofs.Common.{◌≡◌, ◌∙◌, sym, ap, suc, ◌-◌, arith, slice_index_or}
use Rattle.std.proofs.lemmas.Option.{slice_get-get_or}
use Rattle.txc_table_audit.specs.ReceiptKeys.{stamp_before}
use Rattle.txc_table_audit.proofs.InTurn.{stamp_of_last}
use Rattle.txc_table_audit.proofs.order.stamp_before_nth.Goals as goal

pub returns-else-nth-eq0 : goal.returns-else-nth-eq0
returns-else-nth-eq0 c =
    let more : suc (c.args.nth - 1) ≡ c.args.nth = omega arith in
    stamp_of_last c.args.receipts.now 0 (c.args.nth - 1)
    (slice_index_or c.args.receipts.now (c.args.nth - 1) c.index-receipts-nth.result)
    (slice_get-get_or c.args.receipts.now (c.args.nth - 1) c.index-receipts-nth.result (omega arith))
    ∙ ap (stamp_before 0 c.args.receipts.now) more

pub returns-then-nth-eq0 : goal.returns-then-nth-eq0
returns-then-nth-eq0 c = ap (stamp_before 0 c.args.receipts.now) (sym c.if-nth-eq0.true)
