use Rattle.std.proofs.Common.{◌≡◌, ◌∙◌, ◌<◌, sym, ap, subst, arith, List, length, slice_get}
use Rattle.std.proofs.lemmas.List.{length-map}
use Rattle.txc_base.specs.declared.kind.Kind.{Kind}
use Rattle.txc_base.specs.Op.{chan_of}
use Rattle.txc_txn_check.specs.Steps.{Fits}
use Rattle.txc_table_line.specs.Line.{LineId}
use Rattle.txc_table_line.specs.SeatShare.{SeatShareView}
use Rattle.txc_table_lines.specs.Lines.{line_ids}
use Rattle.txc_table.specs.Table.{TableView}
use Rattle.txc_table.proofs.AtOnce.{kept_at_once, line_supports, ok_map, only_declared, retried_at_once}
use Rattle.txc_table.proofs.Trying.{kinds_within}
use Rattle.txc_table.proofs.table.Table.commit_at_once.Goals as goal

pub commit_one-requires-clause-of : goal.commit_one-requires-clause-of
commit_one-requires-clause-of g c =
    c.requires.of ∙ sym (ap (λ (t : TableView). t.lines.all) c.self.view_is) ∙ sym c.new-order.ensures.lines

pub commit_one-requires-clause-there : goal.commit_one-requires-clause-there
commit_one-requires-clause-there g c =
    let kinds : c.as_slice.result.now ≡ c.args.self.now.kinds =
    c.as_slice.ensures ∙ ap (λ (t : TableView). t.kinds) c.self.view_is in
    let fits : Fits (slice_get c.as_slice.result.now) c.args.call.now.checked.now.steps =
    subst (λ (ks : List Kind). Fits (slice_get ks) c.args.call.now.checked.now.steps) (sym kinds) c.requires.fits in
    subst (λ (lines : List LineId). chan_of c.in-Some.op.now < length lines) (sym c.new-order.ensures.lines)
    (kinds_within c.as_slice.result.now c.self.inside.lines (chan_of c.in-Some.op.now)
    (c.as_slice.ensures ∙ c.self.invariant.declared)
    (c.show_fits.ensures.there fits (chan_of c.in-Some.op.now)
    (only_declared c.args.call.now.checked.now.declared c.in-Some.op.now c.in-Some.ensures.some.1)))

pub commit_one-requires-clause-supports : goal.commit_one-requires-clause-supports
commit_one-requires-clause-supports g c =
    let of : line_ids c.args.shares.now ≡ c.self.inside.lines =
    c.requires.of ∙ sym (ap (λ (t : TableView). t.lines.all) c.self.view_is) in
    let kinds : c.as_slice.result.now ≡ c.args.self.now.kinds =
    c.as_slice.ensures ∙ ap (λ (t : TableView). t.kinds) c.self.view_is in
    let fits : Fits (slice_get c.as_slice.result.now) c.args.call.now.checked.now.steps =
    subst (λ (ks : List Kind). Fits (slice_get ks) c.args.call.now.checked.now.steps) (sym kinds) c.requires.fits in
    let below : chan_of c.in-Some.op.now < length c.as_slice.result.now =
    c.show_fits.ensures.there fits (chan_of c.in-Some.op.now)
    (only_declared c.args.call.now.checked.now.declared c.in-Some.op.now c.in-Some.ensures.some.1) in
    let there : chan_of c.in-Some.op.now < length c.args.shares.now = omega (
      arith,
      commit_one-requires-clause-there g c,
      ap length of,
      ap length c.new-order.ensures.lines,
      length-map c.args.shares.now (λ (share : SeatShareView). share.line),
    ) in
    line_supports c.args.shares.now c.self.inside.lines c.as_slice.result.now c.in-Some.op.now
    c.args.call.now.checked.now.steps of (c.as_slice.ensures ∙ c.self.invariant.declared) c.show-2.ensures below there
    c.in-Some.ensures.some.0 fits

pub returns-clause-kept : goal.returns-clause-kept
returns-clause-kept g c =
    let of : line_ids c.args.shares.now ≡ c.self.inside.lines =
    c.requires.of ∙ sym (ap (λ (t : TableView). t.lines.all) c.self.view_is) in
    let there : chan_of c.in-Some.op.now < length c.args.shares.now = omega (
      arith,
      commit_one-requires-clause-there g c.before.before,
      ap length of,
      ap length c.new-order.ensures.lines,
      length-map c.args.shares.now (λ (share : SeatShareView). share.line),
    ) in
    ok_map _ _ c.commit_one.result (λ is committed yes-it-is. kept_at_once c.args.receipt.now.tag
    c.args.call.now.checked.now c.in-Some.op.now c.args.shares.now c.commit_one.new.self c.commit_one.new.receipt
    c.in-Some.ensures.some.0 c.in-Some.ensures.some.1 there c.show.ensures.names c.commit_one.ensures.lines
    (committed yes-it-is)) c.commit_one.ensures.done

pub returns-clause-retry : goal.returns-clause-retry
returns-clause-retry g c cause =
    ok_map _ _ c.commit_one.result (λ is must same. retried_at_once c.args.receipt.now.tag c.args.call.now.checked.now
    c.in-Some.op.now c.args.shares.now cause c.in-Some.ensures.some.0 c.in-Some.ensures.some.1
    (must same))
    (c.commit_one.ensures.retry cause)
