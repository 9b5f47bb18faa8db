use Rattle.std.proofs.Common.{◌≡◌, ◌∙◌, ◌<◌, sym, ap, subst, arith, List, length, slice_get}
use Rattle.std.proofs.lemmas.List.{length-map}
use Rattle.txc_base.specs.declared.kind.Kind.{Kind}
use Rattle.txc_base.specs.declared.op.Op.TheVariants.{Read, Write}
use Rattle.txc_base.specs.declared.source.Source.TheVariants.{Last}
use Rattle.txc_txn_check.specs.Steps.{Fits}
use Rattle.txc_txn.specs.TwoOperations.{lower_first, move_steps}
use Rattle.txc_table_line.specs.Line.{LineId}
use Rattle.txc_table_line.specs.SeatShare.{SeatShareView}
use Rattle.txc_table_lines.specs.Lines.{line_ids}
use Rattle.txc_table.specs.Table.{TableView}
use Rattle.txc_table.proofs.AtOnce.{ok_map}
use Rattle.txc_table.proofs.MoveAtOnce.{both_there, from_declared, kept_as, line_fits, read_fits, retried_as}
use Rattle.txc_table.proofs.MoveAtOnce.{returned_as, to_declared, write_fits}
use Rattle.txc_table.proofs.Trying.{kinds_within}
use Rattle.txc_table.proofs.table.Table.commit_move_at_once.Goals as goal

pub commit_move-requires-clause-of : goal.commit_move-requires-clause-of
commit_move-requires-clause-of g c =
    c.requires.of ∙ sym (ap (λ (t : TableView). t.lines.all) c.self.view_is) ∙ sym c.new-order.ensures.lines

pub commit_move-requires-clause-from : goal.commit_move-requires-clause-from
commit_move-requires-clause-from g c =
    let kinds : c.as_slice.result.now ≡ c.args.self.now.kinds =
    c.as_slice.ensures ∙ ap (λ (t : TableView). t.kinds) c.self.view_is in
    let fits : Fits (slice_get c.as_slice.result.now) c.args.call.now.checked.now.steps =
    subst (λ (ks : List Kind). Fits (slice_get ks) c.args.call.now.checked.now.steps) (sym kinds) c.requires.fits in
    subst (λ (lines : List LineId). c.in-Some.what.from < length lines) (sym c.new-order.ensures.lines)
    (kinds_within c.as_slice.result.now c.self.inside.lines c.in-Some.what.from
    (c.as_slice.ensures ∙ c.self.invariant.declared)
    (c.show_fits.ensures.there fits c.in-Some.what.from
    (from_declared c.args.call.now.checked.now.declared c.in-Some.what.from c.in-Some.what.to
    c.in-Some.ensures.declared)))

pub commit_move-requires-clause-to : goal.commit_move-requires-clause-to
commit_move-requires-clause-to g c =
    let kinds : c.as_slice.result.now ≡ c.args.self.now.kinds =
    c.as_slice.ensures ∙ ap (λ (t : TableView). t.kinds) c.self.view_is in
    let fits : Fits (slice_get c.as_slice.result.now) c.args.call.now.checked.now.steps =
    subst (λ (ks : List Kind). Fits (slice_get ks) c.args.call.now.checked.now.steps) (sym kinds) c.requires.fits in
    subst (λ (lines : List LineId). c.in-Some.what.to < length lines) (sym c.new-order.ensures.lines)
    (kinds_within c.as_slice.result.now c.self.inside.lines c.in-Some.what.to
    (c.as_slice.ensures ∙ c.self.invariant.declared)
    (c.show_fits.ensures.there fits c.in-Some.what.to
    (to_declared c.args.call.now.checked.now.declared c.in-Some.what.from c.in-Some.what.to
    c.in-Some.ensures.declared)))

pub commit_move-requires-clause-reads : goal.commit_move-requires-clause-reads
commit_move-requires-clause-reads g c =
    let of : line_ids c.args.shares.now ≡ c.self.inside.lines =
    c.requires.of ∙ sym (ap (λ (t : TableView). t.lines.all) c.self.view_is) in
    let kinds : c.as_slice.result.now ≡ c.args.self.now.kinds =
    c.as_slice.ensures ∙ ap (λ (t : TableView). t.kinds) c.self.view_is in
    let fits : Fits (slice_get c.as_slice.result.now) c.args.call.now.checked.now.steps =
    subst (λ (ks : List Kind). Fits (slice_get ks) c.args.call.now.checked.now.steps) (sym kinds) c.requires.fits in
    let below : c.in-Some.what.from < length c.as_slice.result.now =
    c.show_fits.ensures.there fits c.in-Some.what.from
    (from_declared c.args.call.now.checked.now.declared c.in-Some.what.from c.in-Some.what.to
    c.in-Some.ensures.declared) in
    let there : c.in-Some.what.from < length c.args.shares.now = omega (
      arith,
      commit_move-requires-clause-from g c,
      ap length of,
      ap length c.new-order.ensures.lines,
      length-map c.args.shares.now (λ (share : SeatShareView). share.line),
    ) in
    line_fits c.args.shares.now c.self.inside.lines c.as_slice.result.now
    (Read c.in-Some.what.from c.in-Some.what.reader) of (c.as_slice.ensures ∙ c.self.invariant.declared)
    c.show-2.ensures below there (read_fits c.as_slice.result.now c.args.call.now.checked.now.steps
    c.in-Some.what.from c.in-Some.what.reader c.in-Some.what.to c.in-Some.ensures.steps fits)

pub commit_move-requires-clause-writes : goal.commit_move-requires-clause-writes
commit_move-requires-clause-writes g c =
    let of : line_ids c.args.shares.now ≡ c.self.inside.lines =
    c.requires.of ∙ sym (ap (λ (t : TableView). t.lines.all) c.self.view_is) in
    let kinds : c.as_slice.result.now ≡ c.args.self.now.kinds =
    c.as_slice.ensures ∙ ap (λ (t : TableView). t.kinds) c.self.view_is in
    let fits : Fits (slice_get c.as_slice.result.now) c.args.call.now.checked.now.steps =
    subst (λ (ks : List Kind). Fits (slice_get ks) c.args.call.now.checked.now.steps) (sym kinds) c.requires.fits in
    let below : c.in-Some.what.to < length c.as_slice.result.now =
    c.show_fits.ensures.there fits c.in-Some.what.to
    (to_declared c.args.call.now.checked.now.declared c.in-Some.what.from c.in-Some.what.to
    c.in-Some.ensures.declared) in
    let there : c.in-Some.what.to < length c.args.shares.now = omega (
      arith,
      commit_move-requires-clause-to g c,
      ap length of,
      ap length c.new-order.ensures.lines,
      length-map c.args.shares.now (λ (share : SeatShareView). share.line),
    ) in
    line_fits c.args.shares.now c.self.inside.lines c.as_slice.result.now (Write c.in-Some.what.to Last) of
    (c.as_slice.ensures ∙ c.self.invariant.declared) c.show-2.ensures below there
    (write_fits c.as_slice.result.now c.args.call.now.checked.now.steps c.in-Some.what.from c.in-Some.what.reader
    c.in-Some.what.to c.in-Some.ensures.steps fits)

pub returns-clause-outcome : goal.returns-clause-outcome
returns-clause-outcome g c =
    let what = c.in-Some.what in
    ok_map _ _ c.commit_move.result (λ is committed at-once. returned_as c.args.receipt.now.tag
    c.args.call.now.checked.now (lower_first what.from what.to) (move_steps what.from what.reader what.to)
    c.args.shares.now c.commit_move.new.self c.commit_move.new.receipt c.in-Some.ensures.steps
    c.in-Some.ensures.declared (committed at-once)) c.commit_move.ensures.done

pub returns-clause-retry : goal.returns-clause-retry
returns-clause-retry g c cause =
    let what = c.in-Some.what in
    ok_map _ _ c.commit_move.result (λ is must same. retried_as c.args.receipt.now.tag c.args.call.now.checked.now
    (lower_first what.from what.to) (move_steps what.from what.reader what.to) c.args.shares.now cause
    c.in-Some.ensures.steps c.in-Some.ensures.declared (must same)) (c.commit_move.ensures.retry cause)

pub returns-clause-kept : goal.returns-clause-kept
returns-clause-kept g c =
    let what = c.in-Some.what in
    let of : line_ids c.args.shares.now ≡ c.self.inside.lines =
    c.requires.of ∙ sym (ap (λ (t : TableView). t.lines.all) c.self.view_is) in
    let long = length-map c.args.shares.now (λ (share : SeatShareView). share.line) in
    let from : what.from < length c.args.shares.now =
    omega (arith, commit_move-requires-clause-from g c.before.before, ap length of, ap length c.new-order.ensures.lines, long) in
    let to : what.to < length c.args.shares.now =
    omega (arith, commit_move-requires-clause-to g c.before.before, ap length of, ap length c.new-order.ensures.lines, long) in
    ok_map _ _ c.commit_move.result (λ is committed at-once. kept_as c.args.receipt.now.tag
    c.args.call.now.checked.now (lower_first what.from what.to) (move_steps what.from what.reader what.to)
    c.args.shares.now c.commit_move.new.self c.commit_move.new.receipt c.in-Some.ensures.steps
    c.in-Some.ensures.declared (both_there c.args.shares.now what.from what.to from to) c.show.ensures.names
    c.commit_move.ensures.lines (committed at-once)) c.commit_move.ensures.done
