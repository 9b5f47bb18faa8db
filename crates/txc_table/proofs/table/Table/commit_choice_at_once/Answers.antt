use Rattle.std.proofs.Common.{◌≡◌, refl, ◌∙◌, ◌<◌, sym, ap, subst, arith, List, length, slice_get}
use Rattle.std.proofs.lemmas.List.{length-map}
use Rattle.txc_base.specs.declared.kind.Kind.{Kind}
use Rattle.txc_base.specs.declared.op.Op.TheVariants.{Read, Write}
use Rattle.txc_base.specs.declared.source.Source.TheVariants.{Last}
use Rattle.txc_txn_check.specs.declared.step.Step.{Step}
use Rattle.txc_txn_check.specs.Steps.{Fits}
use Rattle.txc_txn.specs.Choice.{choice_steps}
use Rattle.txc_txn.specs.TwoOperations.{move_steps}
use Rattle.txc_table_line.specs.Line.{LineId}
use Rattle.txc_table_line.specs.SeatShare.{SeatShareView}
use Rattle.txc_table_lines.specs.Choice.{channels_of}
use Rattle.txc_table_lines.specs.Lines.{line_ids}
use Rattle.txc_table.specs.Table.{TableView}
use Rattle.txc_table.proofs.AtOnce.{ok_map}
use Rattle.txc_table.proofs.MoveAtOnce.{kept_as, line_fits, moves_fit, read_fits, retried_as, returned_as}
use Rattle.txc_table.proofs.MoveAtOnce.{three_declared, three_there, write_fits}
use Rattle.txc_table.proofs.Trying.{kinds_within}
use Rattle.txc_table.proofs.table.Table.commit_choice_at_once.Goals as goal

pub commit_choice-requires-clause-of : goal.commit_choice-requires-clause-of
commit_choice-requires-clause-of g c =
    c.requires.of ∙ sym (ap (λ (t : TableView). t.lines.all) c.self.view_is) ∙ sym c.new-order.ensures.lines

pub commit_choice-requires-clause-first : goal.commit_choice-requires-clause-first
commit_choice-requires-clause-first g c =
    let what = c.in-Some.what in
    let plan = c.args.call.now.checked.now in
    let kinds : c.as_slice.result.now ≡ c.args.self.now.kinds =
    c.as_slice.ensures ∙ ap (λ (t : TableView). t.kinds) c.self.view_is in
    let fits : Fits (slice_get c.as_slice.result.now) plan.steps =
    subst (λ (ks : List Kind). Fits (slice_get ks) plan.steps) (sym kinds) c.requires.fits in
    let declared = three_declared plan.declared what.first what.second what.to c.in-Some.ensures.declared in
    subst (λ (lines : List LineId). what.first < length lines) (sym c.new-order.ensures.lines)
    (kinds_within c.as_slice.result.now c.self.inside.lines what.first (c.as_slice.ensures ∙ c.self.invariant.declared)
    (c.show_fits.ensures.there fits what.first declared.0))

pub commit_choice-requires-clause-second : goal.commit_choice-requires-clause-second
commit_choice-requires-clause-second g c =
    let what = c.in-Some.what in
    let plan = c.args.call.now.checked.now in
    let kinds : c.as_slice.result.now ≡ c.args.self.now.kinds =
    c.as_slice.ensures ∙ ap (λ (t : TableView). t.kinds) c.self.view_is in
    let fits : Fits (slice_get c.as_slice.result.now) plan.steps =
    subst (λ (ks : List Kind). Fits (slice_get ks) plan.steps) (sym kinds) c.requires.fits in
    let declared = three_declared plan.declared what.first what.second what.to c.in-Some.ensures.declared in
    subst (λ (lines : List LineId). what.second < length lines) (sym c.new-order.ensures.lines)
    (kinds_within c.as_slice.result.now c.self.inside.lines what.second (c.as_slice.ensures ∙ c.self.invariant.declared)
    (c.show_fits.ensures.there fits what.second declared.1))

pub commit_choice-requires-clause-to : goal.commit_choice-requires-clause-to
commit_choice-requires-clause-to g c =
    let what = c.in-Some.what in
    let plan = c.args.call.now.checked.now in
    let kinds : c.as_slice.result.now ≡ c.args.self.now.kinds =
    c.as_slice.ensures ∙ ap (λ (t : TableView). t.kinds) c.self.view_is in
    let fits : Fits (slice_get c.as_slice.result.now) plan.steps =
    subst (λ (ks : List Kind). Fits (slice_get ks) plan.steps) (sym kinds) c.requires.fits in
    let declared = three_declared plan.declared what.first what.second what.to c.in-Some.ensures.declared in
    subst (λ (lines : List LineId). what.to < length lines) (sym c.new-order.ensures.lines)
    (kinds_within c.as_slice.result.now c.self.inside.lines what.to (c.as_slice.ensures ∙ c.self.invariant.declared)
    (c.show_fits.ensures.there fits what.to declared.2))

pub commit_choice-requires-clause-reads_first : goal.commit_choice-requires-clause-reads_first
commit_choice-requires-clause-reads_first g c =
    let what = c.in-Some.what in
    let plan = c.args.call.now.checked.now in
    let kinds : c.as_slice.result.now ≡ c.args.self.now.kinds =
    c.as_slice.ensures ∙ ap (λ (t : TableView). t.kinds) c.self.view_is in
    let fits : Fits (slice_get c.as_slice.result.now) plan.steps =
    subst (λ (ks : List Kind). Fits (slice_get ks) plan.steps) (sym kinds) c.requires.fits in
    let declared = three_declared plan.declared what.first what.second what.to c.in-Some.ensures.declared in
    let of : line_ids c.args.shares.now ≡ c.self.inside.lines =
    c.requires.of ∙ sym (ap (λ (t : TableView). t.lines.all) c.self.view_is) in
    let moves = moves_fit c.as_slice.result.now plan.steps what.first what.first_reader what.second what.second_reader
    what.to c.in-Some.ensures.steps fits in
    let below : what.first < length c.as_slice.result.now = c.show_fits.ensures.there fits what.first declared.0 in
    let there : what.first < length c.args.shares.now = omega (
      arith,
      commit_choice-requires-clause-first g c,
      ap length of,
      ap length c.new-order.ensures.lines,
      length-map c.args.shares.now (λ (share : SeatShareView). share.line),
    ) in
    line_fits c.args.shares.now c.self.inside.lines c.as_slice.result.now (Read what.first what.first_reader) of
    (c.as_slice.ensures ∙ c.self.invariant.declared) c.show-2.ensures below there
    (read_fits c.as_slice.result.now (move_steps what.first what.first_reader what.to) what.first what.first_reader
    what.to refl moves.0)

pub commit_choice-requires-clause-reads_second : goal.commit_choice-requires-clause-reads_second
commit_choice-requires-clause-reads_second g c =
    let what = c.in-Some.what in
    let plan = c.args.call.now.checked.now in
    let kinds : c.as_slice.result.now ≡ c.args.self.now.kinds =
    c.as_slice.ensures ∙ ap (λ (t : TableView). t.kinds) c.self.view_is in
    let fits : Fits (slice_get c.as_slice.result.now) plan.steps =
    subst (λ (ks : List Kind). Fits (slice_get ks) plan.steps) (sym kinds) c.requires.fits in
    let declared = three_declared plan.declared what.first what.second what.to c.in-Some.ensures.declared in
    let of : line_ids c.args.shares.now ≡ c.self.inside.lines =
    c.requires.of ∙ sym (ap (λ (t : TableView). t.lines.all) c.self.view_is) in
    let moves = moves_fit c.as_slice.result.now plan.steps what.first what.first_reader what.second what.second_reader
    what.to c.in-Some.ensures.steps fits in
    let below : what.second < length c.as_slice.result.now = c.show_fits.ensures.there fits what.second declared.1 in
    let there : what.second < length c.args.shares.now = omega (
      arith,
      commit_choice-requires-clause-second g c,
      ap length of,
      ap length c.new-order.ensures.lines,
      length-map c.args.shares.now (λ (share : SeatShareView). share.line),
    ) in
    line_fits c.args.shares.now c.self.inside.lines c.as_slice.result.now (Read what.second what.second_reader) of
    (c.as_slice.ensures ∙ c.self.invariant.declared) c.show-2.ensures below there
    (read_fits c.as_slice.result.now (move_steps what.second what.second_reader what.to) what.second what.second_reader
    what.to refl moves.1)

pub commit_choice-requires-clause-writes : goal.commit_choice-requires-clause-writes
commit_choice-requires-clause-writes g c =
    let what = c.in-Some.what in
    let plan = c.args.call.now.checked.now in
    let kinds : c.as_slice.result.now ≡ c.args.self.now.kinds =
    c.as_slice.ensures ∙ ap (λ (t : TableView). t.kinds) c.self.view_is in
    let fits : Fits (slice_get c.as_slice.result.now) plan.steps =
    subst (λ (ks : List Kind). Fits (slice_get ks) plan.steps) (sym kinds) c.requires.fits in
    let declared = three_declared plan.declared what.first what.second what.to c.in-Some.ensures.declared in
    let of : line_ids c.args.shares.now ≡ c.self.inside.lines =
    c.requires.of ∙ sym (ap (λ (t : TableView). t.lines.all) c.self.view_is) in
    let moves = moves_fit c.as_slice.result.now plan.steps what.first what.first_reader what.second what.second_reader
    what.to c.in-Some.ensures.steps fits in
    let below : what.to < length c.as_slice.result.now = c.show_fits.ensures.there fits what.to declared.2 in
    let there : what.to < length c.args.shares.now = omega (
      arith,
      commit_choice-requires-clause-to g c,
      ap length of,
      ap length c.new-order.ensures.lines,
      length-map c.args.shares.now (λ (share : SeatShareView). share.line),
    ) in
    line_fits c.args.shares.now c.self.inside.lines c.as_slice.result.now (Write what.to Last) of
    (c.as_slice.ensures ∙ c.self.invariant.declared) c.show-2.ensures below there
    (write_fits c.as_slice.result.now (move_steps what.first what.first_reader what.to) what.first what.first_reader
    what.to refl moves.0)

pub returns-clause-outcome : goal.returns-clause-outcome
returns-clause-outcome g c =
    let what = c.in-Some.what in
    let steps : List Step =
    choice_steps what.first what.first_reader what.second what.second_reader what.to in
    ok_map _ _ c.commit_choice.result (λ is committed at-once. returned_as c.args.receipt.now.tag
    c.args.call.now.checked.now (channels_of what) steps c.args.shares.now c.commit_choice.new.self
    c.commit_choice.new.receipt c.in-Some.ensures.steps c.in-Some.ensures.declared (committed at-once))
    c.commit_choice.ensures.done

pub returns-clause-retry : goal.returns-clause-retry
returns-clause-retry g c cause =
    let what = c.in-Some.what in
    let steps : List Step =
    choice_steps what.first what.first_reader what.second what.second_reader what.to in
    ok_map _ _ c.commit_choice.result (λ is must same. retried_as c.args.receipt.now.tag c.args.call.now.checked.now
    (channels_of what) steps c.args.shares.now cause c.in-Some.ensures.steps c.in-Some.ensures.declared (must same))
    (c.commit_choice.ensures.retry cause)

pub returns-clause-kept : goal.returns-clause-kept
returns-clause-kept g c =
    let what = c.in-Some.what in
    let steps : List Step =
    choice_steps what.first what.first_reader what.second what.second_reader what.to in
    let of : line_ids c.args.shares.now ≡ c.self.inside.lines =
    c.requires.of ∙ sym (ap (λ (t : TableView). t.lines.all) c.self.view_is) in
    let long = length-map c.args.shares.now (λ (share : SeatShareView). share.line) in
    let first : what.first < length c.args.shares.now =
    omega (arith, commit_choice-requires-clause-first g c.before.before, ap length of, ap length c.new-order.ensures.lines, long) in
    let second : what.second < length c.args.shares.now =
    omega (arith, commit_choice-requires-clause-second g c.before.before, ap length of, ap length c.new-order.ensures.lines, long) in
    let to : what.to < length c.args.shares.now =
    omega (arith, commit_choice-requires-clause-to g c.before.before, ap length of, ap length c.new-order.ensures.lines, long) in
    ok_map _ _ c.commit_choice.result (λ is committed at-once. kept_as c.args.receipt.now.tag
    c.args.call.now.checked.now (channels_of what) steps c.args.shares.now c.commit_choice.new.self
    c.commit_choice.new.receipt c.in-Some.ensures.steps c.in-Some.ensures.declared
    (three_there c.args.shares.now what.first what.second what.to first second to) c.show.ensures.names
    c.commit_choice.ensures.lines (committed at-once)) c.commit_choice.ensures.done
