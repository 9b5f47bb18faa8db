use Rattle.std.proofs.Common.{◌≡◌, ◌∙◌, rules, ap, length, subst, sym, None, List, map, is_some}
use Rattle.std.proofs.lemmas.List.{length-map}
use Rattle.txc_chan.specs.ChanView.{ChanView}
use Rattle.txc_table_report.specs.Refusal.{refusal_of}
use Rattle.txc_table_line.specs.Line.{LineId}
use Rattle.txc_table.specs.Seat.{AreNewHistories, new_seats}
use Rattle.txc_table.specs.Table.{IsValidTable, line_decls, table_lines}
use Rattle.txc_table.proofs.Opening.{declared_by, opened_at, tabled}
use Rattle.txc_table.proofs.table.Table.with_limits.Goals as goal

pub make_lines-requires-clause-made : goal.make_lines-requires-clause-made
make_lines-requires-clause-made g c = opened_at (λ held. held.logged) c.in_ok-chans.chans.items c.args.decls.now
    c.in_ok-chans.ensures.made

pub invariant_of-table : goal.invariant_of-table
invariant_of-table g c =
    let made = c.in_ok-chans.ensures in
    let fine : refusal_of c.args.limits c.args.decls.now c.args.seats ≡ None =
    search (rules, c.table_fault.ensures.value, c.in_default.is, c.in_default.not-Some) in
    let its : line_decls c.in_ok-lines.lines ≡ c.args.decls.now = c.in_ok-lines.ensures.lines
    ∙ declared_by (λ held. held.logged) c.in_ok-chans.chans.items c.args.decls.now made.made in
    let seats : c.make_seats-table_seats.result.0.seats ≡ c.args.seats =
    c.make_seats-table_seats.ensures.seats ∙ c.in_ok-histories.ensures.many in
    subst (IsValidTable _ c.in_ok-lines.lines c.in_ok-chans.shelves c.from_vec.result) (sym seats)
    (tabled c.args.limits c.args.decls.now c.in_ok-lines.lines c.in_ok-chans.shelves c.from_vec.result c.args.seats fine
    its (ap (λ (helds : List ChanView). map (λ held. held.logged) helds) made.theirs ∙ made.made)
    (ap (λ (helds : List ChanView). map (λ held. is_some held.shelf) helds) made.theirs ∙ made.shelved)
    (c.from_vec.ensures ∙ c.in_ok-kinds.ensures) c.in_ok-lines.ensures.ledgers)

pub returns-clause-ok : goal.returns-clause-ok
returns-clause-ok g c = record {
  its_lines = c.in_ok-lines.ensures.lines
      ∙ declared_by (λ held. held.logged) c.in_ok-chans.chans.items c.args.decls.now c.in_ok-chans.ensures.made;
  its_kinds = c.from_vec.ensures ∙ c.in_ok-kinds.ensures;
  its_seats = c.make_seats-table_seats.ensures.seats ∙ c.in_ok-histories.ensures.many;
  its_made = c.make_seats-table_seats.ensures.made
      ∙ ap (new_seats (table_lines c.make_seats-table_seats.result.0 c.in_ok-lines.lines))
      c.in_ok-histories.ensures.many;
}

pub make_seats-table_seats-requires-clause-new : goal.make_seats-table_seats-requires-clause-new
make_seats-table_seats-requires-clause-new g c =
    let its : line_decls c.in_ok-lines.lines ≡ c.args.decls.now = c.in_ok-lines.ensures.lines
    ∙ declared_by (λ held. held.logged) c.in_ok-chans.chans.items c.args.decls.now c.in_ok-chans.ensures.made in
    let many : length c.args.decls.now ≡ length c.in_ok-lines.lines =
    sym (ap length its) ∙ length-map c.in_ok-lines.lines (λ (line : LineId). line.decl) in
    subst (λ n. AreNewHistories 0 n c.in_ok-histories.histories.items) many c.in_ok-histories.ensures.new
