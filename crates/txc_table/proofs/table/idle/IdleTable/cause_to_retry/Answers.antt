use Rattle.std.proofs.Common.{◌≡◌, ◌∙◌, ◌<◌, ℕ, Contains, List, IfErr, IfNone, IfOk, IfSome, arith, ap, length, refl}
use Rattle.std.proofs.Common.{slice_get, slice_index_or, subst, sym, ◌≢◌}
use Rattle.txc_base.specs.declared.kind.Kind.{Kind}
use Rattle.txc_base.specs.declared.stop.Stop.TheVariants.{NoMemory}
use Rattle.txc_txn_check.specs.declared.step.Step.{Step}
use Rattle.txc_txn_check.specs.Steps.{Fits}
use Rattle.txc_table_seat.specs.Seated.{next_tag}
use Rattle.txc_txn.specs.Maps.{Map, kinds_of}
use Rattle.txc_txn.specs.Plain.{chan_in}
use Rattle.txc_txn.specs.Transaction.{Again, Aborted, Kept, State, transaction}
use Rattle.txc_table_line.specs.LineChan.{LineChanView}
use Rattle.txc_table_lines.specs.Lines.{line_ids}
use Rattle.txc_table_lines.specs.Locked.{AreClean, helds_of, lines_of}
use Rattle.txc_table_lines.specs.OneOperation.{AreKnown}
use Rattle.txc_table.specs.IdleTableView.{IdleTableView}
use Rattle.txc_table.specs.Seat.{DepartedSeatView, seen_in}
use Rattle.txc_table.specs.Table.{TableLines, line_decls, decls_of, table_lines}
use Rattle.txc_table.specs.Outcome.{AreLawful}
use Rattle.txc_table.proofs.Gathering.{as_many}
use Rattle.txc_table.proofs.Idling.{at_place, carried, known_in, whatever}
use Rattle.txc_table.proofs.Reporting.{lines_long}
use Rattle.txc_table.proofs.Trying.{found_by, kinds_agree, kinds_within}
use Rattle.txc_table.proofs.table.idle.IdleTable.cause_to_retry.Goals as goal

pub cause_to_retry-requires : goal.cause_to_retry-requires
cause_to_retry-requires g c =
    let channels : List LineChanView = c.self.inside.locked.lines in
    let kinds : c.args.self.now.table.kinds ≡ c.as_slice.result.now =
    sym (c.as_slice.ensures ∙ ap (λ (i : IdleTableView). i.table.kinds) c.self.view_is) in
    let fits : Fits (slice_get c.as_slice.result.now) c.args.checked.now.steps =
    subst (λ (ks : List Kind). Fits (slice_get ks) c.args.checked.now.steps) kinds c.requires.fits in
    let below : c.args.at < length c.self.inside.left.items =
    omega (arith, c.requires.there, ap (λ (i : IdleTableView). length i.left) c.self.view_is) in
    let of : line_ids c.seat.inside.shares ≡ lines_of channels =
    ap (λ (s : DepartedSeatView). s.lines.all) (c.seat.view_is ∙ c.index_mut-seat.ensures.value)
    ∙ ap (λ (l : TableLines). l.all) (c.self.invariant.back.of c.args.at c.index_mut-seat.result.now below) in
    let found : AreKnown c.seat.inside.shares (chan_in (helds_of channels)) =
    known_in c.seat.inside.shares channels (as_many c.seat.inside.shares channels of) c.show_known.ensures.seen in
    let m : Map = chan_in (helds_of channels) in
    let steps : List Step = c.args.checked.now.steps in
    let declared = c.as_slice.ensures ∙ c.self.invariant.tabled.declared in
    let fit : Fits (kinds_of m) steps =
    c.show_fits.ensures.others (kinds_of m) fits
    (λ n is. kinds_agree c.seat.inside.shares (lines_of channels) c.as_slice.result.now m of declared found n
    (c.show_fits.ensures.there fits n is)) in
    let there : (n : ℕ) → Contains c.args.checked.now.declared n → n < length channels =
    λ n is. (let within : n < length (lines_of channels) = kinds_within c.as_slice.result.now (lines_of channels) n
    declared (c.show_fits.ensures.there fits n is) in
    omega (arith, within, lines_long channels)) in
    let same = sym c.show_known.ensures.same in
    record {
      fits = subst (λ (cs : List LineChanView). Fits (kinds_of (chan_in (helds_of cs))) steps) same fit;
      there = subst (λ (cs : List LineChanView). (n : ℕ) → Contains c.args.checked.now.declared n → n < length cs)
          same there;
      clean = subst (λ (cs : List LineChanView). AreClean (helds_of cs)) same c.self.invariant.clean;
    }

pub returns-clause-again : goal.returns-clause-again
returns-clause-again g c seat =
    carried (λ helds tag. IfOk c.cause_to_retry.result (λ found. IfSome found (λ cause.
    transaction (chan_in helds) tag c.args.checked.now.declared c.args.checked.now.steps ≡ Again cause)))
    (helds_of c.show_known.new.self) c.args.self.now.helds c.next_tag-tag.result
    (next_tag (slice_index_or c.args.self.now.left c.args.at seat).commits)
    (ap helds_of c.show_known.ensures.same ∙ ap (λ (i : IdleTableView). i.helds) c.self.view_is)
    (c.next_tag-tag.ensures
    ∙ ap (λ (s : DepartedSeatView). next_tag s.commits) (at_place _ _ c.args.at _ _ seat c.self.view_is
    c.requires.there c.seat.view_is c.index_mut-seat.ensures.value)) c.cause_to_retry.ensures.again

pub returns-clause-kept : goal.returns-clause-kept
returns-clause-kept g c seat =
    carried (λ helds tag. IfOk c.cause_to_retry.result (λ found. IfNone found ((state : State) × (
    transaction (chan_in helds) tag c.args.checked.now.declared c.args.checked.now.steps ≡ Kept state))))
    (helds_of c.show_known.new.self) c.args.self.now.helds c.next_tag-tag.result
    (next_tag (slice_index_or c.args.self.now.left c.args.at seat).commits)
    (ap helds_of c.show_known.ensures.same ∙ ap (λ (i : IdleTableView). i.helds) c.self.view_is)
    (c.next_tag-tag.ensures
    ∙ ap (λ (s : DepartedSeatView). next_tag s.commits) (at_place _ _ c.args.at _ _ seat c.self.view_is
    c.requires.there c.seat.view_is c.index_mut-seat.ensures.value)) c.cause_to_retry.ensures.kept

pub returns-clause-stopped : goal.returns-clause-stopped
returns-clause-stopped g c seat =
    carried (λ helds tag. IfErr c.cause_to_retry.result (λ stop. stop ≢ NoMemory →
    transaction (chan_in helds) tag c.args.checked.now.declared c.args.checked.now.steps ≡ Aborted stop))
    (helds_of c.show_known.new.self) c.args.self.now.helds c.next_tag-tag.result
    (next_tag (slice_index_or c.args.self.now.left c.args.at seat).commits)
    (ap helds_of c.show_known.ensures.same ∙ ap (λ (i : IdleTableView). i.helds) c.self.view_is)
    (c.next_tag-tag.ensures
    ∙ ap (λ (s : DepartedSeatView). next_tag s.commits) (at_place _ _ c.args.at _ _ seat c.self.view_is
    c.requires.there c.seat.view_is c.index_mut-seat.ensures.value)) c.cause_to_retry.ensures.stopped

pub returns-clause-lawful : goal.returns-clause-lawful
returns-clause-lawful g c seat =
    let channels : List LineChanView = c.self.inside.locked.lines in
    let below : c.args.at < length c.self.inside.left.items =
    omega (arith, c.requires.there, ap (λ (i : IdleTableView). length i.left) c.self.view_is) in
    let of : line_ids c.seat.inside.shares ≡ lines_of channels =
    ap (λ (s : DepartedSeatView). s.lines.all) (c.seat.view_is ∙ c.index_mut-seat.ensures.value)
    ∙ ap (λ (l : TableLines). l.all) (c.self.invariant.back.of c.args.at c.index_mut-seat.result.now below) in
    let found : AreKnown c.seat.inside.shares (chan_in (helds_of channels)) =
    known_in c.seat.inside.shares channels (as_many c.seat.inside.shares channels of) c.show_known.ensures.seen in
    let whose = ap (λ (s : DepartedSeatView). s.lines) (c.seat.view_is ∙ c.index_mut-seat.ensures.value)
    ∙ c.self.invariant.back.of c.args.at c.index_mut-seat.result.now below in
    let lawful : AreLawful (line_decls (lines_of channels)) c.seat.inside.history.commits.receipts
    (chan_in (helds_of channels)) =
    (found_by c.seat.inside.shares c.seat.inside.history.commits (record {
      commits = c.seat.inside.history.commits;
      lines = record {
        ledger = c.seat.inside.table_share.name;
        seats = c.seat.inside.table_share.whole;
        all = line_ids c.seat.inside.shares;
      };
      seen = seen_in c.seat.inside.shares;
    }) (table_lines c.self.inside.locked.table_seats (lines_of channels)) (chan_in (helds_of channels)) refl whose
    c.seat.invariant found).0 in
    let own = at_place _ _ c.args.at _ _ seat c.self.view_is c.requires.there c.seat.view_is
    c.index_mut-seat.ensures.value in
    whatever _ c.cause_to_retry.result
    (subst (λ (i : IdleTableView). AreLawful (decls_of i.table.lines)
    (slice_index_or c.args.self.now.left c.args.at seat).commits.receipts (chan_in i.helds)) c.self.view_is
    (subst (λ (s : DepartedSeatView). AreLawful (line_decls (lines_of channels)) s.commits.receipts (chan_in (helds_of
    channels)))
    own lawful))

pub returns-clause-same : goal.returns-clause-same
returns-clause-same g c =
    c.cause_to_retry.ensures.same
    ∙ ap chan_in (ap helds_of c.show_known.ensures.same ∙ ap (λ (i : IdleTableView). i.helds) c.self.view_is)
