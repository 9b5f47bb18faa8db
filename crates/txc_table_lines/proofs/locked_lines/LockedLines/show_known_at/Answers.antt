use Rattle.std.proofs.Common.{◌≡◌, ◌∙◌, ◌<◌, refl, sym, ap, subst, length, arith}
use Rattle.txc_table_line.specs.LineChan.{LineChanView}
use Rattle.txc_table_line.specs.Known.{IsKnown}
use Rattle.txc_table_line.specs.Line.{LineId}
use Rattle.txc_table_line.specs.SeatShare.{IsValidShare, SeatShareView}
use Rattle.txc_table_lines.specs.Lines.{no_share, share_at}
use Rattle.txc_table_lines.specs.Locked.{IsLineSeen}
use Rattle.txc_table_lines.proofs.Collecting.{as_many, clean_at, never, one_line, seen_same}
use Rattle.txc_table_lines.proofs.Locking.{all_long, read}
use Rattle.txc_table_lines.proofs.Sharing.{indexed, true_set}
use Rattle.txc_table_lines.proofs.locked_lines.LockedLines.show_known_at.Goals as goal

pub show_known-requires-clause-of : goal.show_known-requires-clause-of
show_known-requires-clause-of g c =
    let below : c.args.at < length c.args.shares.now = omega (
      arith,
      c.requires.there,
      as_many c.args.shares.now c.args.self.now c.requires.of,
    ) in
    ap (λ (s : SeatShareView). s.line)
    (indexed _ _ _ _ _ no_share c.shares.view_is refl below c.index_mut-share.ensures.value)
    ∙ one_line c.args.shares.now c.args.self.now c.args.at c.requires.of
    ∙ ap (λ (x : LineChanView). x.line) (read _ _ _ _ _ _ c.self.view_is c.as_mut_slice.ensures.value
    c.requires.there c.in-Some.is)

pub show_known-requires-clause-clean : goal.show_known-requires-clause-clean
show_known-requires-clause-clean g c =
    ap (λ (x : LineChanView). x.held.logged.pending) (sym (read _ _ _ _ _ _ c.self.view_is
    c.as_mut_slice.ensures.value c.requires.there c.in-Some.is))
    ∙ clean_at c.args.self.now c.args.at c.requires.clean c.requires.there

pub unreachable-requires : goal.unreachable-requires
unreachable-requires g c = absurd (never _ _ _ _ c.self.invariant.0 c.as_mut_slice.ensures.value
    (omega (arith, c.requires.there, all_long _ _ c.self.view_is)) c.in-None.is)

pub invariant_of-shares : goal.invariant_of-shares
invariant_of-shares g c =
    true_set c.shares.inside.shares.items c.args.at c.show_known.new.share c.shares.invariant
    (omega (
      arith,
      c.requires.there,
      as_many c.args.shares.now c.args.self.now c.requires.of,
      ap length c.shares.view_is,
    ))
    (subst IsValidShare (sym c.show_known.ensures.share) c.show.ensures)

pub returns-clause-seen : goal.returns-clause-seen
returns-clause-seen g c =
    let below : c.args.at < length c.args.shares.now = omega (
      arith,
      c.requires.there,
      as_many c.args.shares.now c.args.self.now c.requires.of,
    ) in
    let share = c.index_mut-share.result.now in
    let channel = read _ _ _ _ _ _ c.self.view_is c.as_mut_slice.ensures.value c.requires.there c.in-Some.is in
    let found = indexed _ _ _ _ _ no_share c.shares.view_is refl below c.index_mut-share.ensures.value in
    let line : share.line ≡ c.in-Some.line.line
    = ap (λ (s : SeatShareView). s.line) found ∙ one_line c.args.shares.now c.args.self.now c.args.at c.requires.of
    ∙ ap (λ (x : LineChanView). x.line) channel in
    let seen : IsLineSeen share c.in-Some.line = record {
      known = subst (λ (l : LineId). IsKnown l.decl share.amount c.in-Some.line.held.logged) (sym line)
          c.show_known.ensures.known;
      since = c.show_known.ensures.since;
      marks = c.show_known.ensures.marks;
    } in
    seen_same share (share_at c.args.shares.now c.args.at) c.in-Some.line _ found channel seen
