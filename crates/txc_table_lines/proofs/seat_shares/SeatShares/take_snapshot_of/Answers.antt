use Rattle.std.proofs.Common.{rules, refl, ◌≡◌, ◌∙◌, ap, subst, List, arith, slice_set}
use mathlib.Core.List.{IsPrefix}
use Rattle.txc_table_line.specs.SeatShare.{SeatShareView}
use Rattle.txc_table_lines.specs.Lines.{OnlyGrew, line_ids, no_share}
use Rattle.txc_table_lines.proofs.Sharing.{grew_set, indexed, lines_set, map_long, there, true_set}
use Rattle.txc_table_lines.proofs.seat_shares.SeatShares.take_snapshot_of.Goals as goal

pub invariant_of-self : goal.invariant_of-self
invariant_of-self g c =
    let at : c.from.result ≡ c.args.chan = search rules in
    true_set c.self.inside.shares.items c.from.result c.take_snapshot-snapshot.new.share c.self.invariant
    (there _ _ _ _ _ c.self.view_is refl at (omega (arith, c.requires.there, map_long (λ (s : SeatShareView). s.line) c.args.self.now))) c.show.ensures

pub returns-clause-grew : goal.returns-clause-grew
returns-clause-grew g c =
    let at : c.from.result ≡ c.args.chan = search rules in
    let below = there _ _ _ _ _ c.self.view_is refl at (omega (arith, c.requires.there, map_long (λ (s : SeatShareView). s.line) c.args.self.now)) in
    let share = indexed _ _ _ _ _ no_share refl refl below c.index_mut-share.ensures.value in
    subst (λ (before : List SeatShareView). OnlyGrew before
    (slice_set c.self.inside.shares.items c.from.result c.take_snapshot-snapshot.new.share)) c.self.view_is
    (grew_set c.self.inside.shares.items c.from.result c.take_snapshot-snapshot.new.share below
    (subst (λ (s : SeatShareView). IsPrefix s.log c.take_snapshot-snapshot.new.share.log) share
    c.take_snapshot-snapshot.ensures.grew))

pub returns-clause-lines : goal.returns-clause-lines
returns-clause-lines g c =
    let at : c.from.result ≡ c.args.chan = search rules in
    let below = there _ _ _ _ _ c.self.view_is refl at (omega (arith, c.requires.there, map_long (λ (s : SeatShareView). s.line) c.args.self.now)) in
    let share = indexed _ _ _ _ _ no_share refl refl below c.index_mut-share.ensures.value in
    subst (λ (before : List SeatShareView). line_ids
    (slice_set c.self.inside.shares.items c.from.result c.take_snapshot-snapshot.new.share)
    ≡ line_ids before) c.self.view_is
    (lines_set c.self.inside.shares.items c.from.result c.take_snapshot-snapshot.new.share below
    (c.take_snapshot-snapshot.ensures.rest.0 ∙ ap (λ (s : SeatShareView). s.line) share))
