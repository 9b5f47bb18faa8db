use Rattle.std.proofs.Common.{rules, refl, ◌≡◌, ◌∙◌, sym, ap, subst, slice_index_or, slice_set, map, arith}
use Rattle.txc_table_line.specs.LineChan.{LineChanView, no_channel}
use Rattle.txc_table_line.specs.SeatShare.{SeatShareView}
use Rattle.txc_table_lines.specs.Guards.{IsReady, GuardsView, channel_in}
use Rattle.txc_table_lines.specs.Lines.{line_ids, no_share}
use Rattle.txc_table_lines.proofs.Placing.{changed, locked_changed, never_none, within}
use Rattle.txc_table_lines.proofs.Settling.{channels_set, guard_channel, guard_line, settled_at, share_is}
use Rattle.txc_table_lines.proofs.Settling.{share_there}
use Rattle.txc_table_lines.proofs.Sharing.{indexed, lines_set, same_line, true_set}
use Rattle.txc_table_lines.proofs.guards.Guards.settle_line.Goals as goal

pub bounds-deref_mut-at : goal.bounds-deref_mut-at
bounds-deref_mut-at g c = within _ _ _ _ _ _ c.self.view_is c.self.invariant c.requires.there c.deref_mut.ensures.value

pub offset_bounds-deref_mut-at : goal.offset_bounds-deref_mut-at
offset_bounds-deref_mut-at g c = omega (arith, bounds-deref_mut-at g c, c.deref_mut.type_inv.1)

pub unreachable-requires : goal.unreachable-requires
unreachable-requires g c = absurd (never_none _ _ _ _ _ _ _ c.self.view_is c.self.invariant c.requires.there
    c.deref_mut.ensures.value c.in-None.is)

pub index_mut-share-requires : goal.index_mut-share-requires
index_mut-share-requires g c =
    let there = share_there _ _ _ _ _ _ _ _ _ c.self.view_is c.self.invariant c.requires.there
    c.requires.of c.shares.view_is refl c.from-number.ensures in
    search rules

pub settle-requires-clause-of : goal.settle-requires-clause-of
settle-requires-clause-of g c =
    ap (λ (s : SeatShareView). s.line) (share_is _ _ _ _ _ _ _ _ _ c.self.view_is c.self.invariant c.requires.there
    c.requires.of c.shares.view_is c.from-number.ensures c.index_mut-share.ensures.value)
    ∙ same_line c.args.shares.now c.args.self.now.known (slice_index_or c.args.self.now.declared c.args.at 0)
    c.requires.of
    ∙ sym (guard_line _ _ _ _ _ _ _ _ c.self.view_is c.self.invariant c.requires.there c.deref_mut.ensures.value
    c.in-Some.is)

pub settle-requires-clause-stamped : goal.settle-requires-clause-stamped
settle-requires-clause-stamped g c =
    (subst (λ (x : LineChanView). IsReady c.args.tag.stamp x.held.logged) (guard_channel _ _ _ _ _ _ _ _
    c.self.view_is c.self.invariant c.requires.there c.deref_mut.ensures.value c.in-Some.is) c.requires.ready).stamped

pub settle-requires-clause-later : goal.settle-requires-clause-later
settle-requires-clause-later g c =
    (subst (λ (x : LineChanView). IsReady c.args.tag.stamp x.held.logged) (guard_channel _ _ _ _ _ _ _ _
    c.self.view_is c.self.invariant c.requires.there c.deref_mut.ensures.value c.in-Some.is) c.requires.ready).later

pub invariant_of-self : goal.invariant_of-self
invariant_of-self g c = locked_changed _ _ _ _ _ _ _ _ _ c.self.view_is c.self.invariant c.requires.there
    c.deref_mut.ensures.value c.in-Some.is c.settle.ensures.line.0

pub invariant_of-shares : goal.invariant_of-shares
invariant_of-shares g c = true_set c.shares.inside.shares.items c.from-number.result c.settle.new.share
    c.shares.invariant (share_there _ _ _ _ _ _ _ _ _ c.self.view_is c.self.invariant c.requires.there
    c.requires.of c.shares.view_is refl c.from-number.ensures) c.show.ensures

pub returns-clause-settled : goal.returns-clause-settled
returns-clause-settled g c = settled_at c.args.tag _ _ _ _ _ _ _ _ _ _ _ c.settle.new.self _ c.settle.new.share
    c.self.view_is c.self.invariant c.requires.there c.deref_mut.ensures.value c.in-Some.is c.requires.of
    c.shares.view_is c.from-number.ensures c.index_mut-share.ensures.value (record {
      settled = c.settle.ensures.settled;
      line = c.settle.ensures.line.1;
      amount = c.settle.ensures.amount;
      log = c.settle.ensures.seen;
      made = c.settle.ensures.made;
      marked = c.settle.ensures.marked;
      known = c.settle.ensures.known;
      true_share = c.show.ensures;
    })

pub returns-clause-channels : goal.returns-clause-channels
returns-clause-channels g c = record {
  declared = ap (λ (l : GuardsView). l.declared) c.self.view_is;
  known = ap (λ (l : GuardsView). l.known) c.self.view_is;
  channels = subst (λ (l : GuardsView). map channel_in
      (changed c.self.inside.locked.items c.deref_mut.result.now c.args.at
      c.settle.new.self) ≡ slice_set l.channels c.args.at (slice_index_or (map channel_in
      (changed c.self.inside.locked.items c.deref_mut.result.now c.args.at c.settle.new.self)) c.args.at no_channel))
      c.self.view_is
      (channels_set c.self.inside.locked.items c.deref_mut.result.now c.args.at c.settle.new.self
      c.deref_mut.ensures.value
      (within _ _ _ _ _ _ c.self.view_is c.self.invariant c.requires.there refl));
}

pub returns-clause-lines : goal.returns-clause-lines
returns-clause-lines g c =
    let below = share_there _ _ _ _ _ _ _ _ _ c.self.view_is c.self.invariant c.requires.there
    c.requires.of c.shares.view_is refl c.from-number.ensures in
    lines_set c.shares.inside.shares.items c.from-number.result c.settle.new.share below
    (c.settle.ensures.line.1 ∙ ap (λ (s : SeatShareView). s.line)
    (indexed _ _ _ _ _ no_share refl refl below c.index_mut-share.ensures.value))
    ∙ ap line_ids c.shares.view_is
