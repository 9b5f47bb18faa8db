use Rattle.std.proofs.Common.{rules, refl, ◌≡◌, ◌∙◌, ◌<◌, ◌≤◌, ◌+◌, ◌++◌, ◌∷◌, [], suc, List, sym, ap, length}
use Rattle.std.proofs.Common.{map}
use Rattle.std.proofs.Common.{slice_index_or, slice_set, arith}
use Rattle.txc_chan.specs.ChanView.{ChanView}
use Rattle.txc_chan.specs.Logged.{opened}
use Rattle.txc_table_line.specs.LineChan.{LineChanView}
use Rattle.txc_table_line.specs.Line.{LineId}
use Rattle.txc_table_line.specs.SeatShare.{SeatShareView}
use Rattle.txc_table_lines.specs.Lines.{fresh_share}
use Rattle.txc_txn.proofs.Touching.{if_ok_then}
use Rattle.txc_table_lines.proofs.Mapping.{fresh_share_is, mapped, mapped_all, mapped_long, mapped_more, mapped_none}
use Rattle.txc_table_lines.proofs.opening.add_line.Goals as goal

pub loop-at-init : goal.loop-at-init
loop-at-init g c = record {
  channel = refl;
  ledgers = c.new-channel.ensures.ledgers;
  parts = omega (arith, c.new-channel.ensures.parts);
  none = c.new-channel.ensures.none;
  seats = sym (mapped_none _ c.args.seats.now.items);
}

pub index_mut-requires : goal.index_mut-requires
index_mut-requires g c =
    let long = ap length c.loop-at.invariant.seats ∙ mapped_long _ c.args.seats.now.items c.loop-at.at in
    search (rules, long)

pub loop-at-preserved : goal.loop-at-preserved
loop-at-preserved g c =
    let inv = c.loop-at.invariant in
    let channel = c.new-channel.result.0 in
    let new : channel.held.logged ≡ opened channel.line.decl
    = ap (λ (h : ChanView). h.logged) c.new-channel.ensures.same ∙ c.requires.made
    ∙ ap opened (sym c.new-channel.ensures.decl) in
    let share : c.new.result ≡ fresh_share channel.line
    = fresh_share_is c.new.result channel new c.new-channel.ensures.unmarked
    (c.new.ensures.line ∙ ap (λ (x : LineChanView). x.line) inv.channel) c.new.ensures.none
    (c.new.ensures.seen ∙ ap (λ (x : LineChanView). x.held.logged.log) inv.channel)
    (c.new.ensures.marks ∙ ap (λ (x : LineChanView). x.marks) inv.channel)
    (c.new.ensures.known ∙ ap (λ (x : LineChanView). x.held.logged) inv.channel) in
    let long = ap length inv.seats ∙ mapped_long _ c.args.seats.now.items c.loop-at.at in
    let below : c.loop-at.at < length c.args.seats.now.items = search rules in
    let next : suc c.loop-at.at ≡ c.loop-at.at + 1 = omega arith in
    record {
      channel = c.new.ensures.same ∙ inv.channel;
      ledgers = c.cut.ensures.same ∙ inv.ledgers;
      parts = omega (arith, c.cut.ensures.left.0, inv.parts);
      none = (c.cut.ensures.left.1, c.cut.ensures.left.2);
      seats = ap (λ (all : List (List SeatShareView)). slice_set all c.loop-at.at c.add.new.self) inv.seats
          ∙ mapped_more (λ shares. shares ++ fresh_share channel.line ∷ []) c.args.seats.now.items c.loop-at.at
          c.index_mut.result.now c.add.new.self below
          (c.in_ok-add.ensures ∙ ap (λ (s : SeatShareView). c.index_mut.result.now ++ s ∷ []) share
          ∙ ap (λ (l : List SeatShareView). l ++ fresh_share channel.line ∷ [])
          (c.index_mut.ensures.value
          ∙ ap (λ (all : List (List SeatShareView)). slice_index_or all c.loop-at.at c.index_mut.result.now) inv.seats))
          ∙ ap (λ n. mapped (λ shares. shares ++ fresh_share channel.line ∷ []) n c.args.seats.now.items) next;
    }

pub returns-clause-seats : goal.returns-clause-seats
returns-clause-seats g c =
    let inv = c.loop-at.invariant in
    let all : length c.args.seats.now.items ≤ c.loop-at.at = search rules in
    if_ok_then c.into_lock.result _ _ (λ lock same. inv.seats
    ∙ mapped_all (λ shares. shares ++ fresh_share c.new-channel.result.0.line ∷ []) c.args.seats.now.items
    c.loop-at.at all
    ∙ ap (λ (line : LineId). map
    (λ (shares : List SeatShareView). shares ++ fresh_share line ∷ []) c.args.seats.now.items)
    (sym (same ∙ ap (λ (x : LineChanView). x.line) inv.channel))) c.into_lock.ensures
