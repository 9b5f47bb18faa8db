use Rattle.std.proofs.Common.{rules, refl, ◌≡◌, ◌∙◌, ◌<◌, ap, arith, length}
use Rattle.txc_base.specs.Op.{chan_of}
use Rattle.txc_table_line.specs.SeatShare.{SeatShareView}
use Rattle.txc_table_lines.specs.Lines.{line_ids, no_share}
use Rattle.txc_table_lines.proofs.Sharing.{indexed, lines_set, true_set}
use Rattle.txc_table_lines.proofs.seat_shares.SeatShares.commit_op.Goals as goal

pub invariant_of-self : goal.invariant_of-self
invariant_of-self g c =
    let at : c.from.result ≡ chan_of c.args.op.now = search rules in
    let below : c.from.result < length c.self.inside.shares.items =
    omega (arith, at, c.requires.there, ap length c.self.view_is) in
    true_set c.self.inside.shares.items c.from.result c.commit-found.new.share c.self.invariant below c.show.ensures

pub returns-clause-lines : goal.returns-clause-lines
returns-clause-lines g c =
    let at : c.from.result ≡ chan_of c.args.op.now = search rules in
    let below : c.from.result < length c.self.inside.shares.items =
    omega (arith, at, c.requires.there, ap length c.self.view_is) in
    lines_set c.self.inside.shares.items c.from.result c.commit-found.new.share below
    (c.commit-found.ensures.line.1 ∙ ap (λ (s : SeatShareView). s.line)
    (indexed _ _ _ _ _ no_share refl refl below c.index_mut-share.ensures.value))
    ∙ ap line_ids c.self.view_is
