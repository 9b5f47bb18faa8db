use Rattle.std.proofs.Common.{rules, refl, ◌≡◌, ◌∙◌, ◌<◌, ap, arith, length}
use Rattle.txc_table_line.specs.SeatShare.{SeatShareView}
use Rattle.txc_table_lines.specs.Lines.{line_ids, no_share}
use Rattle.txc_table_lines.proofs.Sharing.{indexed, lines_set}
use Rattle.txc_table_lines.proofs.seat_shares.SeatShares.settle_line.Goals as goal

pub returns-clause-lines : goal.returns-clause-lines
returns-clause-lines g c =
    let at : c.from.result ≡ c.args.number = search rules in
    let below : c.from.result < length c.self.inside.shares.items =
    omega (arith, at, c.requires.there, ap length c.self.view_is) in
    lines_set c.self.inside.shares.items c.from.result c.settle.new.share below
    (c.settle.ensures.line.1 ∙ ap (λ (s : SeatShareView). s.line)
    (indexed _ _ _ _ _ no_share refl refl below c.index_mut-share.ensures.value))
    ∙ ap line_ids c.self.view_is
