use Rattle.std.proofs.Common.{rules, ◌≡◌, ◌<◌, ◌∙◌, sym, ap, length, arith}
use Rattle.txc_table_line.specs.SeatShare.{SeatShareView}
use Rattle.txc_table_lines.specs.Lines.{no_share}
use Rattle.txc_table_lines.proofs.Sharing.{indexed, same_line, same_long}
use Rattle.txc_table_lines.proofs.seat_shares.SeatShares.show_order.Goals as goal

pub show_order-requires : goal.show_order-requires
show_order-requires g c =
    let at : c.from-chan.result ≡ c.args.chan = search rules in
    let long = same_long c.args.other.now c.args.self.now c.requires.of in
    let below : c.args.chan < length c.args.other.now = omega (arith, c.requires.there, long) in
    let one = indexed _ _ _ _ _ no_share c.self.view_is at c.requires.there c.index.ensures in
    let other = indexed _ _ _ _ _ no_share c.other.view_is at below c.index-2.ensures in
    ap (λ (s : SeatShareView). s.line) other ∙ same_line c.args.other.now c.args.self.now c.args.chan c.requires.of
    ∙ sym (ap (λ (s : SeatShareView). s.line) one)
