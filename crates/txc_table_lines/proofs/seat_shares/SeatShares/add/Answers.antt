use Rattle.std.proofs.Common.{sym, subst}
use Rattle.txc_table_lines.specs.Lines.{AreValidShares}
use Rattle.txc_table_lines.proofs.Sharing.{true_push}
use Rattle.txc_table_lines.proofs.seat_shares.SeatShares.add.Goals as goal

pub invariant_of-self-2 : goal.invariant_of-self-2
invariant_of-self-2 g c = subst AreValidShares (sym c.in_ok-push.ensures.items)
    (true_push c.self.inside.shares.items c.args.share c.self.invariant c.show.ensures)
