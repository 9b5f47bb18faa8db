use Rattle.std.proofs.Common.{subst}
use Rattle.txc_table_lines.specs.Lines.{AreValidShares}
use Rattle.txc_table_lines.proofs.seat_shares.SeatShares.show.Goals as goal

pub returns : goal.returns
returns g c = subst AreValidShares c.self.view_is c.self.invariant
