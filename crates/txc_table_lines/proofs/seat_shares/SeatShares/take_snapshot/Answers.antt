use Rattle.std.proofs.Common.{subst, List}
use Rattle.txc_table_line.specs.SeatShare.{SeatShareView}
use Rattle.txc_table_lines.specs.Lines.{OnlyGrew}
use Rattle.txc_table_lines.proofs.seat_shares.SeatShares.take_snapshot.Goals as goal

pub returns-clause-grew : goal.returns-clause-grew
returns-clause-grew g c =
    subst (λ (before : List SeatShareView). OnlyGrew before c.take_snapshot_of.new.self) c.take_line-line.ensures.same
    c.take_snapshot_of.ensures.grew
