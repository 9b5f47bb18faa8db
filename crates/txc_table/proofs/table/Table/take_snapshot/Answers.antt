use Rattle.std.proofs.Common.{subst}
use Rattle.txc_table.specs.Seat.{SeatView, SeesMore, log_at, seen_at, seen_in}
use Rattle.txc_table.proofs.Standing.{seated_on, snapshot_by}
use Rattle.txc_table.proofs.Views.{sees_by}
use Rattle.txc_table.proofs.table.Table.take_snapshot.Goals as goal

pub invariant_of-seat : goal.invariant_of-seat
invariant_of-seat g c = seated_on c.seat.inside.access.shares c.take_snapshot.new.self c.seat.inside.history.commits
    c.seat.invariant
    c.take_snapshot.ensures.grew c.take_snapshot.ensures.rest c.take_snapshot.ensures.lines

pub returns-clause-ok : goal.returns-clause-ok
returns-clause-ok g c = snapshot_by g.T.SnapshotKind.snapshot_of c.seat.inside.access.shares c.take_snapshot.new.self
    c.seat.inside.history.commits
    c.args.seat.now c.args.self.now.lines c.args.chan c.take_snapshot.result c.seat.view_is c.requires.of
    c.seat.invariant
    c.take_snapshot.ensures.ok

pub returns-clause-grew : goal.returns-clause-grew
returns-clause-grew g c =
    subst (λ (s : SeatView). SeesMore (seen_at s) (log_at (seen_in c.take_snapshot.new.self))) c.seat.view_is
    (sees_by c.seat.inside.access.shares c.take_snapshot.new.self c.take_snapshot.ensures.grew)
