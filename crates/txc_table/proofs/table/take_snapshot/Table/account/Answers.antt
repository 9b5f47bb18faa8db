use Rattle.txc_table.specs.Seat.{seen_at}
use Rattle.txc_table.specs.Table.{decls_of}
use Rattle.txc_table.proofs.Standing.{account_to}
use Rattle.txc_table.proofs.Views.{stand_by}
use Rattle.txc_table.proofs.table.take_snapshot.Table.account.Goals as goal

pub returns-clause-ok : goal.returns-clause-ok
returns-clause-ok g c = account_to c.args.seat.now (decls_of c.args.self.now.lines) c.args.chan
    (seen_at c.take_snapshot.new.seat c.args.chan) c.take_snapshot.result
    (stand_by c.seat.inside.access.shares c.seat.inside.history.commits c.args.seat.now c.seat.view_is c.seat.invariant)
    (c.take_snapshot.ensures.grew c.args.chan) c.take_snapshot.ensures.ok
