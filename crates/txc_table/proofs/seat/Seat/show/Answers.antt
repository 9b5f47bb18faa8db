use Rattle.std.proofs.Common.{subst}
use Rattle.txc_txn_history.specs.Events.{events_of}
use Rattle.txc_table_seat.specs.Seated.{SeatCommits}
use Rattle.txc_table_lines.specs.Lines.{line_ids}
use Rattle.txc_table.specs.Seat.{AllPlaced, ArePlacedEvents, SeatView, seen_marks}
use Rattle.txc_table.specs.Table.{line_decls}
use Rattle.txc_table.proofs.Views.{seen_by, stand_by}
use Rattle.txc_table.proofs.seat.Seat.show.Goals as goal

pub returns-clause-stand : goal.returns-clause-stand
returns-clause-stand g c = stand_by c.self.inside.access.shares c.self.inside.history.commits c.args.self.now c.self.view_is
    c.self.invariant

pub returns-clause-placed : goal.returns-clause-placed
returns-clause-placed g c =
    let commits : SeatCommits = c.self.inside.history.commits in
    subst (λ (s : SeatView). AllPlaced s) c.self.view_is (
      seen_marks c.self.inside.access.shares,
      seen_by (λ logs. ArePlacedEvents (line_decls (line_ids c.self.inside.access.shares)) logs
          (seen_marks c.self.inside.access.shares)
          (events_of commits.number 0 commits.plans commits.receipts)) c.self.inside.access.shares c.self.invariant.placed,
    )
