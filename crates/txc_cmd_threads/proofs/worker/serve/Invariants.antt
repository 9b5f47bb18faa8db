use Rattle.std.proofs.Common.{◌≡◌, drop}
use Rattle.txc_table_seat.specs.Seated.{SeatCommits}
use Rattle.txc_cmd_report.specs.declared.seat_end.SeatEnd.{SeatEnd}
use Rattle.txc_table.specs.Table.{decls_of}
use Rattle.txc_cmd_threads.specs.Serves.{Serves}
use Rattle.txc_cmd_threads.proofs.worker.serve.Given as goal

abbrev pub invariant-loop-plan : goal.invariant-loop-plan
invariant-loop-plan g l = (l.seat.lines ≡ l.initial.seat.lines) × ((after : SeatCommits) (end : SeatEnd)
    → Serves (decls_of l.table.lines) (drop l.plan-index l.plans) l.seat.commits after end
    → Serves (decls_of l.table.lines) l.plans l.initial.seat.commits after end)
