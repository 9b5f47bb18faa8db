use Rattle.std.proofs.Common.{◌≡◌, drop, slice_index_or}
use Rattle.txc_table.specs.IdleTableView.{OthersStay}
use Rattle.txc_cmd_report.specs.declared.seat_end.SeatEnd.{SeatEnd}
use Rattle.txc_table_seat.specs.Seated.{SeatCommits, no_commits}
use Rattle.txc_table.specs.Table.{decls_of}
use Rattle.txc_table.specs.Seat.{DepartedSeatView}
use Rattle.txc_cmd_threads.specs.Serves.{Serves}
use Rattle.txc_cmd_threads.proofs.final_tries.resume.Given as goal

abbrev pub invariant-loop-next : goal.invariant-loop-next
invariant-loop-next g l = (l.idle.table ≡ l.fn.idle.table) × OthersStay l.at l.fn.idle.left l.idle.left
    × ((d : DepartedSeatView) (after : SeatCommits) (end : SeatEnd)
    → Serves (decls_of l.fn.idle.table.lines) (drop l.next l.plans)
    (slice_index_or l.idle.left l.at d).commits after end
    → Serves (decls_of l.fn.idle.table.lines) l.plans (no_commits l.at) after end)
