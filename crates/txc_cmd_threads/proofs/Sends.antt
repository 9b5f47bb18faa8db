-- A job may go to any thread, and a seat that has left, with its end, too.
use denote.RattleType.{RattleType}
use denote.Param.Send.{IsSend, IsSync, recorded_send, sendable, struct_send}
use denote.Ref.{NamedLft}
use denote.Struct.Declared.{shape}
use Rattle.std.proofs.Crossing.{crosses}
use Rattle.txc_chan.proofs.Sends.{kept_sends}
use Rattle.txc_chan.specs.contracts.full_log.FullLog as kept
use Rattle.txc_chan.specs.contracts.full_log.FullLogLog.TheImpl as kept_log
use Rattle.txc_txn_check.specs.contracts.checked.Checked as checked
use Rattle.txc_table_seat.proofs.Sends.{each_sends}
use Rattle.txc_table_seat.specs.contracts.all_receipts.AllReceipts as each
use Rattle.txc_table_seat.specs.contracts.all_receipts.AllReceiptsReceipts.TheImpl as each_receipts
use Rattle.txc_table.proofs.Sends as core
use Rattle.txc_table.specs.contracts.departed_seat.DepartedSeat as left
use Rattle.txc_table.specs.contracts.seat.Seat as seat
use Rattle.txc_table.specs.contracts.table.Table as table
use Rattle.txc_cmd_threads.specs.contracts.job.Job as job

table_syncs : IsSync (table.the_row kept.the_row kept_log.ghosts)
table_syncs = core.table_syncs kept.the_row kept_log.ghosts kept_sends

seat_sends : IsSend (seat.the_row kept.the_row each.the_row kept_log.ghosts each_receipts.ghosts)
seat_sends = core.seat_sends kept.the_row kept_log.ghosts kept_sends each.the_row each_receipts.ghosts each_sends

pub left_sends : IsSend (left.the_row kept.the_row each.the_row kept_log.ghosts each_receipts.ghosts)
left_sends = core.left_sends kept.the_row kept_log.ghosts kept_sends each.the_row each_receipts.ghosts each_sends

pub job_sends : (κ : NamedLft) (R G : RattleType) → IsSync checked.the_row → IsSync R → IsSend G
    → IsSend (job.the_row κ R G)
job_sends κ R G plans handle gate =
    let shared = table_syncs in
    let own = seat_sends in
    recorded_send (job.the_field κ R G).row _ _ (job.the_type κ R G).to_one
    (struct_send (shape (job.the_type κ R G)) (
      search (crosses, sendable) depth 20,
      (
        search sendable depth 20,
        (
          search (crosses, sendable) depth 20,
          (search sendable depth 20, (search (crosses, sendable) depth 20, (search sendable depth 20, tt))),
        ),
      ),
    ))
