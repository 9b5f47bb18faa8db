-- A job may go to any thread.
use denote.RattleType.{RattleType}
use denote.Param.Send.{IsSend, IsSync, recorded_send, sendable, struct_send}
use denote.Ref.{NamedLft}
use denote.Struct.Declared.{shape}
use Rattle.std.proofs.Crossing.{crosses}
use Rattle.txc_chan.specs.declared.log.Log as keep
use Rattle.txc_table_seat.specs.declared.receipts.Receipts as receipts
use Rattle.txc_table.proofs.Sends.{seat_sends, table_syncs}
use Rattle.yalwythen_work.specs.contracts.job.Job as job

pub job_sends : (K : RattleType) (log : keep.Ghosts K.Denot) → IsSend K → (κ : NamedLft) (R W Q S : RattleType)
    (receipts : receipts.Ghosts S.Denot) → IsSync R → IsSend W → IsSend Q → IsSend S
    → IsSend (job.the_row κ R K W Q S receipts log)
job_sends K log log_sends κ R W Q S receipts handle worker role receipts_send =
    let shared = table_syncs K log log_sends in
    let own = seat_sends K log log_sends S receipts receipts_send in
    recorded_send (job.the_field κ R K W Q S receipts log).row _ _ (job.the_type κ R K W Q S receipts log).to_one
    (struct_send (shape (job.the_type κ R K W Q S receipts log)) (
      search (crosses, sendable) depth 20,
      (
        search sendable depth 20,
        (
          search (crosses, sendable) depth 20,
          (search sendable depth 20, (search sendable depth 20, (search sendable depth 20, tt))),
        ),
      ),
    ))
