-- What a seat has of the lines may go to any thread, and any thread may share the lines.
use denote.RattleType.{RattleType}
use denote.Param.Send.{IsSend, IsSync, recorded_send, recorded_sync, struct_send, struct_sync, view_send, view_sync}
use denote.Struct.Declared.{shape}
use Rattle.std.proofs.Crossing.{Vec-send, Vec-sync}
use Rattle.txc_chan.specs.declared.log.Log as keep
use Rattle.txc_table_line.proofs.Sends.{line_lock_syncs, seat_share_sends}
use Rattle.txc_table_lines.specs.contracts.lines.Lines as lines
use Rattle.txc_table_lines.specs.contracts.seat_shares.SeatShares as seat_shares

pub seat_shares_send : (K : RattleType) (log : keep.Ghosts K.Denot) → IsSend (seat_shares.the_row K log)
seat_shares_send K log =
    view_send _ _ _ _ _
    (recorded_send (seat_shares.TheInside.the_field K log).row _ _ (seat_shares.TheInside.the_type K log).to_one
    (struct_send (shape (seat_shares.TheInside.the_type K log)) (Vec-send _ (seat_share_sends K log), tt)))

pub lines_sync : (K : RattleType) (log : keep.Ghosts K.Denot) → IsSend K → IsSync (lines.the_row K log)
lines_sync K log log_sends =
    view_sync _ _ _ _ _
    (recorded_sync (lines.TheInside.the_field K log).row _ _ (lines.TheInside.the_type K log).to_one
    (struct_sync (shape (lines.TheInside.the_type K log)) (Vec-sync _ (line_lock_syncs K log log_sends), tt)))
