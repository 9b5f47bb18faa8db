-- What a seat has of a line may go to any thread, and any thread may share the lock of a line.
use denote.RattleType.{RattleType}
use denote.Param.Send.{IsSend, IsSync, recorded_send, sendable, struct_send, view_send}
use denote.Struct.Declared.{shape}
use Rattle.std.specs.contracts.snapshot.Snapshot as snapshot
use Rattle.std.proofs.Crossing.{crosses}
use Rattle.txc_base.specs.contracts.entry.Entry as entry
use Rattle.txc_chan.specs.declared.log.Log as keep
use Rattle.txc_chan.proofs.Sends.{chan_sends}
use Rattle.txc_base_ghost.proofs.list_auth.ListAuth.TheSendSync as past
use Rattle.txc_base_ghost.proofs.list_prefix.ListPrefix.TheSendSync as seen
use Rattle.txc_table_lock.specs.contracts.lock.Lock as lock
use Rattle.txc_table_lock.proofs.Sends.{lock_syncs}
use Rattle.txc_base_ledger.proofs.ledger.Ledger.TheSendSync as ledger
use Rattle.txc_base_ledger.proofs.share.Share.TheSendSync as share
use Rattle.txc_table_line.specs.contracts.ledger_shares.LedgerShares as ledger_shares
use Rattle.txc_table_line.specs.contracts.line_chan.LineChan as line_chan
use Rattle.txc_table_line.specs.contracts.line_lock.LineInvariant as of_line
use Rattle.txc_table_line.specs.contracts.line_lock.LineInvariantLockInvariantLineChanSnapshotLineChan.TheImpl as holds
use Rattle.txc_table_line.specs.contracts.mark.Mark as mark
use Rattle.txc_table_line.specs.contracts.seat_share.SeatShare as seat_share

ledger_shares_send : IsSend ledger_shares.the_row
ledger_shares_send =
    view_send _ _ _ _ _
    (recorded_send ledger_shares.TheInside.the_field.row _ _ ledger_shares.TheInside.the_type.to_one
    (struct_send (shape ledger_shares.TheInside.the_type) (share.the_send, (share.the_send, tt))))

line_chan_sends : (K : RattleType) (log : keep.Ghosts K.Denot) → IsSend K → IsSend (line_chan.the_row K log)
line_chan_sends K log log_sends =
    view_send _ _ _ _ _
    (recorded_send (line_chan.TheInside.the_field K log).row _ _ (line_chan.TheInside.the_type K log).to_one
    (struct_send (shape (line_chan.TheInside.the_type K log)) (
      chan_sends K log log_sends,
      (
        ledger.the_send,
        (
          past.the_send entry.the_row,
          (ledger.the_send, (past.the_send mark.the_row, (ledger_shares_send, (search sendable, tt)))),
        ),
      ),
    )))

pub seat_share_sends : (K : RattleType) (log : keep.Ghosts K.Denot) → IsSend (seat_share.the_row K log)
seat_share_sends K log =
    view_send _ _ _ _ _
    (recorded_send (seat_share.TheInside.the_field K log).row _ _ (seat_share.TheInside.the_type K log).to_one
    (struct_send (shape (seat_share.TheInside.the_type K log)) (
      ledger_shares_send,
      (search (crosses, sendable), (seen.the_send entry.the_row, (seen.the_send mark.the_row, tt))),
    )))

pub line_lock_syncs : (K : RattleType) (log : keep.Ghosts K.Denot) → IsSend K
    → IsSync (lock.the_row (line_chan.the_row K log) (snapshot.the_row (line_chan.the_row K log)) of_line.the_row
    (holds.ghosts K log holds.no_dict holds.no_dict))
line_lock_syncs K log log_sends =
    lock_syncs (line_chan.the_row K log) (snapshot.the_row (line_chan.the_row K log)) of_line.the_row
    (holds.ghosts K log holds.no_dict holds.no_dict) (line_chan_sends K log log_sends)
