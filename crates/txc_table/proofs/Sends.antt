-- A seat may go to any thread, and any thread may share a table.
use denote.RattleType.{RattleType}
use denote.Param.Send.{IsSend, IsSync, recorded_send, recorded_sync, sendable, struct_send, struct_sync, view_send}
use denote.Param.Send.{view_sync}
use denote.Struct.Declared.{shape}
use Rattle.std.specs.contracts.option.Option as option
use Rattle.std.proofs.Crossing.{crosses, Vec-sync}
use Rattle.txc_table_wait.specs.contracts.parker.Parker as alarm
use Rattle.txc_table_wait.specs.contracts.wait_queue.WaitQueue as wait_queue
use Rattle.txc_table_wait.specs.contracts.interested_seats.InterestedSeats as words
use Rattle.txc_cast.specs.contracts.shelf.Shelf as shelf
use Rattle.txc_cast.proofs.Sends.{shelf_syncs}
use Rattle.txc_chan.specs.declared.log.Log as keep
use Rattle.txc_base_ledger.proofs.share.Share.TheSendSync as share
use Rattle.txc_table_seat.proofs.Sends.{history_sends, receipt_field_sends}
use Rattle.txc_table_seat.specs.declared.receipts.Receipts as receipts
use Rattle.txc_table_lines.proofs.Sends.{lines_sync, seat_shares_send}
use Rattle.txc_table.specs.contracts.departed_seat.DepartedSeat as left
use Rattle.txc_table.specs.contracts.line_access.LineAccess as access
use Rattle.txc_table.specs.contracts.table_seats.TableSeats as table_seats
use Rattle.txc_table.specs.contracts.seat.Seat as seat
use Rattle.txc_table.specs.contracts.shelves.Shelves as shelves
use Rattle.txc_table.specs.contracts.table.Table as table

bell_syncs : IsSync wait_queue.the_row
bell_syncs =
    view_sync _ _ _ _ _
    (recorded_sync wait_queue.TheInside.the_field.row _ _ wait_queue.TheInside.the_type.to_one
    (struct_sync (shape wait_queue.TheInside.the_type) (
      Vec-sync words.the_row (search (crosses, sendable) depth 40),
      (
        Vec-sync alarm.the_row (search (crosses, sendable) depth 40),
        (search (crosses, sendable) depth 40, tt),
      ),
    )))

members_sync : IsSync table_seats.the_row
members_sync =
    view_sync _ _ _ _ _
    (recorded_sync table_seats.TheInside.the_field.row _ _ table_seats.TheInside.the_type.to_one
    (struct_sync (shape table_seats.TheInside.the_type) (search sendable, (search crosses, tt))))

module _ (K : RattleType) (log : keep.Ghosts K.Denot) (log_sends : IsSend K) where
  shelves_sync : IsSync (shelves.the_row K log)
  shelves_sync =
      view_sync _ _ _ _ _
      (recorded_sync (shelves.TheInside.the_field K log).row _ _ (shelves.TheInside.the_type K log).to_one
      (struct_sync (shape (shelves.TheInside.the_type K log))
      (Vec-sync (option.the_row shelf.the_row) (search (shelf_syncs, sendable) depth 20), (search crosses, tt))))

  access_sends : IsSend (access.the_field K log).row
  access_sends =
      let shares = seat_shares_send K log in
      search sendable depth 20

  module _ (S : RattleType) (receipts : receipts.Ghosts S.Denot) (receipts_send : IsSend S) where
    -- a seat may go to any thread
    pub seat_sends : IsSend (seat.the_row K S log receipts)
    seat_sends =
        view_send _ _ _ _ _
        (recorded_send (seat.TheInside.the_field K S log receipts).row _ _
        (seat.TheInside.the_type K S log receipts).to_one
        (struct_send (shape (seat.TheInside.the_type K S log receipts)) (
          history_sends S receipts receipts_send,
          (
            access_sends,
            (share.the_send, (search (receipt_field_sends, crosses, sendable) depth 30, tt)),
          ),
        )))

    -- a seat that has left may go to any thread
    pub left_sends : IsSend (left.the_row K S log receipts)
    left_sends =
        view_send _ _ _ _ _
        (recorded_send (left.TheInside.the_field K S log receipts).row _ _
        (left.TheInside.the_type K S log receipts).to_one
        (struct_send (shape (left.TheInside.the_type K S log receipts)) (
          history_sends S receipts receipts_send,
          (seat_shares_send K log, (search sendable depth 20, (share.the_send, tt))),
        )))

  -- any thread may share a table
  pub table_syncs : IsSync (table.the_row K log)
  table_syncs =
      view_sync _ _ _ _ _
      (recorded_sync (table.TheInside.the_field K log).row _ _ (table.TheInside.the_type K log).to_one
      (struct_sync (shape (table.TheInside.the_type K log)) (
        lines_sync K log log_sends,
        (shelves_sync, (search (crosses, sendable) depth 20, (members_sync, (bell_syncs, tt)))),
      )))
