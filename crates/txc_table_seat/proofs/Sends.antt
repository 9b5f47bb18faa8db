-- What a seat has done may go to any thread.
use denote.RattleType.{RattleType}
use denote.Param.Send.{IsSend, recorded_send, sendable, struct_send, view_send}
use denote.Struct.Declared.{shape}
use Rattle.std.specs.contracts.alloc.Global as heap
use Rattle.std.specs.contracts.impls.GlobalAllocator.TheImpl.{ghosts}
use Rattle.std.specs.contracts.vec.Vec as vec
use Rattle.std.proofs.Crossing.{crosses, Vec-send}
use Rattle.txc_base.specs.contracts.item.Item as item
use Rattle.txc_base.specs.contracts.list.List as list
use Rattle.txc_base.specs.contracts.reply.Reply as reply
use Rattle.txc_txn.specs.contracts.deed.Deed as deed
use Rattle.txc_txn.specs.contracts.receipt.Receipt as receipt
use Rattle.txc_table_seat.specs.contracts.all_receipts.AllReceipts as each
use Rattle.txc_table_seat.specs.contracts.history.History as history
use Rattle.txc_table_seat.specs.contracts.last_receipt.LastReceipt as last
use Rattle.txc_table_seat.specs.contracts.tally.Tally as tally
use Rattle.txc_table_seat.specs.declared.receipts.Receipts as receipts

list_sends : (T : RattleType) → IsSend T → IsSend (list.the_row T)
list_sends T s = search (crosses, sendable) depth 20

item_sends : IsSend item.the_row
item_sends = search sendable depth 20

reply_sends : IsSend reply.the_row
reply_sends =
    let items = list_sends item.the_row item_sends in
    search sendable depth 20

deed_sends : IsSend deed.the_row
deed_sends = search sendable depth 20

receipt_sends : IsSend receipt.the_row
receipt_sends =
    let replies = list_sends reply.the_row reply_sends in
    let deeds = list_sends deed.the_row deed_sends in
    search sendable depth 20

-- a receipt that is a field may go to any thread
pub receipt_field_sends : IsSend receipt.the_field.row
receipt_field_sends =
    let replies = list_sends reply.the_row reply_sends in
    let deeds = list_sends deed.the_row deed_sends in
    search sendable depth 20

receipts_send : IsSend (vec.the_row receipt.the_row heap.the_row ghosts)
receipts_send = Vec-send receipt.the_row receipt_sends

tally_sends : IsSend tally.the_row
tally_sends = search sendable depth 20

tallies_send : IsSend (vec.the_row tally.the_row heap.the_row ghosts)
tallies_send = Vec-send tally.the_row tally_sends

-- receipts that are kept each, and the last one alone
pub each_sends : IsSend each.the_row
each_sends = search (receipts_send, sendable) depth 20

pub last_sends : IsSend last.the_row
last_sends = search (receipt_field_sends, crosses, sendable) depth 30

pub history_sends : (S : RattleType) (receipts : receipts.Ghosts S.Denot) → IsSend S
    → IsSend (history.the_row S receipts)
history_sends S receipts sends =
    view_send _ _ _ _ _
    (recorded_send (history.TheInside.the_field S receipts).row _ _ (history.TheInside.the_type S receipts).to_one
    (struct_send (shape (history.TheInside.the_type S receipts)) (
      search sendable,
      (
        sends,
        (
          search sendable,
          (
            search (tallies_send, sendable) depth 20,
            (
              search (crosses, sendable) depth 30,
              tt,
            ),
          ),
        ),
      ),
    )))
