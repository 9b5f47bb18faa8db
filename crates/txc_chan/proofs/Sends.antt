-- A channel may go to any thread, where what its log is kept in may.
use denote.RattleType.{RattleType}
use denote.Param.Send.{IsSend, recorded_send, sendable, struct_send, view_send}
use denote.Struct.Declared.{shape}
use Rattle.std.specs.contracts.alloc.Global as heap
use Rattle.std.specs.contracts.impls.GlobalAllocator.TheImpl.{ghosts}
use Rattle.std.specs.contracts.vec.Vec as vec
use Rattle.std.proofs.Crossing.{crosses, Vec-send}
use Rattle.txc_base.specs.contracts.entry.Entry as entry
use Rattle.txc_base.specs.contracts.item.Item as item
use Rattle.txc_queue.specs.contracts.bound_queue.BoundQueue as bound_queue
use Rattle.txc_queue.specs.contracts.pair_queue.PairQueue as pair_queue
use Rattle.txc_cast.proofs.Sends.{cast_sends}
use Rattle.txc_queue_fanout.specs.contracts.fanout.Fanout as fanout
use Rattle.txc_chan.specs.contracts.body.Body as body
use Rattle.txc_chan.specs.contracts.chan.Chan as chan
use Rattle.txc_chan.specs.contracts.full_log.FullLog as kept
use Rattle.txc_chan.specs.contracts.ghost_log.GhostLog as ghost_log
use Rattle.txc_chan.specs.declared.log.Log as keep

item_sends : IsSend item.the_row
item_sends = search sendable depth 20

entry_sends : IsSend entry.the_row
entry_sends = search sendable depth 20

entries_send : IsSend (vec.the_row entry.the_row heap.the_row ghosts)
entries_send = Vec-send entry.the_row entry_sends

pair_queue_sends : IsSend pair_queue.the_row
pair_queue_sends = search (item_sends, crosses, sendable) depth 20

bound_queue_sends : IsSend bound_queue.the_row
bound_queue_sends = search (pair_queue_sends, sendable) depth 20

fanout_sends : IsSend fanout.the_row
fanout_sends = search (pair_queue_sends, crosses, sendable) depth 20

body_sends : IsSend body.the_field.row
body_sends = search (cast_sends, fanout_sends, pair_queue_sends, bound_queue_sends, sendable) depth 20

pub chan_sends : (K : RattleType) (log : keep.Ghosts K.Denot) → IsSend K → IsSend (chan.the_row K log)
chan_sends K log sends =
    view_send _ _ _ _ _
    (recorded_send (chan.TheInside.the_field K log).row _ _ (chan.TheInside.the_type K log).to_one
    (struct_send (shape (chan.TheInside.the_type K log)) (
      search sendable,
      (search sendable, (search sendable, (sends, (body_sends, (search sendable depth 20, (search sendable, tt)))))),
    )))

pub kept_sends : IsSend kept.the_row
kept_sends = search (entries_send, sendable) depth 20

pub ghost_log_sends : IsSend ghost_log.the_row
ghost_log_sends = search (entries_send, crosses, sendable) depth 20
