-- A broadcast list may go to any thread, and any thread may read its shelf.
use denote.Param.Send.{IsSend, IsSync, sendable}
use Rattle.std.proofs.Crossing.{crosses}
use Rattle.boxcar.proofs.Sent.{slot_send, slot_sync, tag_send, tag_sync, written_send}
use Rattle.txc_cast.specs.contracts.cast.Cast as cast
use Rattle.txc_cast.specs.contracts.shelf.Shelf as shelf

pub cast_sends : IsSend cast.the_row
cast_sends = search (crosses, sendable, slot_send, slot_sync, tag_send, tag_sync, written_send) depth 40

pub shelf_syncs : IsSync shelf.the_row
shelf_syncs = search (crosses, sendable, slot_send, slot_sync, tag_send, tag_sync) depth 40
