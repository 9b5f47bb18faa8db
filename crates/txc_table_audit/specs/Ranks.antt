-- The name of an event.
use Rattle.txc_table_audit.specs.declared.ranked.Ranked.{Ranked}
use Rattle.txc_txn_history.specs.Events.{Event}

-- the seat and the serial of an event
abbrev pub rank_of : Event → Ranked
rank_of event = record { seat = event.seat; serial = event.receipt.tag.serial }
