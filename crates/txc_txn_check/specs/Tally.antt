-- What a walk has seen.
use Rattle.txc_txn_check.specs.declared.walk.Seen.{Seen}
use Rattle.txc_txn_check.specs.Walk.{Tally}

-- the operations and channels that were seen
abbrev pub tally_of : Seen → Tally
tally_of seen = record { operations = seen.operations; channels = seen.channels.items }
