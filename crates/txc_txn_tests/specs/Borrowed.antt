-- Two channels that were borrowed, for a test.
use Rattle.std.specs.Prelude.{nat_eq, if◌then◌else◌}
use Rattle.txc_chan.specs.ChanView.{ChanView}
use Rattle.txc_txn.specs.Maps.{Map}
use Rattle.txc_txn.specs.Plain.{missing}

-- channels 0 and 1
abbrev pub two_in : ChanView → ChanView → Map
two_in first second = λ n. if nat_eq n 0 then first.logged else if nat_eq n 1 then second.logged else missing.logged
