-- The numbers of the stops.
use Rattle.std.specs.Prelude.{ℕ}
use Rattle.txc_base.specs.declared.stop.Stop.{Stop}
use Rattle.txc_base.specs.declared.stop.Stop.TheVariants.{NoReader, NothingRead, TooManyReaders, Worn, NoMemory}

-- the number of a stop
abbrev pub stop_code : Stop → ℕ
stop_code NoReader = 1
stop_code NothingRead = 2
stop_code TooManyReaders = 3
stop_code Worn = 4
stop_code NoMemory = 5
