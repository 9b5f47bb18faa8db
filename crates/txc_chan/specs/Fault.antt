-- The numbers of the faults.
use Rattle.std.specs.Prelude.{ℕ}
use Rattle.txc_chan.specs.declared.fault.ChanFault.{ChanFault}
use Rattle.txc_chan.specs.declared.fault.ChanFault.TheVariants.{BoundTooLarge, TooManyReaders, NoMemory}

-- the number of a fault
abbrev pub chan_fault_code : ChanFault → ℕ
chan_fault_code BoundTooLarge = 1
chan_fault_code TooManyReaders = 2
chan_fault_code NoMemory = 3
