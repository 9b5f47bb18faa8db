-- The errors of a broadcast list.
use Rattle.std.specs.Prelude.{ℕ, Option, Some, None, Result, Ok, Err}
use Rattle.txc_cast.specs.declared.fault.CastFault.{CastFault}
use Rattle.txc_cast.specs.declared.fault.CastFault.TheVariants.{NoReader, TooManyReaders, NoMemory}

-- the number of an error
abbrev pub cast_fault_code : CastFault → ℕ
cast_fault_code NoReader = 1
cast_fault_code TooManyReaders = 2
cast_fault_code NoMemory = 3

-- the error, unless it is `NoMemory`
abbrev pub named : CastFault → Option CastFault
named NoReader = Some NoReader
named TooManyReaders = Some TooManyReaders
named NoMemory = None

-- why a call failed, unless it was `NoMemory`
abbrev pub refused : {A : Type 0} → Result A CastFault → Option CastFault
refused (Ok answer) = None
refused (Err fault) = named fault
