-- Which tables can be made.
use Rattle.std.specs.Prelude.{ℕ, ◌||◌, nat_lt, nat_eq, Option, Some, None, option_map, List, length, if◌then◌else◌}
use Rattle.txc_base.specs.declared.limits.TheConstants.{MAX_CHANNELS, MAX_CHANNELS_OF_LARGE}
use Rattle.txc_base.specs.declared.limits.TheConstants.{MAX_SEATS, MAX_SEATS_OF_LARGE}
use Rattle.txc_chan.specs.declared.decl.Decl.{Decl}
use Rattle.txc_chan.specs.declared.fault.ChanFault.{ChanFault}
use Rattle.txc_chan.specs.declared.fault.ChanFault.TheVariants as chan
use Rattle.txc_chan.specs.Limits.{first_fault}
use Rattle.txc_table_report.specs.declared.fault.TableFault.{TableFault}
use Rattle.txc_table_report.specs.declared.fault.TableFault.TheVariants.{TooManyChannels, BadSeatCount, BoundTooLarge}
use Rattle.txc_table_report.specs.declared.fault.TableFault.TheVariants.{TooManyReaders, NoMemory}
use Rattle.txc_table_report.specs.declared.limits.Limits.{Limits}
use Rattle.txc_table_report.specs.declared.limits.Limits.TheVariants.{Small, Large}

-- the number of a fault
abbrev pub table_fault_code : TableFault → ℕ
table_fault_code TooManyChannels = 1
table_fault_code BadSeatCount = 2
table_fault_code BoundTooLarge = 3
table_fault_code TooManyReaders = 4
table_fault_code NoMemory = 5

-- the fault of a table that has a channel with this fault
abbrev pub as_table_fault : ChanFault → TableFault
as_table_fault chan.BoundTooLarge = BoundTooLarge
as_table_fault chan.TooManyReaders = TooManyReaders
as_table_fault chan.NoMemory = NoMemory

-- the most channels of a table with these limits
abbrev pub channel_limit : Limits → ℕ
channel_limit Small = MAX_CHANNELS
channel_limit Large = MAX_CHANNELS_OF_LARGE

-- the most seats of a table with these limits
abbrev pub seat_limit : Limits → ℕ
seat_limit Small = MAX_SEATS
seat_limit Large = MAX_SEATS_OF_LARGE

-- why no table with these limits, channels and number of seats can be made, if there is a reason
abbrev pub refusal_of : Limits → List Decl → ℕ → Option TableFault
refusal_of limits decls seats =
    if nat_lt (channel_limit limits) (length decls) then Some TooManyChannels
    else if nat_eq seats 0 || nat_lt (seat_limit limits) seats then Some BadSeatCount
    else option_map as_table_fault (first_fault decls)

-- .. with the limits of scripts
abbrev pub refusal : List Decl → ℕ → Option TableFault
refusal decls seats = refusal_of Small decls seats

-- the reason that a fault gives; `NoMemory` gives none
abbrev pub reason : TableFault → Option TableFault
reason TooManyChannels = Some TooManyChannels
reason BadSeatCount = Some BadSeatCount
reason BoundTooLarge = Some BoundTooLarge
reason TooManyReaders = Some TooManyReaders
reason NoMemory = None
