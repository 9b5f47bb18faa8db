-- The results of declarations, and of questions about channels.
use Rattle.std.specs.Prelude.{ℕ, ◌+◌, ◌^◌, Bool, true, false, ◌||◌, ◌&&◌, nat_le, nat_lt, Option, Some, None}
use Rattle.std.specs.Prelude.{List, if◌then◌else◌}
use Rattle.std.specs.List.{list_any}
use Rattle.yalwythen_domain.specs.declared.domain.TransactionStatus.{TransactionStatus}
use Rattle.yalwythen_domain.specs.declared.domain.TransactionStatus.TheVariants.{Idle, Open, Failed}
use Rattle.yalwythen_domain.specs.declared.limits.TheConstants.{DOMAIN_CHANNELS}
use Rattle.txc_chan.specs.declared.decl.Decl.{Decl}
use Rattle.txc_chan.specs.declared.fault.ChanFault.{ChanFault}
use Rattle.txc_base.specs.Kinds.{is_broadcast}
use Rattle.txc_chan.specs.Fault.{chan_fault_code}
use Rattle.txc_chan.specs.Limits.{declared_fault}
use Rattle.yalwythen_domain.specs.declared.call_result.CallResult.{CallResult}
use Rattle.yalwythen_domain.specs.Channels.{DomainChannels, count_at, is_closed_at, length_at, readers_at}
use Rattle.yalwythen_domain.specs.RawSteps.{as_number}

-- a rejection for this reason
abbrev pub rejected_for : ℕ → CallResult
rejected_for reason = record { code = 4; value = reason }

-- the result of a declaration with this fault, if any, when there are this many channels
abbrev pub response_unless : Option ChanFault → ℕ → CallResult
response_unless None count = record { code = 0; value = count }
response_unless (Some fault) count = rejected_for (16 + chan_fault_code fault)

-- the result of a declaration: the channel's number, or why it is rejected; no broadcast log is recorded
abbrev pub response_to_decl : Option Decl → Bool → Bool → ℕ → CallResult
response_to_decl None is_open records count = rejected_for 0
response_to_decl (Some decl) is_open records count =
    if is_open || nat_le DOMAIN_CHANNELS count then rejected_for 1
    else (if records && is_broadcast decl.kind then rejected_for 4
    else response_unless (declared_fault decl.kind decl.bound decl.readers) count)

-- whether a transaction is open
abbrev pub is_open : TransactionStatus → Bool
is_open Idle = false
is_open Open = true
is_open Failed = true

-- whether there is a broadcast channel among these
abbrev pub has_broadcast : List Decl → Bool
has_broadcast decls = list_any (λ decl. is_broadcast decl.kind) decls

-- a count, or that there is no such channel
abbrev pub count_or_none : Option ℕ → CallResult
count_or_none (Some count) = record { code = 0; value = count }
count_or_none None = rejected_for 0

-- the result for a channel number: how many acts were done on the channel
abbrev pub count_response : DomainChannels → ℕ → CallResult
count_response channels chan = if nat_lt chan (2 ^ 16) then count_or_none (count_at channels chan) else rejected_for 0

-- a flag as a number, if there is one
abbrev pub flag_number : Option Bool → Option ℕ
flag_number (Some flag) = Some (as_number flag)
flag_number None = None

-- the result for a channel number: whether the channel is closed
abbrev pub closed_response : DomainChannels → ℕ → CallResult
closed_response channels chan =
    if nat_lt chan (2 ^ 16) then count_or_none (flag_number (is_closed_at channels chan)) else rejected_for 0

-- the result for a channel number: how many readers the channel has
abbrev pub readers_response : DomainChannels → ℕ → CallResult
readers_response channels chan =
    if nat_lt chan (2 ^ 16) then count_or_none (readers_at channels chan) else rejected_for 0

-- the result for a channel number and a reader number: how many items the reader has to read
abbrev pub length_response : DomainChannels → ℕ → ℕ → CallResult
length_response channels chan reader = if nat_lt chan (2 ^ 16) && nat_lt reader (2 ^ 16)
    then count_or_none (length_at channels chan reader) else rejected_for 0
