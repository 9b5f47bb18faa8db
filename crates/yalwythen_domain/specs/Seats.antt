-- The seats of a domain, and the transactions that they open.
use Rattle.std.specs.Prelude.{ℕ, ◌+◌, Bool, ◌||◌, nat_le, nat_eq, Option, Some, None, if◌then◌else◌}
use Rattle.txc_base.specs.declared.limits.TheConstants.{GREATEST_NUMBER}
use Rattle.txc_base.specs.declared.stop.Stop.TheVariants.{Worn}
use Rattle.txc_base.specs.declared.tag.Tag.{Tag}
use Rattle.txc_base.specs.Stop.{stop_code}
use Rattle.yalwythen_domain.specs.declared.limits.TheConstants.{DOMAIN_SEATS}
use Rattle.yalwythen_domain.specs.declared.call_result.CallResult.{CallResult}
use Rattle.yalwythen_domain.specs.Opening.{rejected_for}

-- the tag of a new seat
abbrev pub first_tag : ℕ → Tag
first_tag seat = record { seat = seat; serial = 0; stamp = 0 }

-- the result of adding a seat to a domain with this many seats: its number, or why it is rejected
abbrev pub response_to_seat : Bool → ℕ → CallResult
response_to_seat is_open count = if is_open || nat_le DOMAIN_SEATS count then rejected_for 1
    else record { code = 0; value = count }

-- the tag of a transaction that a seat opens; `clock` is the greatest stamp so far
abbrev pub open_tag : Tag → ℕ → Tag
open_tag tag clock = record { seat = tag.seat; serial = tag.serial; stamp = clock + 1 }

-- the result of opening a transaction of a seat: success, or why it is rejected
abbrev pub response_to_begin : Option Tag → Bool → ℕ → CallResult
response_to_begin None is_open clock = rejected_for 0
response_to_begin (Some tag) is_open clock = if is_open then rejected_for 1
    else (if nat_eq tag.serial GREATEST_NUMBER || nat_eq clock GREATEST_NUMBER
    then record { code = 2; value = stop_code Worn } else record { code = 0; value = 0 })
