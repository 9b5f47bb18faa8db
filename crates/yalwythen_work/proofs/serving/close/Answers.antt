use Rattle.std.proofs.Common.{arith}
use Rattle.yalwythen_work.proofs.serving.close.Goals as goal

pub finish_in_summary-requires : goal.finish_in_summary-requires
finish_in_summary-requires g c = record { of = c.requires.back.of }

pub unreachable-requires : goal.unreachable-requires
unreachable-requires g c =
    let missing = rw c.in-Err-SeatMissing.field-0-is at c.in-Err-SeatMissing.ensures.refused in
    let some = c.requires.back.all missing.2.number missing.2.below in
    let none = missing.2.none in
    omega (arith, some, none)

pub unreachable-requires-in-Err-Torn : goal.unreachable-requires-in-Err-Torn
unreachable-requires-in-Err-Torn g c = rw c.in-Err-Torn.field-0-is at c.in-Err-Torn.ensures.refused
