use Rattle.std.proofs.Common.{◌≡◌, map, take}
use Rattle.txc_cmd_replay.specs.Rounds.{SeatProgress}
use Rattle.txc_cmd_explore.proofs.follow.stops.Given as goal

abbrev pub invariant-loop-seat : goal.invariant-loop-seat
invariant-loop-seat l = l.stops.items ≡ map (λ (s : SeatProgress). s.end) (take l.seat-index l.progress)
