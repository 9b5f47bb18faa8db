use Rattle.std.proofs.Common.{◌≡◌, length, map, take}
use Rattle.txc_cmd_replay.specs.Rounds.{SeatProgress}
use Rattle.txc_cmd_explore.proofs.follow.commits.Given as goal

abbrev pub invariant-loop-seat : goal.invariant-loop-seat
invariant-loop-seat l = l.commits.items ≡ map (λ (s : SeatProgress). length s.receipts) (take l.seat-index l.progress)
