use Rattle.std.proofs.Common.{◌≡◌, map, take}
use Rattle.txc_cmd_replay.specs.Rounds.{untried}
use Rattle.txc_cmd_replay.proofs.rounds.fresh_progress.Given as goal

abbrev pub invariant-loop-seat : goal.invariant-loop-seat
invariant-loop-seat l = l.progress.items ≡ map (λ seat. untried) (take l.seat-index l.seats)
