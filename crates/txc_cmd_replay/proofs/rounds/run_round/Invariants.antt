use Rattle.std.proofs.Common.{◌≡◌, map, take, drop}
use Rattle.txc_txn.specs.Plain.{chan_in}
use Rattle.txc_cmd_replay.specs.Rounds.{round_from}
use Rattle.txc_cmd_replay.proofs.Turning.{after_turns}
use Rattle.txc_cmd_replay.proofs.rounds.run_round.Given as goal

abbrev pub invariant-loop-seat : goal.invariant-loop-seat
invariant-loop-seat g l = record {
  kinds : l.channels.kinds ≡ l.initial.channels.kinds;
  rest : round_from 0 (map (λ seat. seat.items) l.seats) l.initial.progress (chan_in l.initial.channels.held)
      ≡ after_turns (take l.seat l.progress) l.kept
      (round_from l.seat (drop l.seat (map (λ seat. seat.items) l.seats)) (drop l.seat l.progress)
      (chan_in l.channels.held));
}
