use Rattle.std.proofs.Common.{◌≡◌, true, map, length}
use Rattle.txc_txn.specs.Plain.{chan_in}
use Rattle.txc_cmd_replay.specs.Rounds.{last_round, round_to}
use Rattle.txc_cmd_replay.proofs.Left.{ComesTo, transactions_left}
use Rattle.txc_cmd_replay.proofs.rounds.run_rounds.Given as goal

abbrev pub invariant-loop-progress : goal.invariant-loop-progress
invariant-loop-progress g l = record {
  kinds : l.channels.kinds ≡ l.initial.channels.kinds;
  each : length l.progress.items ≡ length l.seats;
  comes : ComesTo (map (λ seat. seat.items) l.seats) (round_to (chan_in l.channels.held) l.progress.items true)
      (last_round l.script);
}

abbrev pub decreases-loop-progress : goal.decreases-loop-progress
decreases-loop-progress g l = transactions_left (map (λ seat. seat.items) l.seats) l.progress.items
