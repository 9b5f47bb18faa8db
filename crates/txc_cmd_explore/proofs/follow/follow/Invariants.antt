use Rattle.std.proofs.Common.{◌≡◌, true, map, length, drop}
use Rattle.txc_chan.specs.Decls.{kinds_in}
use Rattle.txc_txn.specs.Plain.{chan_in}
use Rattle.txc_cmd_replay.specs.Rounds.{round_to}
use Rattle.txc_cmd_explore.specs.Moves.{after_moves, reached}
use Rattle.txc_cmd_explore.proofs.follow.follow.Given as goal

abbrev pub invariant-loop-number : goal.invariant-loop-number
invariant-loop-number g l = record {
  kinds : l.channels.kinds ≡ kinds_in l.script.decls;
  many : length l.progress.items ≡ length l.seats;
  rest : after_moves (map (λ seat. seat.items) l.seats) (drop l.number-index l.order)
      (round_to (chan_in l.channels.held) l.progress.items true) ≡ reached l.script l.order;
}
