use Rattle.std.proofs.Common.{◌≡◌, ◌+◌, ◌*◌, ◌^◌, ◌≤◌, drop, map}
use Rattle.txc_cmd_replay.specs.Rounds.{transaction_count}
use Rattle.txc_cmd_answer.proofs.answer.count_transactions.Given as goal

abbrev pub invariant-loop-seat : goal.invariant-loop-seat
invariant-loop-seat l = record {
  counted : l.count + transaction_count (map (λ seat. seat.items) (drop l.seat-index l.seat-items))
      ≡ transaction_count (map (λ seat. seat.items) l.seat-items);
  small : l.count ≤ l.seat-index * 2 ^ 64;
}
