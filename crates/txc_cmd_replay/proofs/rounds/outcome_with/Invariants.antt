use Rattle.std.proofs.Common.{◌≡◌, ◌≢◌, ◌++◌, length, map, All}
use Rattle.std.specs.Vec.Iter.{into_iter_items, into_iter_len}
use Rattle.txc_base.specs.declared.stop.Stop.TheVariants.{NoMemory}
use Rattle.txc_cmd_report.specs.declared.seat_end.SeatEnd.TheVariants.{Stopped}
use Rattle.txc_cmd_replay.specs.Rounds.{SeatProgress}
use Rattle.txc_cmd_replay.proofs.rounds.outcome_with.Given as goal

abbrev pub invariant-loop-seat_progress : goal.invariant-loop-seat_progress
invariant-loop-seat_progress l = record {
  receipts : l.receipts.items ++ map (λ (s : SeatProgress). s.receipts) (into_iter_items l.seat_progress-iterator)
      ≡ map (λ (s : SeatProgress). s.receipts) l.fn.progress.items;
  ends : l.ends.items ++ map (λ (s : SeatProgress). s.end) (into_iter_items l.seat_progress-iterator)
      ≡ map (λ (s : SeatProgress). s.end) l.fn.progress.items;
  known : All (λ end. end ≢ Stopped NoMemory) l.ends.items;
  left : into_iter_len l.seat_progress-iterator ≡ length (into_iter_items l.seat_progress-iterator);
}
