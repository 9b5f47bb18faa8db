use Rattle.std.proofs.Common.{◌≡◌, map, drop, length, slice_get, All}
use Rattle.serde_json.specs.View.{view}
use Rattle.txc_txn_check.specs.Steps.{Fits}
use Rattle.txc_cmd_script.specs.Reading.{seats_in}
use Rattle.txc_cmd_script.proofs.Orders.{onto}
use Rattle.txc_cmd_script.proofs.read.read_seats.Given as goal

abbrev pub invariant-loop-seat : goal.invariant-loop-seat
invariant-loop-seat l = record {
  so_far : seats_in l.kinds 0 (map view l.trees) ≡ onto (map (λ seat. seat.items) l.seats.items)
      (seats_in l.kinds l.seat (map view (drop l.seat l.trees)));
  all : length l.seats.items ≡ l.seat;
  fits : All (All (λ plan. Fits (slice_get l.kinds) plan.steps)) (map (λ seat. seat.items) l.seats.items);
}
