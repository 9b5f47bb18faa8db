-- In which list of a search a state is.
use Rattle.std.specs.Prelude.{◌≡◌, ◌+◌, ◌*◌, ◌/◌, ◌%◌, ◌^◌, ℕ, List, [], length, fold, Some, slice_get, slice_index_or}
use Rattle.std.specs.Prelude.{if◌then◌else◌}
use Rattle.txc_cmd_report.specs.declared.seat_end.SeatEnd.{SeatEnd}
use Rattle.txc_cmd_report.specs.declared.seat_end.SeatEnd.TheVariants.{Finished, Stalled, Stopped}
use Rattle.txc_cmd_explore.specs.declared.state.Shape.{Shape}
use Rattle.txc_cmd_explore.specs.declared.state.State.{State}
use Rattle.txc_cmd_explore.specs.Ends.{IsAmong}

-- how many lists there are
abbrev pub bucket_count : ℕ
bucket_count = 65536

-- a hash with a number mixed in
abbrev pub mixed : ℕ → ℕ → ℕ
mixed hash number = ((hash + number) % 2 ^ 64 * 11400714819323198485) % 2 ^ 64

-- a hash with what is seen of a channel mixed in
abbrev pub mixed_shape : ℕ → Shape → ℕ
mixed_shape hash shape = fold mixed (mixed hash (if shape.closed then 1 else 2)) shape.left

-- a hash with the end of a seat mixed in
abbrev pub mixed_end : ℕ → SeatEnd → ℕ
mixed_end hash Finished = mixed hash 3
mixed_end hash (Stalled cause) = mixed hash 4
mixed_end hash (Stopped stop) = mixed hash 4

-- the number of the list that a state is in
abbrev pub bucket_in : State → ℕ
bucket_in state = fold mixed_end (fold mixed (fold mixed_shape 1 state.shapes) state.commits) state.stops / 2 ^ 40
    % bucket_count

-- each state is in its list, by its number
pub record IsIndexed (states : List State) (buckets : List (List ℕ)) : Type 0 where
  pub many : length buckets ≡ bucket_count
  pub each : (number : ℕ) (state : State) → slice_get states number ≡ Some state
      → IsAmong (slice_index_or buckets (bucket_in state) []) number
