-- The outputs of tasks.
use Rattle.std.specs.Prelude.{◌≡◌, ℕ, ◌<◌, List, length, slice_index_or}

-- each element of the first list is related to the element at the same index in the second: a worker to its final
-- value, or a task to its output
pub record AllRelated {A B : Type 0} (came : A → B → Type 0) (before : List A) (after : List B) : Type 0 where
  pub many : length after ≡ length before
  pub each : (k : ℕ) (b : A) (a : B) → k < length before → came (slice_index_or before k b) (slice_index_or after k a)
