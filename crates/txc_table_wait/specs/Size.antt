-- The size of a wait queue.
use Rattle.std.specs.Prelude.{ℕ}

-- how many channels and seats a wait queue has
pub record Size : Type 0 where
  pub channels : ℕ
  pub seats : ℕ
