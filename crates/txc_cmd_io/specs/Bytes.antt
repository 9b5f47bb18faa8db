-- What is read of a reader.
use Rattle.std.specs.Prelude.{ℕ, ◌≤◌, List, length, Option}
use Rattle.std.specs.Io.KnownBytes.{Consumes}

-- the reader's bytes before and after, if known: at most this many were read
abbrev pub ConsumesAtMost : ℕ → Option (List ℕ) → Option (List ℕ) → Type 0
ConsumesAtMost most before after = (read : List ℕ) × ((length read ≤ most) × Consumes before after read)
