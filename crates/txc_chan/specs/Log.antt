-- A log, recorded or unrecorded.
use Rattle.std.specs.Prelude.{◌≡◌, ℕ, ◌+◌, ◌≤◌, List}
use Rattle.txc_base.specs.declared.entry.Entry.{Entry}
use Rattle.txc_base.specs.declared.limits.TheConstants.{GREATEST_NUMBER}

-- all entries, how many of the last can be undone, and how many fit without an allocation
pub record LogView : Type 0 where
  pub entries : List Entry
  pub undoable : ℕ
  pub room : ℕ

-- the count of forgotten entries is right, and the number of all entries is at most the greatest number
pub record IsForgotten (before settled pending : ℕ) : Type 0 where
  pub counted : before ≡ settled
  pub few : settled + pending ≤ GREATEST_NUMBER
