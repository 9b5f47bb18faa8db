-- How a commit changes a channel.
use Rattle.std.specs.Prelude.{Bool, true, false}
use Rattle.txc_table_wait.specs.declared.change.Change.{Change}
use Rattle.txc_table_wait.specs.declared.change.Change.TheVariants.{Any, Removed, Added}

-- a test: an item was added, and nothing else changed
abbrev pub is_added : Change → Bool
is_added Added = true
is_added Removed = false
is_added Any = false

-- a test: an item was taken, and nothing else changed
abbrev pub is_removed : Change → Bool
is_removed Added = false
is_removed Removed = true
is_removed Any = false
