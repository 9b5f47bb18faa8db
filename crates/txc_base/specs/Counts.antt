-- How many items went in and came out.
use Rattle.std.specs.Prelude.{◌≡◌, ℕ, ◌+◌, Bool, true, false, not, ◌||◌, List, length}
use Rattle.std.specs.List.{count_by}
use Rattle.txc_base.specs.declared.act.Act.{Act}
use Rattle.txc_base.specs.declared.act.Act.TheVariants.{Wrote, Took, PutBack}
use Rattle.txc_base.specs.declared.entry.Entry.{Entry}
use Rattle.txc_base.specs.declared.item.Item.{Item}

-- a test: an item was written or put back
abbrev pub is_put : Act → Bool
is_put (Wrote item) = true
is_put (PutBack reader item) = true
is_put act = false

-- a test: an item was taken
abbrev pub is_took : Act → Bool
is_took (Took reader item) = true
is_took act = false

-- a test: the channel was closed or a reader made
abbrev pub is_other : Act → Bool
is_other act = not (is_put act || is_took act)

-- how many items a log has written or put back
abbrev pub put : List Entry → ℕ
put log = count_by (λ entry. is_put entry.act) log

-- how many items a log has taken
abbrev pub took : List Entry → ℕ
took log = count_by (λ entry. is_took entry.act) log

-- how many other entries a log has
abbrev pub other : List Entry → ℕ
other log = count_by (λ entry. is_other entry.act) log

-- the number of items put in is the number of items taken and of items that remain (stm)
abbrev pub IsCounted : List Entry → List Item → Type 0
IsCounted log list = took log + length list ≡ put log
