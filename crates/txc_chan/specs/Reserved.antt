-- The room that the undo of a take needs.
use Rattle.std.specs.Prelude.{ℕ, Bool, true, false, not, ◌||◌, ◌&&◌, ◌==◌}
use Rattle.txc_base.specs.declared.act.Act.{Act}
use Rattle.txc_base.specs.declared.act.Act.TheVariants.{Took}
use Rattle.txc_cast.specs.Reader.{is_back}

-- a test: the undo of this act needs reserved room; on a shelf, only the undo of a put-back's take does
abbrev pub needs_room : Bool → ℕ → Act → Bool
needs_room shelved reader (Took taker item) = taker == reader && (not shelved || is_back item)
needs_room shelved reader act = false

-- 1 if it is true, otherwise 0
abbrev pub one_if : Bool → ℕ
one_if true = 1
one_if false = 0
