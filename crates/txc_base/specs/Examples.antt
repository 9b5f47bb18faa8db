-- Short words for items, for examples of operations and logs.
use Rattle.std.specs.Prelude.{ℕ}
use Rattle.txc_base.specs.declared.item.Item.{Item}
use Rattle.txc_base.specs.declared.origin.Origin.TheVariants.{Written, Back}

-- the n-th item written, by seat 0
abbrev pub w : ℕ → ℕ → Item
w n body = record { origin = Written n; seat = 0; body = body }

-- the n-th item put back, by seat 0
abbrev pub b : ℕ → ℕ → Item
b n body = record { origin = Back n; seat = 0; body = body }
