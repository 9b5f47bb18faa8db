-- The channel before its last entry.
use Rattle.std.specs.Prelude.{ℕ, ◌-◌, false, List, [], ◌∷◌, length, map, take, drop, slice_set, slice_index_or}
use Rattle.txc_base.specs.declared.act.Act.{Act}
use Rattle.txc_base.specs.declared.act.Act.TheVariants.{Wrote, Took, PutBack, Closed, Begun, Cloned}
use Rattle.txc_base.specs.declared.item.Item.{Item}
use Rattle.txc_base.specs.Channel.{Channel}

-- a list without its last element
abbrev pub front_of : {X : Type 0} → List X → List X
front_of items = take (length items - 1) items

-- the items that remain to a reader; `[]` if there is no such reader
abbrev pub items_left_to : Channel → ℕ → List Item
items_left_to channel reader = slice_index_or channel.lists reader []

-- the channel before an act after which it is this one
abbrev pub undone : Channel → Act → Channel
undone c (Wrote item) = record c { written = c.written - 1; lists = map front_of c.lists }
undone c (Took reader item) = record c { lists = slice_set c.lists reader (item ∷ items_left_to c reader) }
undone c (PutBack reader item) = record c {
  backs = c.backs - 1;
  lists = slice_set c.lists reader (drop 1 (items_left_to c reader));
}
undone c Closed = record c { closed = false }
undone c (Begun reader) = record c { lists = front_of c.lists }
undone c (Cloned source reader) = record c { lists = front_of c.lists }
