-- The model of a channel, as all promises use it.
use Rattle.std.specs.Prelude.{ℕ, Bool, false, List, [], length, replicate, Option, slice_get, slice_index_or}
use Rattle.std.specs.Prelude.{if◌then◌else◌}
use Rattle.txc_base.specs.declared.item.Item.{Item}
use Rattle.txc_base.specs.declared.kind.Kind.{Kind}
use Rattle.txc_base.specs.Kinds.{is_bounded, is_broadcast}

-- a channel: a list of items for each reader; a queue has one reader (stm, stm-chans)
pub record Channel : Type 0 where
  pub kind : Kind
  -- the most items that it can hold after a write; 0 if the kind has no bound
  pub bound : ℕ
  -- true only for a kind that can be closed
  pub closed : Bool
  -- how many items were written, and how many put back
  pub written : ℕ
  pub backs : ℕ
  pub lists : List (List Item)

-- a new channel: open and empty, with one list for a queue (stm, stm-chans)
abbrev pub opening : Kind → ℕ → ℕ → Channel
opening kind bound readers = record {
  kind = kind;
  bound = if is_bounded kind then bound else 0;
  closed = false;
  written = 0;
  backs = 0;
  lists = replicate (if is_broadcast kind then readers else 1) [];
}

-- the items that a reader has still to read; none if there is no such reader (stm)
abbrev pub list_of : Channel → ℕ → Option (List Item)
list_of channel reader = slice_get channel.lists reader

-- how many items a queue holds (stm)
abbrev pub length_of : Channel → ℕ
length_of channel = length (slice_index_or channel.lists 0 [])
