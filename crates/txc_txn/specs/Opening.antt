-- Channels of a list, and their kinds, as they are declared.
use Rattle.std.specs.Prelude.{◌≡◌, ℕ, ◌<◌, List, length, map, slice_get, slice_index_or}
use Rattle.txc_base.specs.declared.kind.Kind.{Kind}
use Rattle.txc_chan.specs.declared.decl.Decl.{Decl}
use Rattle.txc_chan.specs.ChanView.{ChanView}
use Rattle.txc_chan.specs.Logged.{opened}
use Rattle.txc_txn.specs.Maps.{Map, kinds_of}
use Rattle.txc_txn.specs.Plain.{chan_in, missing}

-- the channels that are declared, by channel number
abbrev pub opening_map : List Decl → Map
opening_map decls n = slice_index_or (map opened decls) n missing.logged

-- the channels of a list exist, and have these kinds
pub record HasKinds (chans : List ChanView) (kinds : List Kind) : Type 0 where
  pub there : (n : ℕ) → n < length kinds → n < length chans
  pub same : (n : ℕ) → n < length kinds → kinds_of (chan_in chans) n ≡ slice_get kinds n
