-- Channels of a list, by their places.
use Rattle.std.specs.Prelude.{None, List, [], slice_index_or}
use Rattle.txc_base.specs.declared.kind.Kind.TheVariants.{Queue}
use Rattle.txc_chan.specs.ChanView.{ChanView}
use Rattle.txc_chan.specs.Logged.{opened}
use Rattle.txc_txn.specs.Maps.{Map}

-- the value for a channel past the end of the list
abbrev pub missing : ChanView
missing = record { logged = opened (record { kind = Queue; bound = 0; readers = 0 }); slots = []; shelf = None }

-- the channels of a list, by their places
abbrev pub chan_in : List ChanView → Map
chan_in chans n = (slice_index_or chans n missing).logged
