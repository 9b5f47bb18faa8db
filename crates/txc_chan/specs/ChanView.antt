-- The value of a channel.
use Rattle.std.specs.Prelude.{ℕ, List, Option}
use Rattle.boxcar.specs.Table.{Shelves}
use Rattle.txc_chan.specs.Logged.{Logged}

-- a channel with its declaration and its log; if it is a broadcast channel, its items' slots and their shelf
pub record ChanView : Type 0 where
  pub logged : Logged
  pub slots : List ℕ
  pub shelf : Option Shelves
