-- What was seen on the shelves of a table.
use Rattle.std.specs.Prelude.{◌≡◌, ℕ, true, Some, List, map, slice_get}
use Rattle.boxcar.specs.Table.{Shelves}
use Rattle.txc_base.specs.declared.kind.Kind.{Kind}
use Rattle.txc_base.specs.Kinds.{is_broadcast}
use Rattle.txc_cast.specs.Sights.{IsOf}
use Rattle.txc_cast.specs.declared.sight.Sight.{Sight}
use Rattle.txc_chan.specs.ChanView.{ChanView}

-- the sight was got at the shelf of the channel with this number, among these channels
pub record IsSeen (chans : List ChanView) (chan : ℕ) (sight : Sight) : Type 0 where
  pub shelf : Shelves
  pub here : slice_get (map (λ held. held.shelf) chans) chan ≡ Some (Some shelf)
  pub its : IsOf shelf sight

-- these kinds have one with this number, and it is a broadcast kind
pub record IsBroadcastAt (kinds : List Kind) (chan : ℕ) : Type 0 where
  pub kind : Kind
  pub at : slice_get kinds chan ≡ Some kind
  pub broadcast : is_broadcast kind ≡ true
