-- What is true of every broadcast list.
use Rattle.std.specs.Prelude.{ℕ, ◌≤◌, List, length, map, All}
use Rattle.boxcar.specs.Table.{Shelves, Where, Shows}
use Rattle.txc_base.specs.declared.item.Item.{Item}
use Rattle.txc_base.specs.declared.limits.TheConstants.{MAX_READERS}
use Rattle.txc_cast.specs.Broadcast.{Broadcast}
use Rattle.txc_cast.specs.Reader.{IsWritten}
use Rattle.txc_cast.specs.Standing.{ReaderState, IsPlaced, readers_standing}

-- the items of these tokens
abbrev pub items_shown : List (Where Item) → List Item
items_shown tokens = map (λ token. token.value) tokens

-- the slots of these tokens
abbrev pub slots_shown : List (Where Item) → List ℕ
slots_shown tokens = map (λ token. token.index) tokens

-- the broadcast list of these tokens and readers
abbrev pub broadcast : Shelves → List (Where Item) → List ReaderState → Broadcast
broadcast shelf tokens standings = record {
  items = items_shown tokens;
  slots = slots_shown tokens;
  readers = readers_standing (items_shown tokens) standings;
  shelf = shelf;
}

-- the tokens show written items of the shelf, and at most `MAX_READERS` readers have positions among them
pub record IsSoundCast (shelf : Shelves) (tokens : List (Where Item)) (standings : List ReaderState) : Type 0 where
  pub shown : All (λ token. Shows shelf token) tokens
  pub written : All IsWritten (items_shown tokens)
  pub placed : All (IsPlaced (length tokens)) standings
  pub few : length standings ≤ MAX_READERS
