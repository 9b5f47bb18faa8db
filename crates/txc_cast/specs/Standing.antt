-- The position of a reader among the items written.
use Rattle.std.specs.Prelude.{ℕ, ◌+◌, ◌≤◌, List, [], ◌∷◌, ◌++◌, map, drop, All}
use Rattle.txc_base.specs.declared.item.Item.{Item}
use Rattle.txc_cast.specs.Reader.{Reader, IsBack}

-- a position: the number of the next written item, the put-backs before it, and how many takes of those can be undone
pub record ReaderState : Type 0 where
  pub position : ℕ
  pub backs : List Item
  pub undoable : ℕ

-- the reader at this position: it has its put-backs, and then the items written from its place on
abbrev pub reader_standing : List Item → ReaderState → Reader
reader_standing items standing = record {
  list = standing.backs ++ drop standing.position items;
  undoable = standing.undoable;
}

-- the readers at these positions
abbrev pub readers_standing : List Item → List ReaderState → List Reader
readers_standing items standings = map (reader_standing items) standings

-- the position before the written item with this number, with no put-back
abbrev pub standing_at : ℕ → ReaderState
standing_at position = record { position = position; backs = []; undoable = 0 }

-- the position one item after this place and these put-backs
abbrev pub step_from : ℕ → List Item → ℕ → ReaderState
step_from position [] undoable = record { position = position + 1; backs = []; undoable = undoable }
step_from position (item ∷ rest) undoable = record { position = position; backs = rest; undoable = undoable + 1 }

-- the position one item further: past the latest put-back, or past a written item if there is none
abbrev pub stepped : ReaderState → ReaderState
stepped standing = step_from standing.position standing.backs standing.undoable

-- the position with no take of a put-back to undo
abbrev pub at_rest : ReaderState → ReaderState
at_rest standing = record { position = standing.position; backs = standing.backs; undoable = 0 }

-- the place is at most the number of items written, and no put-back is a written item
pub record IsPlaced (written : ℕ) (standing : ReaderState) : Type 0 where
  pub within : standing.position ≤ written
  pub backs : All IsBack standing.backs
