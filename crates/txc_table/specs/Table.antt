-- The model of a table.
use Rattle.std.specs.Prelude.{◌≡◌, ℕ, Bool, ◌&&◌, is_some, ◌<◌, List, map, All}
use Rattle.txc_base.specs.Kinds.{is_broadcast}
use Rattle.txc_base.specs.declared.kind.Kind.{Kind}
use Rattle.txc_chan.specs.declared.decl.Decl.{Decl}
use Rattle.txc_chan.specs.Decls.{kinds_in}
use Rattle.txc_chan.specs.ChanView.{ChanView}
use Rattle.txc_chan.specs.Logged.{opened}
use Rattle.txc_table_line.specs.Line.{LineId}

-- the seats of a table: the name of the table's own ledger, which has a part for each seat, and the number of seats
pub record TableSeatsView : Type 0 where
  pub ledger : ℕ
  pub seats : ℕ

-- the lines of one table, which differ from those of each other table also if there are none: the name of the table's
-- own ledger, the number of its parts, and the lines
pub record TableLines : Type 0 where
  pub ledger : ℕ
  pub seats : ℕ
  pub all : List LineId

-- the lines of the table with these seats
abbrev pub table_lines : TableSeatsView → List LineId → TableLines
table_lines table_seats lines = record { ledger = table_seats.ledger; seats = table_seats.seats; all = lines }

-- a table: its lines, the channel of each line as it was made, with its shelf if it has one, the kinds of the channels,
-- and the number of seats
pub record TableView : Type 0 where
  pub lines : TableLines
  pub made : List ChanView
  pub kinds : List Kind
  pub seats : ℕ

-- the declaration of each of these lines
abbrev pub line_decls : List LineId → List Decl
line_decls lines = map (λ line. line.decl) lines

-- the declaration of each line of a table
abbrev pub decls_of : TableLines → List Decl
decls_of lines = line_decls lines.all

-- which of these channels have a shelf: the broadcast channels, if their kind of log uses shelves
abbrev pub shelved_for : Bool → List Decl → List Bool
shelved_for shelves decls = map (λ decl. shelves && is_broadcast decl.kind) decls

-- the invariant of a table whose kind of log uses shelves or not: the kinds are those of the lines, the channels were
-- made as the lines declare, exactly the channels that should have a shelf have one, each line's ledgers have a part
-- for
-- each seat, and there is a seat
pub record IsValidTable (shelves : Bool) (lines : List LineId) (made : List ChanView) (kinds : List Kind) (seats : ℕ)
    : Type 0 where
  pub declared : kinds ≡ kinds_in (line_decls lines)
  pub opened : map (λ held. held.logged) made ≡ map opened (line_decls lines)
  pub shelved : map (λ held. is_some held.shelf) made ≡ shelved_for shelves (line_decls lines)
  pub seated : All (λ line. line.ledgers.seats ≡ seats) lines
  pub some : 0 < seats
