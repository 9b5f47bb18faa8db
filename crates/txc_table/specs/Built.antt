-- The parts of a new table.
use Rattle.std.specs.Prelude.{◌≡◌, ℕ, List}
use Rattle.txc_chan.specs.declared.decl.Decl.{Decl}
use Rattle.txc_chan.specs.Decls.{kinds_in}
use Rattle.txc_table.specs.Seat.{SeatView, new_seats}
use Rattle.txc_table.specs.Table.{TableView, decls_of}

-- a new table of these channels, and its seats, numbered from 0, which have committed and seen nothing
pub record IsBuilt (decls : List Decl) (seats : ℕ) (table : TableView) (made : List SeatView) : Type 0 where
  pub its_lines : decls_of table.lines ≡ decls
  pub its_kinds : table.kinds ≡ kinds_in decls
  pub its_seats : table.seats ≡ seats
  pub its_made : made ≡ new_seats table.lines seats
