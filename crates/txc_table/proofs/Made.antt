-- The seats of a new table.
use Rattle.std.proofs.Common.{◌≡◌, ◌∙◌, ap, sym, subst, ℕ, ◌<◌, List, length, slice_index_or}
use Rattle.txc_chan.specs.declared.decl.Decl.{Decl}
use Rattle.txc_table.proofs.Opening.{length_new, new_at}
use Rattle.txc_table.specs.Built.{IsBuilt}
use Rattle.txc_table.specs.Seat.{SeatView, new_seat}
use Rattle.txc_table.specs.Table.{TableView}

module _ (decls : List Decl) (seats : ℕ) (table : TableView) (made : List SeatView) where
  -- there are as many as asked for
  pub many_made : IsBuilt decls seats table made → length made ≡ seats
  many_made built = ap length built.its_made ∙ length_new table.lines seats

  -- each has the number of its place, and is of the table
  pub made_at : IsBuilt decls seats table made → (k : ℕ) (d : SeatView) → k < length made
      → slice_index_or made k d ≡ new_seat table.lines k
  made_at built k d below =
      subst (λ (ss : List SeatView). slice_index_or ss k d ≡ new_seat table.lines k) (sym built.its_made)
      (new_at table.lines seats k d (subst (λ n. k < n) (many_made built) below))
