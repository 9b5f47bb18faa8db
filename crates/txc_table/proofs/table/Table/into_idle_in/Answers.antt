use Rattle.std.proofs.Common.{subst}
use Rattle.txc_table.specs.Refused.{AreAllSeats}
use Rattle.txc_table.specs.Table.{TableView}
use Rattle.txc_table.proofs.table.Table.into_idle_in.Goals as goal

pub invariant_of-result : goal.invariant_of-result
invariant_of-result g c = record {
  tabled = c.lock.ensures.tabled;
  clean = c.lock.ensures.clean;
  back = subst (λ (t : TableView). AreAllSeats t.lines t.seats c.args.left.items) c.lock.ensures.same c.requires.back;
}
