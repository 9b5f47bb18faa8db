use Rattle.std.proofs.Common.{rules, subst, ◌≡◌, ◌≢◌}
use Rattle.txc_base.specs.declared.stop.Stop.TheVariants.{NoMemory}
use Rattle.txc_txn.specs.Maps.{Map}
use Rattle.txc_txn.specs.Transaction.{Aborted, transaction}
use Rattle.txc_table_seat.specs.Seated.{next_tag}
use Rattle.txc_table.specs.Seat.{SeatView, seen_at}
use Rattle.txc_table.specs.Table.{decls_of}
use Rattle.txc_table.specs.Outcome.{AreFound, Sees, Tells}
use Rattle.txc_table.proofs.table.Table.try_until_kept.Goals as goal

pub returns-in-Err-clause-outcome : goal.returns-in-Err-clause-outcome
returns-in-Err-clause-outcome g c = record {
  returned = tt;
  sees = tt;
  stopped = subst (λ (s : SeatView). c.in-Err.stop ≢ NoMemory
      → ((m : Map) × AreFound (decls_of c.args.self.now.lines) s.commits.receipts (seen_at s) m
      × (transaction m (next_tag s.commits) c.args.checked.now.declared c.args.checked.now.steps
      ≡ Aborted c.in-Err.stop)))
      c.loop.invariant c.in-Err.ensures.stopped;
  unchanged = search rules;
}

pub returns-in-Ok-Some-clause-outcome : goal.returns-in-Ok-Some-clause-outcome
returns-in-Ok-Some-clause-outcome g c =
    let attempted = rw c.in-Ok-Some.field-0-is at c.in-Ok-Some.ensures in
    record {
      returned = subst (λ (s : SeatView). (m : Map)
          × AreFound (decls_of c.args.self.now.lines) s.commits.receipts (seen_at s) m
          × Tells m s.commits c.args.checked.now c.in-Ok-Some.tried c.try_once.new.seat.commits) c.loop.invariant
          attempted.outcome;
      sees = subst (λ (s : SeatView). Sees s c.in-Ok-Some.tried c.try_once.new.seat) c.loop.invariant attempted.sees;
      stopped = tt;
      unchanged = tt;
    }
