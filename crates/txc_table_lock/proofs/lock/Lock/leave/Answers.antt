use Rattle.std.proofs.Common.{rules, subst, sym, ◌≡◌, ◌≢◌, ◌==◌}
use prog.Atomic.{either}
use Rattle.atomic_table.specs.Table.{Allows}
use Rattle.txc_table_lock.specs.Lock.{HasValue, IsKept, LockView}
use Rattle.txc_table_lock.specs.declared.words.TheConstants.{FREE, STATE}
use Rattle.txc_table_lock.proofs.Rules.{leaves_it}
use Rattle.txc_table_lock.proofs.lock.Lock.leave.Goals as goal

pub compare_exchange-found-requires : goal.compare_exchange-found-requires
compare_exchange-found-requires g c =
    let seat = c.args.seat.now in let taken = c.args.taken in
    let holds = g.F.LockInvariant.holds c.self.inside.table.shared.key in
    let has = subst (λ (l : LockView g.row.G.Denot). HasValue (g.F.LockInvariant.holds l.label) seat.me)
    (sym c.self.view_is)
    c.requires.has in (
      search rules,
      search rules,
      subst (λ slots. Allows (IsKept holds) slots seat.id seat.me STATE
          (λ n. either (n == taken) FREE n) (λ found after. found ≢ taken → after ≡ seat.me))
          (sym c.self.invariant.1) (leaves_it holds seat.id taken FREE seat.me has),
    )
