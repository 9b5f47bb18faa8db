use Rattle.std.proofs.Common.{rules, subst, sym, ◌≡◌, ◌==◌}
use prog.Atomic.{either}
use Rattle.atomic_table.specs.Table.{Allows}
use Rattle.txc_table_lock.specs.Lock.{IsKept}
use Rattle.txc_table_lock.specs.declared.words.TheConstants.{STATE}
use Rattle.txc_table_lock.proofs.Rules.{marks_it}
use Rattle.txc_table_lock.proofs.lock.Lock.mark.Goals as goal

pub compare_exchange-found-requires : goal.compare_exchange-found-requires
compare_exchange-found-requires g c =
    let seat = c.load_new_seat-seat.result.1 in let seen = c.args.seen in let taken = c.args.taken in
    let holds = g.F.LockInvariant.holds c.self.inside.table.shared.key in (
      search rules,
      search rules,
      subst (λ slots. Allows (IsKept holds) slots seat.id seat.me STATE
          (λ n. either (n == seen) taken n) (λ _ after. after ≡ seat.me))
          (sym c.self.invariant.1) (marks_it holds seat.id seen taken seat.me c.requires),
    )
