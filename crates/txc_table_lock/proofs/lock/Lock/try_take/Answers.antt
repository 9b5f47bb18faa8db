use Rattle.std.proofs.Common.{rules, subst, sym, ◌≡◌, ◌≢◌, ◌==◌, [], ℕ}
use prog.Atomic.{either}
use Rattle.atomic_table.specs.Table.{Allows, Me}
use Rattle.txc_table_lock.specs.Lock.{HasValue, IsKept}
use Rattle.txc_table_lock.specs.declared.words.TheConstants.{STATE, TAKEN}
use Rattle.txc_table_lock.proofs.Rules.{taken_is_taken, takes_it}
use Rattle.txc_table_lock.proofs.lock.Lock.try_take.Goals as goal

pub compare_exchange-found-requires : goal.compare_exchange-found-requires
compare_exchange-found-requires g c =
    let seat = c.load_new_seat-seat.result.1 in let free = c.args.free in
    let label = c.self.inside.table.shared.key in let holds = g.F.LockInvariant.holds label in
    let then : Me g.row.X.Denot g.row.G.Denot → ℕ → Me g.row.X.Denot g.row.G.Denot → Type 0 = λ before found after.
    (found ≡ free → HasValue (g.F.LockInvariant.holds before.0) after) × (found ≢ free → after ≡ before) in (
      search rules,
      search rules,
      subst (λ (x : Me g.row.X.Denot g.row.G.Denot). Allows (IsKept holds) c.self.inside.table.shared.table_id.slots
          seat.id x STATE (λ n. either (n == free) TAKEN n) (then x)) (sym c.load_new_seat-seat.ensures.2)
          (subst (λ slots. Allows (IsKept holds) slots seat.id (label, []) STATE (λ n. either (n == free) TAKEN n)
          (then (label, []))) (sym c.self.invariant.1)
          (takes_it holds seat.id free TAKEN label c.requires taken_is_taken)),
    )
