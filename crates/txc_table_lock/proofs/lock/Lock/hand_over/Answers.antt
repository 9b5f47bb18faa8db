use Rattle.std.proofs.Common.{rules, subst, sym, refl, ◌≡◌, ◌≢◌}
use Rattle.atomic_table.specs.Table.{Allows, Me}
use Rattle.txc_table_lock.specs.Lock.{HasValue, IsKept, LockView}
use Rattle.txc_table_lock.specs.declared.words.TheConstants.{RESERVED, STATE}
use Rattle.txc_table_lock.proofs.Rules.{hands_over}
use Rattle.txc_table_lock.proofs.lock.Lock.hand_over.Goals as goal

pub store-requires : goal.store-requires
store-requires g c =
    let seat = c.args.seat.now in let holds = g.F.LockInvariant.holds c.self.inside.table.shared.key in
    let has = subst (λ (l : LockView g.row.G.Denot). HasValue (g.F.LockInvariant.holds l.label) seat.me)
    (sym c.self.view_is)
    c.requires.has in
    let then : Me g.row.X.Denot g.row.G.Denot → Type 0 = λ after. RESERVED ≢ RESERVED → after ≡ seat.me in (
      search rules,
      search rules,
      subst (λ slots. Allows (IsKept holds) slots seat.id seat.me STATE (λ _. RESERVED) (λ _. then))
          (sym c.self.invariant.1) (hands_over holds seat.id RESERVED seat.me then has (λ after ne. absurd (ne refl))),
    )
