use Rattle.std.proofs.Common.{subst}
use Rattle.txc_table_lock.specs.Lock.{LockView}
use Rattle.txc_table_lock.proofs.Rules.{left_fits}
use Rattle.txc_table_lock.proofs.lock.Lock.try_into_inner.Goals as goal

pub returns-then-is_free : goal.returns-then-is_free
returns-then-is_free g c =
    subst (λ (l : LockView g.row.G.Denot). g.F.LockInvariant.holds l.label c.take-value.result) c.self.view_is
    (left_fits (g.F.LockInvariant.holds c.self.inside.table.shared.key) _ _ c.word-state.result c.take-value.result
    c.close-closed.ensures.values.2 c.word-state.ensures c.take-value.ensures.value
    (c.is_free.ensures c.if-is_free.true))
