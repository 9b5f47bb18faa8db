use Rattle.std.proofs.Common.{sym, ◌∙◌, subst, List}
use Rattle.txc_base.specs.declared.kind.Kind.{Kind}
use Rattle.txc_txn.specs.Opening.{HasKinds}
use Rattle.txc_table_audit.proofs.Opening.{opening_has}
use Rattle.txc_table_audit.proofs.rerun.Rerun.build.Goals as goal

pub invariant_of-result : goal.invariant_of-result
invariant_of-result c =
    subst (λ (kinds : List Kind). HasKinds c.in-Ok.plain kinds) (sym (c.in_ok-kinds.ensures.items ∙ c.kinds_of.ensures))
    (opening_has c.in-Ok.plain c.args.decls.now c.in-Ok.ensures.ok)
