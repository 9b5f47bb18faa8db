-- What an audit can return for a run that is one serial history.
use Rattle.std.specs.Prelude.{◌≡◌, List}
use Rattle.txc_chan.specs.declared.decl.Decl.{Decl}
use Rattle.txc_txn_check.specs.Limits.{CheckedView}
use Rattle.txc_txn.specs.declared.report.Report.{Report}
use Rattle.txc_table_audit.specs.Conditions.{IsAuditable, IsFirstUnmet}
use Rattle.txc_table_audit.specs.declared.fault.AuditFault.TheVariants.{NoMemory}
use Rattle.yalwythen_work.specs.declared.audit_error.AuditError.{AuditError}
use Rattle.yalwythen_work.specs.declared.audit_error.AuditError.TheVariants.{Unmet, Mismatch}

-- not a fault of the history: the report cannot be of these channels and transactions, or allocation failed
abbrev pub IsNoFault : AuditError → Type 0
IsNoFault (Unmet condition) = Unit {0}
IsNoFault (Mismatch fault) = fault ≡ NoMemory

-- why an audit of this report failed: the first condition that is not met, or the report can be audited and is not what
-- one thread would have produced, or allocation failed
abbrev pub IsUnmet : List Decl → List (List CheckedView) → Report → AuditError → Type 0
IsUnmet decls plans report (Unmet condition) = IsFirstUnmet decls plans report condition
IsUnmet decls plans report (Mismatch fault) = IsAuditable decls plans report
