-- What the audit returns for a report that is one history.
use Rattle.std.proofs.Common.{◌≡◌, refl, ◌∙◌, ap, subst, ℕ, List, map}
use Rattle.txc_chan.specs.declared.decl.Decl.{Decl}
use Rattle.txc_txn_check.specs.Limits.{CheckedView}
use Rattle.txc_txn.specs.Maps.{Map}
use Rattle.txc_txn.specs.Opening.{opening_map}
use Rattle.txc_txn.specs.declared.report.Report.{Report}
use Rattle.txc_table_audit.specs.declared.fault.AuditFault.{AuditFault}
use Rattle.txc_table_audit.specs.declared.fault.AuditFault.TheVariants.{WrongReply, WrongAccount, OutOfOrder, NoMemory}
use Rattle.txc_table_audit.specs.declared.ranked.Ranked.{Ranked}
use Rattle.txc_txn_history.specs.Events.{Event}
use Rattle.txc_txn_history.specs.OneOrder.{IsOneOrder, Shows}
use Rattle.txc_table_audit.specs.Ranks.{rank_of}
use Rattle.txc_table_audit.specs.Refused.{IsFirstMismatch, IsWrongEnd, Refuses}
use Rattle.txc_table_audit.proofs.OneOrder.{only_order}
use Rattle.txc_table_audit.proofs.OneRun.{occurs_at, one_end}

-- each of its transactions is kept and gives its receipt
none_unlike : (decls : List Decl) (seats : List (List CheckedView)) (report : Report) (order : List Event) (rank : ℕ)
    → IsOneOrder decls seats report order → ¬ IsFirstMismatch (opening_map decls) order rank
none_unlike decls seats report order rank is first =
    let occurs = occurs_at (opening_map decls) order is.is_run.left rank first.here first.event is.is_run.runs
    first.runs first.there in
    first.wrong occurs.0 occurs.1

-- .. and every account shows its channel
none_wrong : (decls : List Decl) (seats : List (List CheckedView)) (report : Report) (order : List Event) (chan : ℕ)
    → IsOneOrder decls seats report order → ¬ IsWrongEnd (opening_map decls) order report.accounts chan
none_wrong decls seats report order chan is end =
    let same : is.is_run.left ≡ end.left =
    one_end (opening_map decls) order is.is_run.left end.left is.is_run.runs end.runs in
    end.first.wrong (subst (λ (m : Map). Shows end.first.account (m chan)) same
    (is.is_run.tells chan end.first.account end.first.there))

-- so the only fault is `NoMemory`
pub never_refused : (decls : List Decl) (seats : List (List CheckedView)) (report : Report) (order : List Event)
    (fault : AuditFault) → IsOneOrder decls seats report order → Refuses decls seats report fault → fault ≡ NoMemory
never_refused decls seats report order (OutOfOrder seat) is says =
    absurd (says.out (is.is_order.in_turn seat says.own says.there))
never_refused decls seats report order (WrongReply rank) is says =
    let same : says.0 ≡ order = only_order seats report.receipts says.0 order says.1.0 is.is_order in
    absurd (none_unlike decls seats report order rank is
    (subst (λ (events : List Event). IsFirstMismatch (opening_map decls) events rank) same says.1.1))
never_refused decls seats report order (WrongAccount chan) is says =
    let same : says.0 ≡ order = only_order seats report.receipts says.0 order says.1.0 is.is_order in
    absurd (none_wrong decls seats report order chan is
    (subst (λ (events : List Event). IsWrongEnd (opening_map decls) events report.accounts chan) same says.1.1))
never_refused decls seats report order NoMemory is says = refl

-- and the order that is returned is its own
pub own_order : (decls : List Decl) (seats : List (List CheckedView)) (report : Report) (order : List Event)
    (ranks : List Ranked) → IsOneOrder decls seats report order
    → (other : List Event) × (IsOneOrder decls seats report other × (ranks ≡ map rank_of other))
    → ranks ≡ map rank_of order
own_order decls seats report order ranks is named =
    named.1.1 ∙ ap (map rank_of) (only_order seats report.receipts named.0 order named.1.0.is_order is.is_order)
