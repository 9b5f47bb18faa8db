-- What can be audited.
use Rattle.std.specs.Prelude.{◌≡◌, ℕ, ◌<◌, ◌≤◌, None, List, length, slice_get, All}
use Rattle.txc_base.specs.declared.limits.TheConstants.{MAX_CHANNELS_OF_LARGE, MAX_SEATS_OF_LARGE}
use Rattle.txc_chan.specs.declared.decl.Decl.{Decl}
use Rattle.txc_chan.specs.Limits.{first_fault}
use Rattle.txc_txn_check.specs.Limits.{CheckedView}
use Rattle.txc_txn_check.specs.Steps.{Fits}
use Rattle.txc_txn.specs.declared.report.Report.{Report}
use Rattle.txc_table_audit.specs.declared.condition.Condition.{Condition}
use Rattle.txc_table_audit.specs.declared.condition.Condition.TheVariants.{FewChannels, ChannelsCanBeMade}
use Rattle.txc_table_audit.specs.declared.condition.Condition.TheVariants.{AccountForEach}
use Rattle.txc_table_audit.specs.declared.condition.Condition.TheVariants.{FewSeats, ReceiptsForEach, TransactionsFit}
use Rattle.txc_txn_history.specs.Events.{HasBegun}
use Rattle.txc_chan.specs.Decls.{kinds_in}

-- the meaning of a condition
abbrev pub Holds : Condition → List Decl → List (List CheckedView) → Report → Type 0
Holds FewChannels decls seats report = length decls ≤ MAX_CHANNELS_OF_LARGE
Holds ChannelsCanBeMade decls seats report = first_fault decls ≡ None
Holds AccountForEach decls seats report = length report.accounts ≡ length decls
Holds FewSeats decls seats report = length seats ≤ MAX_SEATS_OF_LARGE
Holds ReceiptsForEach decls seats report = HasBegun report.receipts seats
Holds TransactionsFit decls seats report = All (All (λ plan. Fits (slice_get (kinds_in decls)) plan.steps)) seats

-- a report that can be audited: all conditions hold
abbrev pub IsAuditable : List Decl → List (List CheckedView) → Report → Type 0
IsAuditable decls seats report = (condition : Condition) → Holds condition decls seats report

-- the index of a condition in the order in which they are tested
abbrev pub place_of : Condition → ℕ
place_of FewChannels = 0
place_of ChannelsCanBeMade = 1
place_of AccountForEach = 2
place_of FewSeats = 3
place_of ReceiptsForEach = 4
place_of TransactionsFit = 5

-- this condition is the first that does not hold
pub record IsFirstUnmet (decls : List Decl) (seats : List (List CheckedView)) (report : Report) (condition : Condition)
    : Type 0 where
  pub unmet : ¬ Holds condition decls seats report
  pub first : (other : Condition) → place_of other < place_of condition → Holds other decls seats report
