-- The first condition that isn't met.
use Rattle.std.proofs.Common.{ℕ, ◌<◌, ◌≤◌, List, arith}
use Rattle.txc_chan.specs.declared.decl.Decl.{Decl}
use Rattle.txc_txn_check.specs.Limits.{CheckedView}
use Rattle.txc_txn.specs.declared.report.Report.{Report}
use Rattle.txc_table_audit.specs.declared.condition.Condition.{Condition}
use Rattle.txc_table_audit.specs.declared.condition.Condition.TheVariants.{FewChannels, ChannelsCanBeMade}
use Rattle.txc_table_audit.specs.declared.condition.Condition.TheVariants.{AccountForEach}
use Rattle.txc_table_audit.specs.declared.condition.Condition.TheVariants.{FewSeats, ReceiptsForEach, TransactionsFit}
use Rattle.txc_table_audit.specs.Conditions.{Holds, place_of}

-- those before the kth hold, where each of them does
pub earlier : (decls : List Decl) (seats : List (List CheckedView)) (report : Report) (k : ℕ) → k ≤ 5
    → (0 < k → Holds FewChannels decls seats report)
    → (1 < k → Holds ChannelsCanBeMade decls seats report) → (2 < k → Holds AccountForEach decls seats report)
    → (3 < k → Holds FewSeats decls seats report)
    → (4 < k → Holds ReceiptsForEach decls seats report) → (other : Condition) → place_of other < k
    → Holds other decls seats report
earlier decls seats report k le few made accounts narrow begun FewChannels lt = few lt
earlier decls seats report k le few made accounts narrow begun ChannelsCanBeMade lt = made lt
earlier decls seats report k le few made accounts narrow begun AccountForEach lt = accounts lt
earlier decls seats report k le few made accounts narrow begun FewSeats lt = narrow lt
earlier decls seats report k le few made accounts narrow begun ReceiptsForEach lt = begun lt
earlier decls seats report k le few made accounts narrow begun TransactionsFit lt = absurd (omega (arith, lt, le))
