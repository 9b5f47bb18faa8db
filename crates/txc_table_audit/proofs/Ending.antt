-- What the audit's answers say.
use Rattle.std.proofs.Common.{◌≡◌, ◌∙◌, sym, subst, List, map, IsPermutation, IsSorted}
use Rattle.txc_chan.specs.declared.decl.Decl.{Decl}
use Rattle.txc_txn.specs.declared.receipt.Receipt.{Receipt}
use Rattle.txc_txn.specs.declared.report.Report.{Report}
use Rattle.txc_txn_check.specs.Limits.{CheckedView}
use Rattle.txc_txn.specs.Maps.{Map}
use Rattle.txc_table_audit.specs.declared.fault.AuditFault.{AuditFault}
use Rattle.txc_table_audit.specs.declared.fault.AuditFault.TheVariants.{WrongReply, WrongAccount, OutOfOrder, NoMemory}
use Rattle.txc_table_audit.specs.declared.ranked.Ranked.{Ranked}
use Rattle.txc_table_audit.specs.declared.key.ReceiptKey.{ReceiptKey}
use Rattle.txc_txn_history.specs.Events.{Event, AreInTurn, HasBegun}
use Rattle.txc_txn.specs.Opening.{opening_map}
use Rattle.txc_txn_history.specs.OneOrder.{IsOneOrder, IsOneRun, IsOrder}
use Rattle.txc_table_audit.specs.Ranks.{rank_of}
use Rattle.txc_table_audit.specs.Refused.{Refuses, RefusesRun}
use Rattle.txc_table_audit.specs.ReceiptKeys.{event_at, keys_from}
use Rattle.txc_table_audit.proofs.Sorting.{order_is, rank, ranks_are, key_by_stamp}
use Rattle.txc_table_audit.proofs.Turning.{all_places}

-- the places of a report's receipts, sorted, are an order
pub sorted_order : (seats : List (List CheckedView)) (report : Report) (receipts : List (List Receipt))
    (keys now : List ReceiptKey) → receipts ≡ report.receipts → now ≡ keys
    → HasBegun report.receipts seats → AreInTurn receipts
    → IsPermutation (keys_from 0 receipts) keys → IsSorted key_by_stamp keys
    → IsOrder seats report.receipts (map (event_at seats report.receipts) now)
sorted_order seats report receipts keys now is same begun in_turn permuted sorted =
    let order : IsOrder seats receipts (map (event_at seats receipts) keys) =
    order_is seats receipts keys (subst (λ (rs : List (List Receipt)). HasBegun rs seats) (sym is) begun) in_turn
    permuted sorted in
    subst (λ (ts : List ReceiptKey). IsOrder seats report.receipts (map (event_at seats report.receipts) ts)) (sym same)
    (subst (λ (rs : List (List Receipt)). IsOrder seats rs (map (event_at seats rs) keys)) is order)

-- .. and are those of the report, in another order
pub permuted : (reported receipts : List (List Receipt)) (keys now : List ReceiptKey) → receipts ≡ reported → now ≡ keys
    → IsPermutation (keys_from 0 receipts) keys
    → IsPermutation (keys_from 0 reported) now
permuted reported receipts keys now is same all =
    subst (λ (ts : List ReceiptKey). IsPermutation (keys_from 0 reported) ts) (sym same)
    (subst (λ (rs : List (List Receipt)). IsPermutation (keys_from 0 rs) keys) is all)

-- what a fault of the run says of the report
pub refused : (decls : List Decl) (seats : List (List CheckedView)) (report : Report) (m : Map) (order : List Event)
    (fault : AuditFault) → m ≡ opening_map decls
    → IsOrder seats report.receipts order → RefusesRun m order report.accounts fault → Refuses decls seats report fault
refused decls seats report m order (OutOfOrder seat) is sorted says = absurd says
refused decls seats report m order (WrongReply rank) is sorted says =
    (order, (sorted, subst (λ (m : Map). RefusesRun m order report.accounts (WrongReply rank)) is says))
refused decls seats report m order (WrongAccount chan) is sorted says =
    (order, (sorted, subst (λ (m : Map). RefusesRun m order report.accounts (WrongAccount chan)) is says))
refused decls seats report m order NoMemory is sorted says = sorted.in_turn

-- the answer names the order
pub accepted : (decls : List Decl) (seats : List (List CheckedView)) (report : Report) (m : Map)
    (keys : List ReceiptKey)
    (ranks : List Ranked) → m ≡ opening_map decls
    → IsOrder seats report.receipts (map (event_at seats report.receipts) keys)
    → IsPermutation (keys_from 0 report.receipts) keys
    → IsOneRun m (map (event_at seats report.receipts) keys) report.accounts → ranks ≡ map rank keys
    → (order : List Event) × (IsOneOrder decls seats report order × (ranks ≡ map rank_of order))
accepted decls seats report m keys ranks is sorted permuted run named = (
  map (event_at seats report.receipts) keys,
  (
    record {
      is_order = sorted;
      is_run =
          subst (λ (m : Map). IsOneRun m (map (event_at seats report.receipts) keys) report.accounts) is run;
    },
    named ∙ ranks_are seats report.receipts keys (all_places report.receipts keys permuted),
  ),
)
