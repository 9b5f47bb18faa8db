-- What is known of the channels and the seats of a table after all seats have left.
use Rattle.std.specs.Prelude.{◌≡◌, ℕ, ◌≤◌, Some, List, [], length, map, filter, slice_get}
use Rattle.txc_base.specs.declared.entry.Entry.{Entry}
use Rattle.txc_base.specs.declared.tag.Tag.{Tag}
use Rattle.txc_chan.specs.declared.account.Account.{Account}
use Rattle.txc_chan.specs.declared.decl.Decl.{Decl}
use Rattle.txc_txn_check.specs.Limits.{CheckedView}
use Rattle.txc_txn.specs.Opening.{opening_map}
use Rattle.txc_txn.specs.declared.report.Report.{Report}
use Rattle.txc_txn_history.specs.Commits.{Has, Rises}
use Rattle.txc_txn_history.specs.Events.{AreInTurn, Event, events_from}
use Rattle.txc_txn_history.specs.OneOrder.{Shows}
use Rattle.txc_txn_history.specs.Placed.{IsPlacedIn, is_among, stood}

module _ {T : Type 0} (tag_of : T → Tag) (len_of : T → ℕ) where
  -- the channels have these logs and marks, the seats ran these transactions and have the report's receipts: the stamps
  -- of the marks of each channel rise; each transaction with a receipt is placed in each channel that it declares; and
  -- no channel has more marks than such transactions
  pub record AreHistories (decls : List Decl) (decl : ℕ → Decl) (logs : ℕ → List Entry) (marks : ℕ → List T)
      (seats : List (List CheckedView)) (report : Report) : Type 0 where
    pub opening : (n : ℕ) → stood tag_of len_of (decl n) (logs n) [] ≡ opening_map decls n
    pub rises : (n : ℕ) → Rises (λ (tag : Tag). tag.stamp) (map tag_of (marks n))
    pub in_turn : AreInTurn report.receipts
    pub placed : (event : Event) → Has (events_from 0 seats report.receipts) event
        → IsPlacedIn tag_of len_of decl logs marks event
    pub counted : (n : ℕ) → length (marks n)
        ≤ length (filter (λ event. is_among event.plan.declared n) (events_from 0 seats report.receipts))
    pub shown : (n : ℕ) (account : Account) → slice_get report.accounts n ≡ Some account
        → Shows account (stood tag_of len_of (decl n) (logs n) (marks n))
