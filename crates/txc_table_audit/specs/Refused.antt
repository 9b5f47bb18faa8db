-- The meaning of an audit fault.
use Rattle.std.specs.Prelude.{◌≡◌, ℕ, ◌<◌, Some, List, slice_get, take}
use Rattle.txc_chan.specs.declared.account.Account.{Account}
use Rattle.txc_chan.specs.declared.decl.Decl.{Decl}
use Rattle.txc_txn.specs.declared.receipt.Receipt.{Receipt}
use Rattle.txc_txn.specs.declared.report.Report.{Report}
use Rattle.txc_txn_check.specs.Limits.{CheckedView}
use Rattle.txc_txn.specs.Maps.{Map}
use Rattle.txc_table_audit.specs.declared.fault.AuditFault.{AuditFault}
use Rattle.txc_table_audit.specs.declared.fault.AuditFault.TheVariants.{WrongReply, WrongAccount, OutOfOrder, NoMemory}
use Rattle.txc_txn_history.specs.Events.{Event, AreInTurn, IsInTurn}
use Rattle.txc_txn.specs.Opening.{opening_map}
use Rattle.txc_txn_history.specs.OneOrder.{IsOrder, Occurs, Runs, Shows}

-- this seat is the first whose receipts are not in turn
pub record IsFirstOut (receipts : List (List Receipt)) (seat : ℕ) : Type 0 where
  pub own : List Receipt
  pub there : slice_get receipts seat ≡ Some own
  pub out : ¬ IsInTurn seat own
  pub first : (n : ℕ) (other : List Receipt) → n < seat → slice_get receipts n ≡ Some other → IsInTurn n other

-- from these channels on, the events before this rank run; then the event at this rank does not commit, or it commits
-- with another receipt
pub record IsFirstMismatch (m : Map) (order : List Event) (rank : ℕ) : Type 0 where
  pub here : Map
  pub runs : Runs m (take rank order) here
  pub event : Event
  pub there : slice_get order rank ≡ Some event
  pub wrong : (left : Map) → ¬ Occurs here event left

-- this channel is the first whose account differs from how the channels are left
pub record IsFirstWrong (accounts : List Account) (left : Map) (chan : ℕ) : Type 0 where
  pub account : Account
  pub there : slice_get accounts chan ≡ Some account
  pub wrong : ¬ Shows account (left chan)
  pub first : (n : ℕ) (other : Account) → n < chan → slice_get accounts n ≡ Some other → Shows other (left n)

-- from these channels on, the order runs, and this channel is the first whose account differs from how it is left
pub record IsWrongEnd (m : Map) (order : List Event) (accounts : List Account) (chan : ℕ) : Type 0 where
  pub left : Map
  pub runs : Runs m order left
  pub first : IsFirstWrong accounts left chan

-- the meaning of a fault for an order that is run from these channels on
abbrev pub RefusesRun : Map → List Event → List Account → AuditFault → Type 0
RefusesRun m order accounts (OutOfOrder seat) = ⊥
RefusesRun m order accounts (WrongReply rank) = IsFirstMismatch m order rank
RefusesRun m order accounts (WrongAccount chan) = IsWrongEnd m order accounts chan
RefusesRun m order accounts NoMemory = Unit {0}

-- the meaning of a fault; `NoMemory` says that each seat's receipts are in turn, which is tested first
abbrev pub Refuses : List Decl → List (List CheckedView) → Report → AuditFault → Type 0
Refuses decls seats report (OutOfOrder seat) = IsFirstOut report.receipts seat
Refuses decls seats report (WrongReply rank) =
    (order : List Event) × (IsOrder seats report.receipts order × IsFirstMismatch (opening_map decls) order rank)
Refuses decls seats report (WrongAccount chan) =
    (order : List Event) × (IsOrder seats report.receipts order
    × IsWrongEnd (opening_map decls) order report.accounts chan)
Refuses decls seats report NoMemory = AreInTurn report.receipts
