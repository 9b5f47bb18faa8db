-- One history: a report is what one thread would have given.
use Rattle.txc_txn.specs.Opening.{opening_map}
use Rattle.std.specs.Prelude.{◌≡◌, ℕ, Some, List, [], ◌∷◌, slice_get, IsPermutation, IsSorted}
use Rattle.std.specs.declared.cmp.Ordering.{Ordering}
use Rattle.std.specs.Ordering.{nat_cmp, ordering_then}
use Rattle.txc_base.specs.declared.tag.Tag.{Tag}
use Rattle.txc_chan.specs.declared.account.Account.{Account}
use Rattle.txc_chan.specs.declared.decl.Decl.{Decl}
use Rattle.txc_chan.specs.Logged.{Logged}
use Rattle.txc_txn.specs.declared.receipt.Receipt.{Receipt}
use Rattle.txc_txn.specs.declared.report.Report.{Report}
use Rattle.txc_txn_check.specs.Limits.{CheckedView}
use Rattle.txc_txn.specs.Maps.{Map, settle_all}
use Rattle.txc_txn.specs.Run.{receipt_of}
use Rattle.txc_txn.specs.Transaction.{State, Kept, kept_tag, transaction}
use Rattle.txc_txn_history.specs.Events.{Event, events_from, asked, AreInTurn}

-- on these channels the transaction, tried with this tag, commits, gives exactly this receipt, and leaves these
-- channels
pub record Happens (m : Map) (tag : Tag) (plan : CheckedView) (receipt : Receipt) (left : Map) : Type 0 where
  pub state : State
  pub kept : transaction m tag plan.declared plan.steps ≡ Kept state
  pub gives : receipt ≡ receipt_of (kept_tag m tag plan.declared) state
  pub leaves : left ≡ settle_all state.chans receipt.tag.stamp plan.declared

-- on these channels the transaction of an event commits and gives its receipt, and leaves these channels
abbrev pub Occurs : Map → Event → Map → Type 0
Occurs m event left = Happens m (asked event) event.plan event.receipt left

-- these transactions commit one after another, give their receipts, and leave these channels
abbrev pub Runs : Map → List Event → Map → Type 0
Runs m [] left = left ≡ m
Runs m (event ∷ events) left = (next : Map) × (Occurs m event next × Runs next events left)

-- the order of events by stamp, then by seat, then by serial
abbrev pub by_stamp : Event → Event → Ordering
by_stamp one other = ordering_then (nat_cmp one.receipt.tag.stamp other.receipt.tag.stamp)
    (ordering_then (nat_cmp one.seat other.seat) (nat_cmp one.receipt.tag.serial other.receipt.tag.serial))

-- each seat's receipts are in turn, and the order has every transaction with a receipt once, by stamp, seat and serial
pub record IsOrder (seats : List (List CheckedView)) (receipts : List (List Receipt))
    (order : List Event) : Type 0 where
  pub in_turn : AreInTurn receipts
  pub each_once : IsPermutation (events_from 0 seats receipts) order
  pub sorted : IsSorted by_stamp order

-- an account has this channel's closed flag, log and lists
pub record Shows (account : Account) (logged : Logged) : Type 0 where
  pub closed : account.closed ≡ logged.channel.closed
  pub log : account.log ≡ logged.log
  pub lists : account.remaining ≡ logged.channel.lists

-- from these channels on, the order is a run of one thread that gives every receipt exactly and ends in the channels
-- that the accounts show
pub record IsOneRun (m : Map) (order : List Event) (accounts : List Account) : Type 0 where
  pub left : Map
  pub runs : Runs m order left
  pub tells : (n : ℕ) (account : Account) → slice_get accounts n ≡ Some account → Shows account (left n)

-- each seat's receipts are in turn; the order has every transaction with a receipt once, by stamp, seat and serial, and
-- is a run of one thread on the declared channels
pub record IsOneOrder (decls : List Decl) (seats : List (List CheckedView)) (report : Report) (order : List Event)
    : Type 0 where
  pub is_order : IsOrder seats report.receipts order
  pub is_run : IsOneRun (opening_map decls) order report.accounts
