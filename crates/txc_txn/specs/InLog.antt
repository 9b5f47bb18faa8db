-- Acts that are the entries at their places.
use Rattle.std.specs.Prelude.{◌≡◌, ℕ, Some, List, slice_get}
use Rattle.txc_base.specs.declared.entry.Entry.{Entry}
use Rattle.txc_base.specs.declared.tag.Tag.{Tag}
use Rattle.txc_txn.specs.declared.deed.Deed.{Deed}
use Rattle.txc_txn.specs.declared.receipt.Receipt.{Receipt}

-- the log of each channel
abbrev pub Logs : Type 0
Logs = ℕ → List Entry

-- an act of a transaction is the entry at its place
abbrev pub IsInLog : Logs → Tag → Deed → Type 0
IsInLog logs tag deed = slice_get (logs deed.chan) deed.place ≡ Some (record { tag = tag; act = deed.act })

-- each of these acts is the entry at its place
abbrev pub ActsAreInLog : Logs → Tag → List Deed → Type 0
ActsAreInLog logs tag deeds = (i : ℕ) (deed : Deed) → slice_get deeds i ≡ Some deed → IsInLog logs tag deed

-- each act of a receipt is the entry at its place
abbrev pub ReceiptIsInLog : Logs → Receipt → Type 0
ReceiptIsInLog logs receipt = ActsAreInLog logs receipt.tag receipt.acts
