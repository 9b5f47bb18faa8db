-- What is known of the transactions of seats.
use Rattle.std.specs.Prelude.{◌≡◌, ℕ, zero, suc, ◌+◌, List, [], ◌∷◌, length}
use Rattle.txc_base.specs.declared.entry.Entry.{Entry}
use Rattle.txc_base.specs.declared.tag.Tag.{Tag}
use Rattle.txc_chan.specs.Reserved.{one_if}
use Rattle.txc_chan.specs.declared.decl.Decl.{Decl}
use Rattle.txc_txn_check.specs.Limits.{CheckedView}
use Rattle.txc_txn.specs.declared.receipt.Receipt.{Receipt}
use Rattle.txc_txn_history.specs.Commits.{Has}
use Rattle.txc_txn_history.specs.Events.{Event}
use Rattle.txc_txn_history.specs.Placed.{IsPlacedIn, is_among}

-- how many of these transactions declare a channel
abbrev pub uses_in : ℕ → List CheckedView → ℕ
uses_in n [] = 0
uses_in n (plan ∷ plans) = one_if (is_among plan.declared n) + uses_in n plans

-- how many of these transactions declare each of the given number of channels, from this channel on
abbrev pub uses_from : ℕ → ℕ → List CheckedView → List ℕ
uses_from n zero plans = []
uses_from n (suc count) plans = uses_in n plans ∷ uses_from (suc n) count plans

-- how many of the transactions of all seats declare a channel
abbrev pub uses_all : ℕ → List (List CheckedView) → ℕ
uses_all n [] = 0
uses_all n (plans ∷ seats) = uses_in n plans + uses_all n seats

-- how many of the transactions of all seats declare each of the given number of channels, from this channel on
abbrev pub all_uses_from : ℕ → ℕ → List (List CheckedView) → List ℕ
all_uses_from n zero seats = []
all_uses_from n (suc count) seats = uses_all n seats ∷ all_uses_from (suc n) count seats

-- each of these seats has a receipt for each transaction
abbrev pub AreEven : List (List CheckedView) → List (List Receipt) → Type 0
AreEven [] [] = Unit {0}
AreEven (plans ∷ seats) (own ∷ receipts) = (length plans ≡ length own) × AreEven seats receipts
AreEven seats receipts = ⊥

module _ {T : Type 0} (tag_of : T → Tag) (len_of : T → ℕ) where
  -- each of these transactions is placed in the histories of its channels
  abbrev pub ArePlaced : (ℕ → Decl) → (ℕ → List Entry) → (ℕ → List T) → List Event → Type 0
  ArePlaced decl logs marks events = (event : Event) → Has events event
      → IsPlacedIn tag_of len_of decl logs marks event
