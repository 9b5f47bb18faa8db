-- The result of a seat that runs its transactions in order.
use Rattle.std.specs.Prelude.{◌≡◌, ◌≢◌, ◌⊎◌, ℕ, ◌<◌, List, [], ◌∷◌, length, slice_index_or}
use Rattle.txc_base.specs.declared.stop.Stop.TheVariants.{NoMemory}
use Rattle.txc_chan.specs.declared.decl.Decl.{Decl}
use Rattle.txc_txn_check.specs.Limits.{CheckedView}
use Rattle.txc_table_seat.specs.Seated.{SeatCommits, next_tag, no_commits, with_receipt}
use Rattle.txc_cmd_report.specs.declared.seat_end.SeatEnd.{SeatEnd}
use Rattle.txc_cmd_report.specs.declared.seat_end.SeatEnd.TheVariants.{Finished, Stalled, Stopped}
use Rattle.txc_table.specs.Outcome.{Answers, AreLawful}
use Rattle.txc_txn.specs.declared.ran.Ran.TheVariants.{Kept as RanKept}
use Rattle.txc_txn.specs.declared.receipt.Receipt.{Receipt}
use Rattle.txc_txn.specs.Maps.{Map}
use Rattle.txc_txn.specs.Transaction.{Again, Aborted, kept_tag, transaction}

-- on some lawful channels, with logs at least as long as the seat's shares, the transaction gives the seat this receipt
abbrev pub IsKeptOf : List Decl → CheckedView → SeatCommits → Receipt → Type 0
IsKeptOf decls plan seat receipt = (m : Map) × AreLawful decls seat.receipts m
    × Answers (kept_tag m (next_tag seat) plan.declared) (transaction m (next_tag seat) plan.declared plan.steps)
    (RanKept receipt)

-- on some such channels the transaction does not commit, and the seat ends so; a failed allocation needs no reason
abbrev pub IsEndOf : List Decl → CheckedView → SeatCommits → SeatEnd → Type 0
IsEndOf decls plan seat Finished = ⊥
IsEndOf decls plan seat (Stalled cause) = (m : Map) × AreLawful decls seat.receipts m
    × (transaction m (next_tag seat) plan.declared plan.steps ≡ Again cause)
IsEndOf decls plan seat (Stopped stop) = stop ≢ NoMemory → ((m : Map) × AreLawful decls seat.receipts m
    × (transaction m (next_tag seat) plan.declared plan.steps ≡ Aborted stop))

-- a seat runs these transactions in order, until all have committed or one does not commit: the seat afterwards, and
-- how it ends
abbrev pub Serves : List Decl → List CheckedView → SeatCommits → SeatCommits → SeatEnd → Type 0
Serves decls [] before after end = (after ≡ before) × (end ≡ Finished)
Serves decls (plan ∷ plans) before after end =
    ((receipt : Receipt) × IsKeptOf decls plan before receipt
    × Serves decls plans (with_receipt before plan receipt) after end)
    ⊎ ((after ≡ before) × IsEndOf decls plan before end)

-- the seat with this number has these receipts and this end
pub record IsServed (decls : List Decl) (plans : List CheckedView) (number : ℕ) (receipts : List Receipt)
    (end : SeatEnd)
    : Type 0 where
  pub after : SeatCommits
  pub its : after.receipts ≡ receipts
  pub serves : Serves decls plans (no_commits number) after end

-- each seat has its receipts and its end
abbrev pub AreServed : List Decl → List (List CheckedView) → List (List Receipt) → List SeatEnd → Type 0
AreServed decls seats receipts ends = (n : ℕ) → n < length seats
    → IsServed decls (slice_index_or seats n []) n (slice_index_or receipts n []) (slice_index_or ends n Finished)
