-- A seat that runs its transactions in order.
use Rattle.std.proofs.Common.{subst, sym, ap, ◌≡◌, ◌≤◌, ◌<◌, inl, inr, ℕ, zero, suc, ◌+◌, arith, List, [], ◌∷◌, length}
use Rattle.std.proofs.Common.{Result, Ok, Err, drop, length-append, slice_index_or}
use Rattle.std.proofs.Math.Seq.{drop-cons}
use Rattle.txc_chan.specs.declared.decl.Decl.{Decl}
use Rattle.txc_txn_check.specs.Limits.{CheckedView}
use Rattle.txc_table_seat.specs.Seated.{SeatCommits, with_receipt}
use Rattle.txc_base.specs.declared.cause.Cause.{Cause}
use Rattle.txc_base.specs.declared.stop.Stop.{Stop}
use Rattle.txc_cmd_report.specs.declared.seat_end.SeatEnd.{SeatEnd}
use Rattle.txc_cmd_report.specs.declared.seat_end.SeatEnd.TheVariants.{Finished, Stalled, Stopped}
use Rattle.txc_table.specs.Outcome.{AreLawful, IsTransacted, Tells}
use Rattle.txc_table.specs.declared.tried.Tried.{Tried}
use Rattle.txc_table.specs.declared.tried.Tried.TheVariants.{Kept, Retry}
use Rattle.txc_txn.specs.declared.receipt.Receipt.{Receipt}
use Rattle.txc_txn.specs.Maps.{Map}
use Rattle.txc_cmd_threads.specs.Serves.{Serves, IsEndOf, IsKeptOf}

-- the number of a seat stays
pub serves_number : (lines : List Decl) (plans : List CheckedView) (before after : SeatCommits) (end : SeatEnd)
    → Serves lines plans before after end → after.number ≡ before.number
serves_number lines [] before after end s = ap (λ (x : SeatCommits). x.number) s.0
serves_number lines (plan ∷ plans) before after end (inl s) = serves_number lines plans (with_receipt before plan s.0)
    after
    end s.2
serves_number lines (plan ∷ plans) before after end (inr s) = ap (λ (x : SeatCommits). x.number) s.0

-- where the next one isn't kept, that ends it
pub ends_here : (lines : List Decl) (plans : List CheckedView) (at : ℕ) (plan : CheckedView) (seat after : SeatCommits)
    (end : SeatEnd)
    → at < length plans → plan ≡ slice_index_or plans at plan → after ≡ seat → IsEndOf lines plan seat end
    → Serves lines (drop at plans) seat after end
ends_here lines plans at plan seat after end below is same ends =
    subst (λ (ps : List CheckedView). Serves lines ps seat after end) (sym (drop-cons plans at plan below))
    (inr (same, subst (λ (p : CheckedView). IsEndOf lines p seat end) is ends))

-- where the next one is kept, the others follow
pub goes_on : (lines : List Decl) (plans : List CheckedView) (at : ℕ) (plan : CheckedView)
    (seat now after : SeatCommits)
    (end : SeatEnd)
    → at < length plans → plan ≡ slice_index_or plans at plan → (receipt : Receipt)
    → IsKeptOf lines plan seat receipt → now ≡ with_receipt seat plan receipt
    → Serves lines (drop (at + 1) plans) now after end → Serves lines (drop at plans) seat after end
goes_on lines plans at plan seat now after end below is receipt kept same rest =
    let one : at + 1 ≡ suc at = omega arith in
    let more : Serves lines (drop (suc at) plans) (with_receipt seat plan receipt) after end =
    subst (λ n. Serves lines (drop n plans) (with_receipt seat plan receipt) after end) one
    (subst (λ (s : SeatCommits). Serves lines (drop (at + 1) plans) s after end) same rest) in
    subst (λ (ps : List CheckedView). Serves lines ps seat after end) (sym (drop-cons plans at plan below))
    (subst (λ (p : CheckedView). Serves lines (p ∷ drop (suc at) plans) seat after end) is (inl (receipt, kept, more)))

-- one more receipt is one more
one_more : (before : SeatCommits) (plan : CheckedView) (receipt : Receipt)
    → length (with_receipt before plan receipt).receipts ≡ length before.receipts + 1
one_more before plan receipt = length-append before.receipts (receipt ∷ [])

-- a seat loses no receipt
longer : (lines : List Decl) (plans : List CheckedView) (before after : SeatCommits) (end : SeatEnd)
    → Serves lines plans before after end → length before.receipts ≤ length after.receipts
longer lines [] before after end s = omega (arith, ap (λ (x : SeatCommits). length x.receipts) s.0)
longer lines (plan ∷ plans) before after end (inl s) =
    omega (arith, longer lines plans (with_receipt before plan s.0) after end s.2, one_more before plan s.0)
longer lines (plan ∷ plans) before after end (inr s) = omega (arith, ap (λ (x : SeatCommits). length x.receipts) s.0)

-- a seat that stalled has a transaction left
pub next_there : (lines : List Decl) (plans : List CheckedView) (before after : SeatCommits) (cause : Cause)
    → Serves lines plans before after (Stalled cause) → (j : ℕ)
    → length after.receipts ≡ length before.receipts + j → j < length plans
next_there lines [] before after cause s j many =
    let never : Stalled cause ≡ Finished = s.1 in
    cc
next_there lines (plan ∷ plans) before after cause (inl s) zero many =
    absurd (omega (
      arith,
      longer lines plans (with_receipt before plan s.0) after (Stalled cause) s.2,
      one_more before plan s.0,
      many,
    ))
next_there lines (plan ∷ plans) before after cause (inl s) (suc j) many =
    omega (
      arith,
      next_there lines plans (with_receipt before plan s.0) after cause s.2 j
          (omega (arith, many, one_more before plan s.0)),
    )
next_there lines (plan ∷ plans) before after cause (inr s) j many =
    omega (arith, many, ap (λ (x : SeatCommits). length x.receipts) s.0)

-- if it runs what it has left, it has run all
pub serves_then : (lines : List Decl) (plans : List CheckedView) (before between after : SeatCommits) (cause : Cause)
    (end : SeatEnd) → Serves lines plans before between (Stalled cause) → (j : ℕ)
    → length between.receipts ≡ length before.receipts + j → Serves lines (drop j plans) between after end
    → Serves lines plans before after end
serves_then lines [] before between after cause end s j many rest =
    let never : Stalled cause ≡ Finished = s.1 in
    cc
serves_then lines (plan ∷ plans) before between after cause end (inl s) zero many rest =
    absurd (omega (
      arith,
      longer lines plans (with_receipt before plan s.0) between (Stalled cause) s.2,
      one_more before plan s.0,
      many,
    ))
serves_then lines (plan ∷ plans) before between after cause end (inl s) (suc j) many rest =
    inl (
      s.0,
      s.1,
      serves_then lines plans (with_receipt before plan s.0) between after cause end s.2 j
          (omega (arith, many, one_more before plan s.0)) rest,
    )
serves_then lines (plan ∷ plans) before between after cause end (inr s) zero many rest =
    subst (λ (x : SeatCommits). Serves lines (plan ∷ plans) x after end) s.0 rest
serves_then lines (plan ∷ plans) before between after cause end (inr s) (suc j) many rest =
    absurd (omega (arith, many, ap (λ (x : SeatCommits). length x.receipts) s.0))

module _ {T : Type 0} (tried : T → Tried) (decls : List Decl) (plan : CheckedView) (before : SeatCommits)
    (result : Result T Stop) (after : SeatCommits) (its : IsTransacted tried decls plan before result after) where
  answered : (answer : T) (last : Tried) → result ≡ Ok answer → tried answer ≡ last
      → (m : Map) × AreLawful decls before.receipts m × Tells m before plan last after
  answered answer last is also =
      subst (λ (t : Tried). (m : Map) × AreLawful decls before.receipts m × Tells m before plan t after) also
      (subst (λ (r : Result T Stop). IsTransacted tried decls plan before r after) is its).returned

  -- the seat after a transaction that must be retried
  pub retried : (answer : T) (cause : Cause) → result ≡ Ok answer → tried answer ≡ Retry cause
      → (after ≡ before) × IsEndOf decls plan before (Stalled cause)
  retried answer cause is also =
      let found = answered answer (Retry cause) is also in
      (found.2.0, (found.0, found.1, found.2.1))

  -- the seat after a transaction that was stopped
  pub halted : (stop : Stop) → result ≡ Err stop → (after ≡ before) × IsEndOf decls plan before (Stopped stop)
  halted stop is =
      let it = subst (λ (r : Result T Stop). IsTransacted tried decls plan before r after) is its in
      (it.unchanged, it.stopped)

  -- the seat after a transaction that committed
  pub was_kept : (answer : T) (number : ℕ) → result ≡ Ok answer → tried answer ≡ Kept number
      → (receipt : Receipt) × IsKeptOf decls plan before receipt × (after ≡ with_receipt before plan receipt)
  was_kept answer number is also =
      let found = answered answer (Kept number) is also in
      (found.2.0, (found.0, found.1, found.2.3), found.2.2)
