-- Receipts that are in turn so far.
use Rattle.std.proofs.Common.{◌≡◌, ◌∙◌, sym, ap, subst, ◌⊎◌, ⊎_elim, ℕ, zero, suc, ◌+◌, ◌<◌, ◌≤◌, Some, List, [], ◌∷◌}
use Rattle.std.proofs.Common.{length, slice_get, slice_index_or, arith}
use Rattle.std.proofs.lemmas.Option.{get_or_from_slice_get, slice_get-get_or, slice_get_within}
use Rattle.std.proofs.Math.Nat.{eq-or-lt_of_le}
use Rattle.txc_txn.specs.declared.receipt.Receipt.{Receipt}
use Rattle.txc_txn_history.specs.Events.{IsInTurn}
use Rattle.txc_table_audit.specs.ReceiptKeys.{stamp_before}

-- the first so many receipts of a seat name it, with rising serials and with stamps that don't fall
pub record IsInTurnSoFar (seat : ℕ) (receipts : List Receipt) (count : ℕ) : Type 0 where
  pub own : (n : ℕ) (one : Receipt) → n < count → slice_get receipts n ≡ Some one → one.tag.seat ≡ seat
  pub serials : (n : ℕ) (one next : Receipt) → n + 1 < count → slice_get receipts n ≡ Some one
      → slice_get receipts (n + 1) ≡ Some next
      → one.tag.serial < next.tag.serial
  pub stamps : (n : ℕ) (one next : Receipt) → n + 1 < count → slice_get receipts n ≡ Some one
      → slice_get receipts (n + 1) ≡ Some next
      → one.tag.stamp ≤ next.tag.stamp

-- none yet
pub none_yet : (seat : ℕ) (receipts : List Receipt) → IsInTurnSoFar seat receipts 0
none_yet seat receipts = record {
  own = λ n one lt at. absurd (omega (arith, lt));
  serials = λ n one next lt at at'. absurd (omega (arith, lt));
  stamps = λ n one next lt at at'. absurd (omega (arith, lt));
}

-- all of them
pub all_in_turn : (seat : ℕ) (receipts : List Receipt) (count : ℕ) → length receipts ≤ count
    → IsInTurnSoFar seat receipts count → IsInTurn seat receipts
all_in_turn seat receipts count le so = record {
  own = λ n d lt. so.own n (slice_index_or receipts n d) (omega (arith, le, lt)) (slice_get-get_or receipts n d lt);
  serials = λ n one next at at'. so.serials n one next (omega (arith, le, slice_get_within receipts (n + 1) next at'))
      at at';
  stamps = λ n one next at at'. so.stamps n one next (omega (arith, le, slice_get_within receipts (n + 1) next at')) at
      at';
}

-- the stamp of the receipt before
pub stamp_of_last : (receipts : List Receipt) (before nth : ℕ) (one : Receipt) → slice_get receipts nth ≡ Some one
    → one.tag.stamp ≡ stamp_before before receipts (suc nth)
stamp_of_last [] before nth one at = absurd (cc)
stamp_of_last (receipt ∷ receipts) before zero one at = let same : receipt ≡ one = cc in
    sym (ap (λ (r : Receipt). r.tag.stamp) same)
stamp_of_last (receipt ∷ receipts) before (suc nth) one at = stamp_of_last receipts receipt.tag.stamp nth one at

-- one that is not at the last place is at an earlier one
earlier : (n count : ℕ) → n < count + 1 → (n ≡ count) ⊎ (n < count)
earlier n count lt = eq-or-lt_of_le (omega (arith, lt))

-- one more, which names the seat and follows the one before it
one_more : (seat : ℕ) (receipts : List Receipt) (nth : ℕ) (d : Receipt) → nth < length receipts
    → (slice_index_or receipts nth d).tag.seat ≡ seat
    → ((k : ℕ) (one : Receipt) → k + 1 ≡ nth → slice_get receipts k ≡ Some one
    → (one.tag.serial < (slice_index_or receipts nth d).tag.serial)
    × (one.tag.stamp ≤ (slice_index_or receipts nth d).tag.stamp))
    → IsInTurnSoFar seat receipts nth → IsInTurnSoFar seat receipts (nth + 1)
one_more seat receipts nth d lt names follows so = record {
  own = λ n one below at. ⊎_elim (λ here. subst (λ (r : Receipt). r.tag.seat ≡ seat) (here_is n one here at) names)
      (λ lower. so.own n one lower at) (earlier n nth below);
  serials = λ n one next below at at'. ⊎_elim
      (λ here. subst (λ (r : Receipt). one.tag.serial < r.tag.serial) (here_is (n + 1) next here at')
      (follows n one here at).0)
      (λ lower. so.serials n one next lower at at') (earlier (n + 1) nth below);
  stamps = λ n one next below at at'. ⊎_elim
      (λ here. subst (λ (r : Receipt). one.tag.stamp ≤ r.tag.stamp) (here_is (n + 1) next here at')
      (follows n one here at).1)
      (λ lower. so.stamps n one next lower at at') (earlier (n + 1) nth below);
}
  where
    here_is : (n : ℕ) (one : Receipt) → n ≡ nth → slice_get receipts n ≡ Some one → slice_index_or receipts nth d ≡ one
    here_is n one here at = get_or_from_slice_get receipts nth one d (ap (slice_get receipts) (sym here) ∙ at)

-- the first one
pub first_more : (seat : ℕ) (receipts : List Receipt) (nth : ℕ) (d : Receipt) → nth ≤ 0 → nth < length receipts
    → (slice_index_or receipts nth d).tag.seat ≡ seat
    → IsInTurnSoFar seat receipts nth → IsInTurnSoFar seat receipts (nth + 1)
first_more seat receipts nth d first lt names so =
    one_more seat receipts nth d lt names (λ k one next at. absurd (omega (arith, first, next))) so

-- one that follows the one before it
pub next_more : (seat : ℕ) (receipts : List Receipt) (before nth : ℕ) (e d : Receipt) → before + 1 ≡ nth
    → nth < length receipts → (slice_index_or receipts nth d).tag.seat ≡ seat
    → ((slice_index_or receipts before e).tag.serial < (slice_index_or receipts nth d).tag.serial)
    × ((slice_index_or receipts before e).tag.stamp ≤ (slice_index_or receipts nth d).tag.stamp)
    → IsInTurnSoFar seat receipts nth → IsInTurnSoFar seat receipts (nth + 1)
next_more seat receipts before nth e d next lt names follows so = one_more seat receipts nth d lt names
    (λ k one k_next at.
    let same : before ≡ k = omega (arith, next, k_next) in
    subst (λ (r : Receipt). (r.tag.serial < (slice_index_or receipts nth d).tag.serial)
    × (r.tag.stamp ≤ (slice_index_or receipts nth d).tag.stamp))
    (get_or_from_slice_get receipts before one e (ap (slice_get receipts) same ∙ at)) follows)
    so

-- a receipt names another seat
pub other_seat : (seat : ℕ) (receipts : List Receipt) (nth : ℕ) (d : Receipt) → nth < length receipts
    → ¬ ((slice_index_or receipts nth d).tag.seat ≡ seat)
    → ¬ IsInTurn seat receipts
other_seat seat receipts nth d lt other turn = other (turn.own nth d lt)

-- a receipt does not follow the one before it
pub not_next : (seat : ℕ) (receipts : List Receipt) (before nth : ℕ) (e d : Receipt) → before + 1 ≡ nth
    → nth < length receipts
    → ¬ (((slice_index_or receipts before e).tag.serial < (slice_index_or receipts nth d).tag.serial)
    × ((slice_index_or receipts before e).tag.stamp ≤ (slice_index_or receipts nth d).tag.stamp))
    → ¬ IsInTurn seat receipts
not_next seat receipts before nth e d next lt not turn =
    let at : slice_get receipts before ≡ Some (slice_index_or receipts before e) =
    slice_get-get_or receipts before e (omega (arith, lt, next)) in
    let at' : slice_get receipts (before + 1) ≡ Some (slice_index_or receipts nth d) = ap (slice_get receipts) next
    ∙ slice_get-get_or receipts nth d lt in
    not (
      turn.serials before (slice_index_or receipts before e) (slice_index_or receipts nth d) at at',
      turn.stamps before (slice_index_or receipts before e) (slice_index_or receipts nth d) at at',
    )
