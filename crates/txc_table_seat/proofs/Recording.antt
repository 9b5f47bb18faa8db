-- A seat with one more receipt.
use Rattle.std.proofs.Common.{◌≡◌, refl, ◌∙◌, ap, ℕ, suc, ◌+◌, ◌<◌, List, [], ◌∷◌, ◌++◌, length, length-append}
use Rattle.std.proofs.Common.{slice_index_or, arith}
use Rattle.txc_txn_check.specs.Limits.{CheckedView}
use Rattle.txc_txn.specs.declared.receipt.Receipt.{Receipt}
use Rattle.txc_txn.specs.Run.{PlacesRise}
use Rattle.txc_table_seat.specs.declared.tally.Tally.{Tally}
use Rattle.txc_table_seat.specs.Seated.{AreReceiptsOf, IsInHistory, StampsRise}
use Rattle.txc_table_seat.specs.Tally.{no_tally, sum, tally_acts}
use Rattle.txc_table_seat.proofs.Counting.{tally_push}

own_push : (s n : ℕ) (rs : List Receipt) (r : Receipt) → AreReceiptsOf s n rs → r.tag.seat ≡ s → r.tag.serial ≡ n
    + length rs
    → PlacesRise r → AreReceiptsOf s n (rs ++ r ∷ [])
own_push s n [] r own t u rise = (t, omega (arith, u), rise, tt)
own_push s n (x ∷ xs) r own t u rise = (own.0, own.1, own.2, own_push s (suc n) xs r own.3 t (omega (arith, u)) rise)

stamped_push : (least last : ℕ) (rs : List Receipt) (r : Receipt) → StampsRise least last rs → last < r.tag.stamp
    → StampsRise least r.tag.stamp (rs ++ r ∷ [])
stamped_push least last [] r stamped l = (omega (arith, stamped, l), refl)
stamped_push least last (x ∷ xs) r stamped l = (stamped.0, stamped_push x.tag.stamp last xs r stamped.1 l)

-- a receipt that is the seat's next keeps what the type of a history keeps
pub recorded_push : (number stamp : ℕ) (rs : List Receipt) (r : Receipt) (tallies tallies' : List Tally)
    (plans : List CheckedView) (plan : CheckedView) → IsInHistory number rs stamp tallies plans → r.tag.seat ≡ number
    → r.tag.serial ≡ length rs → PlacesRise r → stamp < r.tag.stamp
    → ((n : ℕ) → slice_index_or tallies' n no_tally ≡ sum (slice_index_or tallies n no_tally)
    (tally_acts n r.acts))
    → IsInHistory number (rs ++ r ∷ []) r.tag.stamp tallies' (plans ++ plan ∷ [])
recorded_push number stamp rs r tallies tallies' plans plan is seat serial rise later counted = record {
  own = own_push number 0 rs r is.own seat (omega (arith, serial)) rise;
  stamped = stamped_push 0 stamp rs r is.stamped later;
  tallied = λ n. counted n ∙ ap (λ (t : Tally). sum t (tally_acts n r.acts)) (is.tallied n) ∙ tally_push n rs r;
  even = omega (arith, is.even, length-append plans (plan ∷ []), length-append rs (r ∷ []));
}
