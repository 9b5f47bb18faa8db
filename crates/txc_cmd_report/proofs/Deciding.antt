-- What `==` says of outcomes: it is true exactly where they are equal.
use Rattle.std.proofs.Common.{◌≡◌, refl, ap, rules, Decides}
use Rattle.std.proofs.lemmas.Bool.Decides.{Decides-and, Decides-like}
use Rattle.std.proofs.lemmas.Slice.Eq.{slice_eq-Decides}
use Rattle.txc_txn.proofs.Deciding.{decides_report}
use Rattle.txc_cmd_report.specs.declared.outcome.Outcome.{Outcome}
use Rattle.txc_cmd_report.specs.declared.seat_end.SeatEnd.{SeatEnd}
use Rattle.txc_cmd_report.specs.contracts.outcome.OutcomePartialEq.TheImpl as outcome
use Rattle.txc_cmd_report.specs.contracts.seat_end.SeatEndPartialEq.TheImpl as seat_end

-- of ends
pub decides_end : (a b : SeatEnd) → Decides (seat_end.eq-value.it a b) (a ≡ b)
decides_end a b = search rules

-- of outcomes
pub decides_outcome : (a b : Outcome) → Decides (outcome.eq-value.it a b) (a ≡ b)
decides_outcome a b =
    Decides-like _ (λ p j. record { report = p.0 j; ends = p.1 j })
    (λ e. (ap (λ (x : Outcome). x.report) e, ap (λ (x : Outcome). x.ends) e))
    (Decides-and _ _ (decides_report a.report b.report) (slice_eq-Decides decides_end a.ends b.ends _ refl))
