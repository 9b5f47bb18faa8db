-- What `==` says of states: it is true exactly where they are equal.
use Rattle.std.proofs.Common.{◌≡◌, refl, ap, rules, Decides}
use Rattle.std.proofs.lemmas.Bool.Decides.{Decides-and, Decides-eqb, Decides-like}
use Rattle.std.proofs.lemmas.Slice.Eq.{slice_eq-Decides}
use Rattle.txc_cmd_report.proofs.Deciding.{decides_end}
use Rattle.txc_cmd_explore.specs.declared.state.Shape.{Shape}
use Rattle.txc_cmd_explore.specs.declared.state.State.{State}
use Rattle.txc_cmd_explore.specs.contracts.state.ShapePartialEq.TheImpl as shape
use Rattle.txc_cmd_explore.specs.contracts.state.StatePartialEq.TheImpl as state

-- of what is seen of a channel
pub decides_shape : (a b : Shape) → Decides (shape.eq-value.it a b) (a ≡ b)
decides_shape a b = search (rules, slice_eq-Decides Decides-eqb a.left b.left _ refl)

-- of states
pub decides_state : (a b : State) → Decides (state.eq-value.it a b) (a ≡ b)
decides_state a b =
    Decides-like _ (λ p j. record { shapes = p.0 j; commits = p.1.0 j; stops = p.1.1 j })
    (λ e. (ap (λ (x : State). x.shapes) e, (ap (λ (x : State). x.commits) e, ap (λ (x : State). x.stops) e)))
    (Decides-and _ _ (slice_eq-Decides decides_shape a.shapes b.shapes _ refl)
    (Decides-and _ _ (slice_eq-Decides Decides-eqb a.commits b.commits _ refl)
    (slice_eq-Decides decides_end a.stops b.stops _ refl)))
