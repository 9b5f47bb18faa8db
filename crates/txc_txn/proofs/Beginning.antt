-- What steps come to from where a run begins, their transaction comes to.
use Rattle.std.proofs.Common.{◌≡◌, ℕ, false, ◌||◌, refl, subst, None, List, []}
use Rattle.txc_base.specs.declared.tag.Tag.{Tag}
use Rattle.txc_txn_check.specs.declared.step.Step.{Step}
use Rattle.txc_txn.specs.declared.trace.Trace.{Trace}
use Rattle.txc_txn.specs.Maps.{Map}
use Rattle.txc_txn.specs.Run.{state_of}
use Rattle.txc_txn.specs.Transaction.{Ending, State, greatest, is_worn, kept_tag, start, steps_in, transaction}

-- where neither the serial nor the stamp is used up
pub from_start : (m : Map) (tag kept : Tag) (named declared : List ℕ) (steps : List Step) (trace : Trace)
    (ending : Ending)
    → named ≡ declared → is_worn tag.serial || is_worn (greatest m tag.stamp named) ≡ false
    → kept ≡ kept_tag m tag named → trace.last ≡ None → trace.replies.items ≡ [] → trace.deeds.items ≡ []
    → steps_in kept steps (state_of m trace) ≡ ending → transaction m tag declared steps ≡ ending
from_start m tag kept named declared steps trace ending same rises is last replies deeds ran =
    let begun : state_of m trace ≡ start m = rw last (rw replies (rw deeds refl)) in
    subst (λ ns. transaction m tag ns steps ≡ ending) same
    (rw rises (subst (λ (t : Tag). steps_in t steps (start m) ≡ ending) is
    (subst (λ (s : State). steps_in kept steps s ≡ ending) begun ran)))
