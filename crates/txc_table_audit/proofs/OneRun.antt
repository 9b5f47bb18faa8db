-- An order of transactions runs in one way.
use Rattle.std.proofs.Common.{◌≡◌, sym, ◌∙◌, ap, subst, ℕ, zero, suc, Some, List, [], ◌∷◌, take, slice_get}
use Rattle.txc_txn.specs.Maps.{Map, settle_all}
use Rattle.txc_txn.specs.Transaction.{State}
use Rattle.txc_txn_history.specs.Events.{Event}
use Rattle.txc_txn_history.specs.OneOrder.{Occurs, Runs}

-- a transaction leaves channels in one way
one_next : (m : Map) (event : Event) (left left' : Map) → Occurs m event left → Occurs m event left' → left ≡ left'
one_next m event left left' p q =
    let same : p.state ≡ q.state = cc (p.kept, q.kept) in
    p.leaves ∙ ap (λ (s : State). settle_all s.chans event.receipt.tag.stamp event.plan.declared) same ∙ sym q.leaves

-- .. and so do all of an order
pub one_end : (m : Map) (order : List Event) (left left' : Map) → Runs m order left → Runs m order left' → left ≡ left'
one_end m [] left left' p q = p ∙ sym q
one_end m (event ∷ order) left left' p q =
    let same : p.0 ≡ q.0 = one_next m event p.0 q.0 p.1.0 q.1.0 in
    one_end q.0 order left left' (subst (λ (n : Map). Runs n order left) same p.1.1) q.1.1

-- where an order runs, each event occurs on what those before it leave
pub occurs_at : (m : Map) (order : List Event) (left : Map) (rank : ℕ) (here : Map) (event : Event) → Runs m order left
    → Runs m (take rank order) here → slice_get order rank ≡ Some event → (next : Map) × Occurs here event next
occurs_at m [] left rank here event runs front at = absurd (cc)
occurs_at m (first ∷ order) left zero here event runs front at =
    let same : first ≡ event = cc in (
      runs.0,
      subst (λ (e : Event). Occurs here e runs.0) same
          (subst (λ (n : Map). Occurs n first runs.0) (sym front) runs.1.0),
    )
occurs_at m (first ∷ order) left (suc rank) here event runs front at =
    let same : runs.0 ≡ front.0 = one_next m first runs.0 front.0 runs.1.0 front.1.0 in
    occurs_at front.0 order left rank here event (subst (λ (n : Map). Runs n order left) same runs.1.1) front.1.1 at
