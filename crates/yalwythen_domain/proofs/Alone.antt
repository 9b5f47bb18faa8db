-- What comes of one operation, as of steps.
use Rattle.std.proofs.Common.{◌≡◌, refl, sym, ◌∙◌, ap, subst, ℕ, Option, Err, List, [], ◌∷◌, slice_get}
use Rattle.txc_base.specs.declared.kind.Kind.{Kind}
use Rattle.txc_base.specs.declared.op.Op.{Op}
use Rattle.txc_base.specs.declared.tag.Tag.{Tag}
use Rattle.txc_txn_check.specs.declared.fault.TxnFault.{TxnFault}
use Rattle.txc_txn_check.specs.declared.step.Step.TheVariants.{Do}
use Rattle.txc_txn_check.specs.Walk.{Walked, Fine, Faulty, in_turn, nothing_seen, then_on, walk, walk_op}
use Rattle.txc_txn_check.proofs.Walking.{walk_step-Do}
use Rattle.txc_txn.specs.Maps.{Map}
use Rattle.yalwythen_domain.specs.declared.channels.RunError.TheVariants.{Faulty as HaltedFaulty}
use Rattle.yalwythen_domain.specs.Ending.{ComesOfSteps}
use Rattle.yalwythen_domain.specs.Opened.{untallied}

then_no_more : (walked : Walked) → then_on walked (in_turn [] 0) ≡ walked
then_no_more (Fine tally) = refl
then_no_more (Faulty fault) = refl

-- a walk over one operation finds what is found of it
pub walk_one : (kinds : ℕ → Option Kind) (op : Op) (walked : Walked) → walk_op kinds op untallied ≡ walked
    → walk kinds (Do op ∷ []) ≡ walked
walk_one kinds op walked found =
    ap (λ w. then_on w (in_turn [] 0)) (walk_step-Do kinds op 0 nothing_seen ∙ found) ∙ then_no_more walked

-- where it has a fault, that comes of it, and nothing is done
pub faulty_one : (kinds : List Kind) (op : Op) (fault : TxnFault) (tag : Tag) (before : Map)
    → walk_op (slice_get kinds) op untallied ≡ Faulty fault
    → ComesOfSteps (walk (slice_get kinds) (Do op ∷ [])) tag (Do op ∷ []) (Err (HaltedFaulty fault)) before before
faulty_one kinds op fault tag before found =
    subst (λ (w : Walked). ComesOfSteps w tag (Do op ∷ []) (Err (HaltedFaulty fault)) before before)
    (sym (walk_one (slice_get kinds) op (Faulty fault) found)) (refl, refl)
