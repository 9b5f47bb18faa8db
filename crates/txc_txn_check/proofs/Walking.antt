-- The walk, a step or a channel at a time.
use Rattle.std.proofs.Common.{◌≡◌, refl, sym, ◌∙◌, ap, ℕ, suc, ◌<◌, ◌+◌, false, List, [], ◌∷◌, map, arith, nat_le}
use Rattle.std.proofs.Common.{if◌then◌else◌, Option}
use Rattle.std.proofs.lemmas.Bool.Decides.{nat_tests}
use Rattle.std.proofs.lemmas.Grind.{common_steps}
use Rattle.txc_base.specs.declared.kind.Kind.{Kind}
use Rattle.txc_base.specs.declared.op.Op.{Op}
use Rattle.txc_txn_check.specs.declared.fault.TxnFault.TheVariants.{TooDeep}
use Rattle.txc_txn_check.specs.declared.step.Step.{Step, fold-roll-Step}
use Rattle.txc_txn_check.specs.declared.step.Step.TheOpen as Open
use Rattle.txc_txn_check.specs.declared.step.Step.TheVariants.{Do, Or, Retry, rolls-Do, rolls-Or, rolls-Retry}
use Rattle.txc_txn_check.specs.Limits.{max_nested}
use Rattle.txc_txn_check.specs.Walk.{Tally, Walked, Fine, Faulty, in_turn, walk_op, walk_layer, walk_step, walk_steps}
use Rattle.txc_txn_check.specs.Walk.{walk_branches}

pub walk_step-Do : (kinds : ℕ → Option Kind) (op : Op) (depth : ℕ) (t : Tally)
    → walk_step kinds (Do op) depth t ≡ walk_op kinds op t
walk_step-Do kinds op depth t = ap (λ x. walk_step kinds x depth t) (sym (rolls-Do op))
    ∙ ap (λ f. f depth t) (fold-roll-Step (ℕ → Tally → Walked) (walk_layer kinds) (Open.Do op))

pub walk_step-Retry : (kinds : ℕ → Option Kind) (depth : ℕ) (t : Tally) → walk_step kinds Retry depth t ≡ Fine t
walk_step-Retry kinds depth t = ap (λ x. walk_step kinds x depth t) (sym rolls-Retry)
    ∙ ap (λ f. f depth t) (fold-roll-Step (ℕ → Tally → Walked) (walk_layer kinds) Open.Retry)

pub walks_map : (kinds : ℕ → Option Kind) (bs : List (List Step))
    → map in_turn (map (map (walk_step kinds)) bs) ≡ map (walk_steps kinds) bs
walks_map kinds [] = refl
walks_map kinds (b ∷ bs) = ap (λ r. walk_steps kinds b ∷ r) (walks_map kinds bs)

pub walk_step-Or : (kinds : ℕ → Option Kind) (bs : List (List Step)) (depth : ℕ) (t : Tally)
    → walk_step kinds (Or bs) depth t ≡ walk_layer kinds (Open.Or (map (map (walk_step kinds)) bs)) depth t
walk_step-Or kinds bs depth t = ap (λ x. walk_step kinds x depth t) (sym (rolls-Or bs))
    ∙ ap (λ f. f depth t) (fold-roll-Step (ℕ → Tally → Walked) (walk_layer kinds) (Open.Or bs))

shallow : (depth : ℕ) → depth < max_nested → nat_le max_nested depth ≡ false
shallow depth h = grind (arith, nat_tests, common_steps)

-- an alternative that is not too deep
pub or_walk : (kinds : ℕ → Option Kind) (step : Step) (bs : List (List Step)) (depth : ℕ) (t : Tally) → step ≡ Or bs
    → depth < max_nested
    → walk_step kinds step depth t ≡ walk_branches kinds bs (depth + 1) t
or_walk kinds step bs depth t is lt =
    let s : suc depth ≡ depth + 1 = omega arith in
    ap (λ x. walk_step kinds x depth t) is ∙ walk_step-Or kinds bs depth t
    ∙ ap (λ b. if b then Faulty TooDeep else in_turn (map in_turn (map (map (walk_step kinds)) bs)) (suc depth) t)
    (shallow depth lt)
    ∙ ap (λ l. in_turn l (suc depth) t) (walks_map kinds bs) ∙ ap (λ k. walk_branches kinds bs k t) s
