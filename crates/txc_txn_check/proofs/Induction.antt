-- Induction over steps.
use Rattle.std.proofs.Common.{sym, subst, List, [], ◌∷◌, map}
use Rattle.txc_base.specs.declared.op.Op.{Op}
use Rattle.txc_txn_check.specs.declared.step.Step.{Step, Step-F}
use Rattle.txc_txn_check.specs.declared.step.Step.TheFolds.{ind-Step, map-Step}
use Rattle.txc_txn_check.specs.declared.step.Step.TheOpen as Open
use Rattle.txc_txn_check.specs.declared.step.Step.TheVariants.{Do, Or, Retry, rolls-Do, rolls-Or, rolls-Retry}
use Rattle.txc_txn_check.specs.declared.step.Step.TheViews.{roll-Step}

-- a fact of each of these steps
abbrev pub EachStep : (Step → Type 0) → List Step → Type 0
EachStep P [] = Unit {0}
EachStep P (step ∷ steps) = P step × EachStep P steps

-- a fact of each step of these branches
abbrev pub EachBranch : (Step → Type 0) → List (List Step) → Type 0
EachBranch P [] = Unit {0}
EachBranch P (branch ∷ branches) = EachStep P branch × EachBranch P branches

each_step : (P : Step → Type 0) → (steps : List ((s : Step) × P s)) → EachStep P (map (λ e. e.0) steps)
each_step P [] = tt
each_step P (e ∷ steps) = (e.1, each_step P steps)

each_branch : (P : Step → Type 0) → (branches : List (List ((s : Step) × P s)))
    → EachBranch P (map (map (λ e. e.0)) branches)
each_branch P [] = tt
each_branch P (b ∷ branches) = (each_step P b, each_branch P branches)

-- a fact of every step is one of each of these
pub each_of : (P : Step → Type 0) → ((s : Step) → P s) → (steps : List Step) → EachStep P steps
each_of P all [] = tt
each_of P all (step ∷ steps) = (all step, each_of P all steps)

-- a fact of every step, where it follows from the fact of the steps inside
pub by_steps : (P : Step → Type 0) → ((op : Op) → P (Do op))
    → ((branches : List (List Step)) → EachBranch P branches → P (Or branches)) → P Retry → (s : Step) → P s
by_steps P on_do on_or on_retry = ind-Step P (λ x y is. subst (λ z. P (roll-Step z)) is (at y))
  where
    at : (y : Step-F ((s : Step) × P s)) → P (roll-Step (map-Step ((s : Step) × P s) Step (λ e. e.0) y))
    at (Open.Do op) = subst P (sym (rolls-Do op)) (on_do op)
    at (Open.Or branches) = subst P (sym (rolls-Or (map (map (λ e. e.0)) branches)))
        (on_or (map (map (λ e. e.0)) branches) (each_branch P branches))
    at Open.Retry = subst P (sym rolls-Retry) on_retry
