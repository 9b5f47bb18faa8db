-- How an array of raw steps represents steps.
use Rattle.std.specs.Prelude.{◌≡◌, nat_eq, Option, Some, None, List, [], ◌∷◌, ◌++◌, map, if◌then◌else◌}
use Rattle.txc_txn_check.specs.declared.step.Step.{Step, Step-F, fold-Step}
use Rattle.txc_txn_check.specs.declared.step.Step.TheOpen as Open
use Rattle.txc_txn_check.specs.declared.step.Step.TheVariants.{Do, Retry}
use Rattle.yalwythen_domain.specs.declared.raw_steps.Alternatives.{Alternatives}
use Rattle.yalwythen_domain.specs.declared.raw_steps.RawStep.{RawStep}
use Rattle.yalwythen_domain.specs.RawSteps.{step_of}

-- what an order is: a step, the beginning of alternatives, the end of a branch before the next one, or their end
pub data Token : Type 0 where
  One : Step → Token
  Begin : Token
  Next : Token
  End : Token

-- these, one after another
abbrev pub all_of : List (List Token) → List Token
all_of [] = []
all_of (part ∷ parts) = part ++ all_of parts

-- further branches, each after the end of the one before
abbrev pub more_branches : List (List Token) → List Token
more_branches [] = []
more_branches (branch ∷ branches) = Next ∷ (branch ++ more_branches branches)

-- the branches of alternatives
abbrev pub branches_of : List (List Token) → List Token
branches_of [] = []
branches_of (branch ∷ branches) = branch ++ more_branches branches

-- a step, at one layer
abbrev pub token_layer : Step-F (List Token) → List Token
token_layer (Open.Do op) = One (Do op) ∷ []
token_layer (Open.Or branches) = Begin ∷ (branches_of (map all_of branches) ++ End ∷ [])
token_layer Open.Retry = One Retry ∷ []

-- a step
abbrev pub tokens_of : Step → List Token
tokens_of = fold-Step (List Token) token_layer

-- steps, one after another
abbrev pub tokens_in : List Step → List Token
tokens_in steps = all_of (map tokens_of steps)

-- a step as a token, if it is there
abbrev pub one_of : Option Step → Option Token
one_of (Some step) = Some (One step)
one_of None = None

-- what an order is, by its number
abbrev pub token_of : RawStep → Option Token
token_of raw_step = if nat_eq raw_step.number 19 then Some Begin else (if nat_eq raw_step.number 20 then Some Next
    else (if nat_eq raw_step.number 21 then Some End else one_of (step_of raw_step)))

-- these raw steps are these steps
abbrev pub AreSteps : List RawStep → List Step → Type 0
AreSteps raw_steps steps = map token_of raw_steps ≡ map Some (tokens_in steps)

-- branches that have ended
abbrev pub ended_branches : List (List Step) → List Token
ended_branches [] = []
ended_branches (branch ∷ branches) = tokens_in branch ++ (Next ∷ ended_branches branches)

-- alternatives that have not ended, with the steps before them
abbrev pub alternatives_tokens : Alternatives → List Token
alternatives_tokens alternatives =
    tokens_in alternatives.before.items ++ (Begin ∷ ended_branches alternatives.branches.items)

-- what was read so far: these alternatives, which have not ended, and these steps of the innermost branch
abbrev pub read_so_far : List Alternatives → List Step → List Token
read_so_far nested steps = all_of (map alternatives_tokens nested) ++ tokens_in steps
