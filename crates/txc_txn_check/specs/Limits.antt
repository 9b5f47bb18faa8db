-- What a checked transaction is.
use Rattle.std.specs.Prelude.{ℕ, suc, ◌+◌, ◌≤◌, max, Bool, false, nat_eq, List, [], ◌∷◌, map, length, IsTrue, Contains}
use Rattle.std.specs.List.{list_any}
use Rattle.txc_base.specs.Op.{chan_of}
use Rattle.txc_txn_check.specs.declared.limits.TheConstants.{MAX_DECLARED, MAX_NESTED, MAX_OPERATIONS}
use Rattle.txc_txn_check.specs.declared.step.Step.{Step, Step-F, fold-Step}
use Rattle.txc_txn_check.specs.declared.step.Step.TheOpen.{Do, Or, Retry}
use Rattle.txc_txn_check.specs.Steps.{NamesOnly}

-- the maximum number of channels of a transaction
abbrev pub max_declared : ℕ
max_declared = MAX_DECLARED

-- the maximum depth of nested alternatives
abbrev pub max_nested : ℕ
max_nested = MAX_NESTED

-- the maximum number of operations of a transaction, in all branches together
abbrev pub max_operations : ℕ
max_operations = MAX_OPERATIONS

-- one of these is true
abbrev pub one_true : List Bool → Bool
one_true tests = list_any (λ test. test) tests

-- a test: a step is on this channel, at one layer
abbrev pub mentions_layer : ℕ → Step-F Bool → Bool
mentions_layer chan (Do op) = nat_eq (chan_of op) chan
mentions_layer chan (Or branches) = list_any one_true branches
mentions_layer chan Retry = false

-- a test: some operation of a step is on this channel
abbrev pub mentions : ℕ → Step → Bool
mentions chan = fold-Step Bool (mentions_layer chan)

-- a test: some operation of these steps is on this channel
abbrev pub mentioned_in : ℕ → List Step → Bool
mentioned_in chan steps = one_true (map (mentions chan) steps)

-- the sum of these
abbrev pub sum_of : List ℕ → ℕ
sum_of [] = 0
sum_of (n ∷ numbers) = n + sum_of numbers

-- the operations of a step, at one layer
abbrev pub operations_layer : Step-F ℕ → ℕ
operations_layer (Do op) = 1
operations_layer (Or branches) = sum_of (map sum_of branches)
operations_layer Retry = 0

-- how many operations a step has, in all branches together
abbrev pub operations_of : Step → ℕ
operations_of = fold-Step ℕ operations_layer

-- how many operations these steps have, in all branches together
abbrev pub operations_in : List Step → ℕ
operations_in steps = sum_of (map operations_of steps)

-- the greatest of these; 0 if there is none
abbrev pub deepest : List ℕ → ℕ
deepest [] = 0
deepest (n ∷ numbers) = max n (deepest numbers)

-- how deep alternatives are nested, at one layer
abbrev pub depth_layer : Step-F ℕ → ℕ
depth_layer (Do op) = 0
depth_layer (Or branches) = suc (deepest (map deepest branches))
depth_layer Retry = 0

-- how deep alternatives are nested in a step; 0 if there is none
abbrev pub depth_of : Step → ℕ
depth_of = fold-Step ℕ depth_layer

-- how deep alternatives are nested in these steps
abbrev pub depth_in : List Step → ℕ
depth_in steps = deepest (map depth_of steps)

-- the first is at least `least`, and each other is greater than the one before it
abbrev pub RisesFrom : ℕ → List ℕ → Type 0
RisesFrom least [] = Unit {0}
RisesFrom least (n ∷ numbers) = (least ≤ n) × RisesFrom (suc n) numbers

-- each is greater than the one before it
abbrev pub IsRising : List ℕ → Type 0
IsRising numbers = RisesFrom 0 numbers

-- the steps of a transaction and the channels of its operations
pub record CheckedView : Type 0 where
  pub steps : List Step
  pub declared : List ℕ

-- a transaction within the limits; its channels are rising and are exactly those of its operations
pub record IsChecked (plan : CheckedView) : Type 0 where
  pub names : NamesOnly plan.declared plan.steps
  pub named : (n : ℕ) → Contains plan.declared n → IsTrue (mentioned_in n plan.steps)
  pub rising : IsRising plan.declared
  pub few : length plan.declared ≤ max_declared
  pub short : operations_in plan.steps ≤ max_operations
  pub shallow : depth_in plan.steps ≤ max_nested
