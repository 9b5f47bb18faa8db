-- Tests of the operations of steps.
use Rattle.std.specs.Prelude.{ℕ, Bool, true, false, nat_eq, Option, Some, None, List, map, IsTrue, All}
use Rattle.std.specs.List.{list_all, list_any}
use Rattle.txc_base.specs.declared.kind.Kind.{Kind}
use Rattle.txc_base.specs.declared.op.Op.{Op}
use Rattle.txc_base.specs.Kinds.{supports}
use Rattle.txc_base.specs.Op.{chan_of}
use Rattle.txc_txn_check.specs.declared.step.Step.{Step, Step-F, fold-Step}
use Rattle.txc_txn_check.specs.declared.step.Step.TheOpen.{Do, Or, Retry}

-- all of these are true
abbrev pub all_true : List Bool → Bool
all_true tests = list_all (λ test. test) tests

-- a test of operations, at one layer of a step
abbrev pub every_layer : (Op → Bool) → Step-F Bool → Bool
every_layer test (Do op) = test op
every_layer test (Or branches) = list_all all_true branches
every_layer test Retry = true

-- a test: every operation of a step passes
abbrev pub every : (Op → Bool) → Step → Bool
every test = fold-Step Bool (every_layer test)

-- every operation of these steps, in all branches, passes a test
abbrev pub Every : (Op → Bool) → List Step → Type 0
Every test steps = All (λ step. IsTrue (every test step)) steps

-- a test: an operation is on one of these channels
abbrev pub is_on : List ℕ → Op → Bool
is_on declared op = list_any (nat_eq (chan_of op)) declared

-- every operation is on one of these channels
abbrev pub NamesOnly : List ℕ → List Step → Type 0
NamesOnly declared steps = Every (is_on declared) steps

-- a test: there is a channel, and its kind supports an operation
abbrev pub supported_there : Option Kind → Op → Bool
supported_there None op = false
supported_there (Some kind) op = supports kind op

-- a test: the channel of an operation exists, and its kind has the operation
abbrev pub is_fit : (ℕ → Option Kind) → Op → Bool
is_fit kinds op = supported_there (kinds (chan_of op)) op

-- a test: the channel of every operation exists, and its kind has the operation
abbrev pub fits_in : (ℕ → Option Kind) → List Step → Bool
fits_in kinds steps = all_true (map (every (is_fit kinds)) steps)

-- the channel of every operation exists, and its kind has the operation
abbrev pub Fits : (ℕ → Option Kind) → List Step → Type 0
Fits kinds steps = Every (is_fit kinds) steps
