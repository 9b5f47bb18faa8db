-- What a test of all operations of a step says of its parts.
use Rattle.std.proofs.Common.{◌≡◌, refl, sym, ◌∙◌, ap, ℕ, Bool, true, false, ◌&&◌, List, map, slice_index_or, IsTrue}
use Rattle.std.proofs.Common.{All, Contains}
use Rattle.std.proofs.lemmas.Bool.{eqb-true}
use Rattle.std.proofs.lemmas.List.Folds.{list_all-map}
use Rattle.std.proofs.lemmas.List.Sums.{AllPass-from_list_all}
use Rattle.std.proofs.lemmas.Map.Views.{Contains-from_any}
use Rattle.std.specs.List.{list_all}
use Rattle.txc_base.specs.declared.op.Op.{Op}
use Rattle.txc_base.specs.Op.{chan_of}
use Rattle.txc_txn_check.specs.declared.step.Step.{Step, fold-roll-Step}
use Rattle.txc_txn_check.specs.declared.step.Step.TheOpen as Open
use Rattle.txc_txn_check.specs.declared.step.Step.TheVariants.{Do, Or, Retry, rolls-Do, rolls-Or, rolls-Retry}
use Rattle.txc_txn_check.specs.Steps.{Every, every, every_layer, all_true, is_on}

pub every-Do : (test : Op → Bool) (op : Op) → every test (Do op) ≡ test op
every-Do test op = ap (every test) (sym (rolls-Do op)) ∙ fold-roll-Step Bool (every_layer test) (Open.Do op)

pub every-Or : (test : Op → Bool) (bs : List (List Step))
    → every test (Or bs) ≡ list_all all_true (map (map (every test)) bs)
every-Or test bs = ap (every test) (sym (rolls-Or bs)) ∙ fold-roll-Step Bool (every_layer test) (Open.Or bs)

pub every-Retry : (test : Op → Bool) → every test Retry ≡ true
every-Retry test = ap (every test) (sym rolls-Retry) ∙ fold-roll-Step Bool (every_layer test) Open.Retry

-- the operation of a step
pub at_do : (test : Op → Bool) (step : Step) (op : Op) → step ≡ Do op → IsTrue (every test step) → test op ≡ true
at_do test step op e h = sym (every-Do test op) ∙ sym (ap (every test) e) ∙ h

-- what a test of all says of each
all_from : {X : Type 0} (p : X → Bool) (xs : List X) → list_all p xs ≡ true → All (λ x. IsTrue (p x)) xs
all_from p xs h = AllPass-from_list_all p xs h

-- the steps of the branches of a step
pub at_or : (test : Op → Bool) (step : Step) (bs : List (List Step)) → step ≡ Or bs → IsTrue (every test step)
    → All (Every test) bs
at_or test step bs is h =
    let e : list_all (λ b. all_true (map (every test) b)) bs ≡ true =
    sym (list_all-map all_true (map (every test)) bs) ∙ sym (every-Or test bs) ∙ sym (ap (every test) is) ∙ h in
    λ k d lt. all_from (every test) (slice_index_or bs k d)
    (sym (list_all-map (λ b. b) (every test) (slice_index_or bs k d))
    ∙ all_from (λ b. all_true (map (every test) b)) bs e k d lt)

-- an operation of a step is on a declared channel
pub declared_op : (declared : List ℕ) (step : Step) (op : Op) → step ≡ Do op → IsTrue (every (is_on declared) step)
    → Contains declared (chan_of op)
declared_op declared step op e h = Contains-from_any eqb-true (chan_of op) declared (at_do (is_on declared) step op e h)

pub and_left : (a b : Bool) → a && b ≡ true → a ≡ true
and_left true b h = refl
and_left false b h = h

pub and_right : (a b : Bool) → a && b ≡ true → b ≡ true
and_right true b h = h
and_right false b h = cc
