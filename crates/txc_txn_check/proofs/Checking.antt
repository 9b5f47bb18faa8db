-- Steps in which the walk finds no fault are within the limits and fit.
use Rattle.std.proofs.Common.{◌≡◌, refl, sym, ◌∙◌, ap, subst, ⊎_elim, ℕ, suc, ◌<◌, Bool, true, false, Option, List, []}
use Rattle.std.proofs.Common.{◌∷◌, map, arith, nat_eq, nat_le}
use Rattle.std.specs.List.{list_all, list_any}
use Rattle.std.proofs.lemmas.Bool.Decides.{nat_tests}
use Rattle.std.proofs.lemmas.Grind.{common_steps}
use Rattle.std.proofs.lemmas.List.Folds.{list_all-map}
use Rattle.std.proofs.lemmas.List.Sums.{AllPass-from_list_all}
use Rattle.txc_base.specs.declared.kind.Kind.{Kind}
use Rattle.txc_base.specs.declared.op.Op.{Op}
use Rattle.txc_base.specs.Op.{chan_of}
use Rattle.txc_txn_check.specs.declared.fault.TxnFault.TheVariants.{TooDeep}
use Rattle.txc_txn_check.specs.declared.step.Step.{Step, fold-roll-Step}
use Rattle.txc_txn_check.specs.declared.step.Step.TheOpen as Open
use Rattle.txc_txn_check.specs.declared.step.Step.TheVariants.{Do, Or, Retry, rolls-Do, rolls-Or, rolls-Retry}
use Rattle.txc_txn_check.specs.Limits.{IsChecked, max_nested, operations_in, mentions, mentions_layer, one_true}
use Rattle.txc_txn_check.specs.Limits.{sum_of}
use Rattle.txc_txn_check.specs.Limits.{operations_of, operations_layer, deepest, depth_of, depth_layer}
use Rattle.txc_txn_check.specs.Steps.{Every, every, every_layer, all_true, is_fit, is_on, Fits}
use Rattle.txc_txn_check.specs.Walk.{Tally, Fine, in_turn, walk, walk_step, walk_steps, walk_branches}
use Rattle.txc_txn_check.proofs.Accepted.{Part, Accepted, no_part, or_part, op_part, both, nothing, join, inside}
use Rattle.txc_txn_check.proofs.Accepted.{if_fine}
use Rattle.txc_txn_check.proofs.Accepted.{split, one}
use Rattle.txc_txn_check.proofs.Induction.{EachStep, EachBranch, each_of, by_steps}
use Rattle.txc_txn_check.proofs.Containing.{contains_none}
use Rattle.txc_txn_check.proofs.Walking.{walk_step-Do, walk_step-Or, walk_step-Retry, walks_map}

-- a step
abbrev pub part_of : (ℕ → Option Kind) → Step → Part
part_of kinds step = record {
  fit = every (is_fit kinds) step;
  names = λ later. every (is_on later) step;
  on = λ n. mentions n step;
  operations = operations_of step;
  deep = depth_of step;
}

-- steps
abbrev pub parts_of : (ℕ → Option Kind) → List Step → Part
parts_of kinds steps = record {
  fit = all_true (map (every (is_fit kinds)) steps);
  names = λ later. all_true (map (every (is_on later)) steps);
  on = λ n. one_true (map (mentions n) steps);
  operations = sum_of (map operations_of steps);
  deep = deepest (map depth_of steps);
}

-- branches
abbrev pub branches_of : (ℕ → Option Kind) → List (List Step) → Part
branches_of kinds branches = record {
  fit = list_all all_true (map (map (every (is_fit kinds))) branches);
  names = λ later. list_all all_true (map (map (every (is_on later))) branches);
  on = λ n. list_any one_true (map (map (mentions n)) branches);
  operations = sum_of (map sum_of (map (map operations_of) branches));
  deep = deepest (map deepest (map (map depth_of) branches));
}

-- walked over with no fault, it is accepted
abbrev pub Passes : (ℕ → Option Kind) → Step → Type 0
Passes kinds step = (depth : ℕ) (b a : Tally) → walk_step kinds step depth b ≡ Fine a
    → Accepted depth b a (part_of kinds step)

pub steps_pass : (kinds : ℕ → Option Kind) (steps : List Step) → EachStep (Passes kinds) steps
    → (depth : ℕ) (b a : Tally) → walk_steps kinds steps depth b ≡ Fine a
    → Accepted depth b a (parts_of kinds steps)
steps_pass kinds [] each depth b a h = nothing depth b a h
steps_pass kinds (step ∷ steps) each depth b a h =
    let s = split (walk_step kinds step depth b) (walk_steps kinds steps depth) a h in
    join depth b s.0 a (part_of kinds step) (parts_of kinds steps) (each.0 depth b s.0 s.1)
    (steps_pass kinds steps each.1 depth s.0 a s.2)

branches_pass : (kinds : ℕ → Option Kind) (branches : List (List Step)) → EachBranch (Passes kinds) branches
    → (depth : ℕ) (b a : Tally) → walk_branches kinds branches depth b ≡ Fine a
    → Accepted depth b a (branches_of kinds branches)
branches_pass kinds [] each depth b a h = nothing depth b a h
branches_pass kinds (branch ∷ branches) each depth b a h =
    let s = split (walk_steps kinds branch depth b) (walk_branches kinds branches depth) a h in
    join depth b s.0 a (parts_of kinds branch) (branches_of kinds branches)
    (steps_pass kinds branch each.0 depth b s.0 s.1) (branches_pass kinds branches each.1 depth s.0 a s.2)

pub mentions-Do : (n : ℕ) (op : Op) → mentions n (Do op) ≡ nat_eq (chan_of op) n
mentions-Do n op = ap (mentions n) (sym (rolls-Do op)) ∙ fold-roll-Step Bool (mentions_layer n) (Open.Do op)

pub mentions-Or : (n : ℕ) (bs : List (List Step)) → mentions n (Or bs) ≡ list_any one_true (map (map (mentions n)) bs)
mentions-Or n bs = ap (mentions n) (sym (rolls-Or bs)) ∙ fold-roll-Step Bool (mentions_layer n) (Open.Or bs)

pub mentions-Retry : (n : ℕ) → mentions n Retry ≡ false
mentions-Retry n = ap (mentions n) (sym rolls-Retry) ∙ fold-roll-Step Bool (mentions_layer n) Open.Retry

pub part-Do : (kinds : ℕ → Option Kind) (op : Op) → part_of kinds (Do op) ≡ op_part kinds op
part-Do kinds op = λ i. record {
  fit = (ap (every (is_fit kinds)) (sym (rolls-Do op)) ∙ fold-roll-Step Bool (every_layer (is_fit kinds)) (Open.Do op))
      i;
  names = λ later. (ap (every (is_on later)) (sym (rolls-Do op))
      ∙ fold-roll-Step Bool (every_layer (is_on later)) (Open.Do op)) i;
  on = λ n. mentions-Do n op i;
  operations = (ap operations_of (sym (rolls-Do op)) ∙ fold-roll-Step ℕ operations_layer (Open.Do op)) i;
  deep = (ap depth_of (sym (rolls-Do op)) ∙ fold-roll-Step ℕ depth_layer (Open.Do op)) i;
}

pub part-Or : (kinds : ℕ → Option Kind) (bs : List (List Step)) → part_of kinds (Or bs) ≡ or_part (branches_of kinds bs)
part-Or kinds bs = λ i. record {
  fit = (ap (every (is_fit kinds)) (sym (rolls-Or bs)) ∙ fold-roll-Step Bool (every_layer (is_fit kinds)) (Open.Or bs))
      i;
  names = λ later. (ap (every (is_on later)) (sym (rolls-Or bs))
      ∙ fold-roll-Step Bool (every_layer (is_on later)) (Open.Or bs)) i;
  on = λ n. mentions-Or n bs i;
  operations = (ap operations_of (sym (rolls-Or bs)) ∙ fold-roll-Step ℕ operations_layer (Open.Or bs)) i;
  deep = (ap depth_of (sym (rolls-Or bs)) ∙ fold-roll-Step ℕ depth_layer (Open.Or bs)) i;
}

pub part-Retry : (kinds : ℕ → Option Kind) → part_of kinds Retry ≡ no_part
part-Retry kinds = λ i. record {
  fit = (ap (every (is_fit kinds)) (sym rolls-Retry) ∙ fold-roll-Step Bool (every_layer (is_fit kinds)) Open.Retry) i;
  names = λ later. (ap (every (is_on later)) (sym rolls-Retry)
      ∙ fold-roll-Step Bool (every_layer (is_on later)) Open.Retry) i;
  on = λ n. mentions-Retry n i;
  operations = (ap operations_of (sym rolls-Retry) ∙ fold-roll-Step ℕ operations_layer Open.Retry) i;
  deep = (ap depth_of (sym rolls-Retry) ∙ fold-roll-Step ℕ depth_layer Open.Retry) i;
}

not_deep : (n : ℕ) → nat_le max_nested n ≡ false → n < max_nested
not_deep n h = grind (arith, nat_tests, common_steps)

or_passes : (kinds : ℕ → Option Kind) (bs : List (List Step)) → EachBranch (Passes kinds) bs → Passes kinds (Or bs)
or_passes kinds bs each depth b a h =
    subst (Accepted depth b a) (sym (part-Or kinds bs)) (inside depth b a (branches_of kinds bs) (not_deep depth test.0)
    (branches_pass kinds bs each (suc depth) b a (ap (λ l. in_turn l (suc depth) b) (sym (walks_map kinds bs))
    ∙ test.1)))
  where
    test : (nat_le max_nested depth ≡ false)
        × (in_turn (map in_turn (map (map (walk_step kinds)) bs)) (suc depth) b ≡ Fine a)
    test = if_fine (nat_le max_nested depth) TooDeep
        (in_turn (map in_turn (map (map (walk_step kinds)) bs)) (suc depth) b) a
        (sym (walk_step-Or kinds bs depth b) ∙ h)

pub passes : (kinds : ℕ → Option Kind) (step : Step) → Passes kinds step
passes kinds = by_steps (Passes kinds)
    (λ op depth b a h. subst (Accepted depth b a) (sym (part-Do kinds op))
    (one kinds op depth b a (sym (walk_step-Do kinds op depth b) ∙ h)))
    (or_passes kinds)
    (λ depth b a h. subst (Accepted depth b a) (sym (part-Retry kinds))
    (nothing depth b a (sym (walk_step-Retry kinds depth b) ∙ h)))

-- what passes one by one passes together, and the other way round
pub all_to : (test : Op → Bool) (steps : List Step) → Every test steps → all_true (map (every test) steps) ≡ true
all_to test [] h = refl
all_to test (step ∷ steps) h =
    both (every test step) (all_true (map (every test) steps)) (h 0 step (omega arith))
    (all_to test steps (λ k d lt. h (suc k) d (omega (arith, lt))))

pub all_from : (test : Op → Bool) (steps : List Step) → all_true (map (every test) steps) ≡ true → Every test steps
all_from test steps h = AllPass-from_list_all (every test) steps (sym (list_all-map (λ b. b) (every test) steps) ∙ h)

accepted : (kinds : ℕ → Option Kind) (steps : List Step) (a : Tally) → walk kinds steps ≡ Fine a
    → Accepted 0 (record { operations = 0; channels = [] }) a (parts_of kinds steps)
accepted kinds steps a h = steps_pass kinds steps (each_of (Passes kinds) (passes kinds) steps) 0
    (record { operations = 0; channels = [] }) a h

-- what the walk accepts is a checked transaction
pub checked : (kinds : ℕ → Option Kind) (steps : List Step) (a : Tally) → walk kinds steps ≡ Fine a
    → IsChecked (record { steps = steps; declared = a.channels })
checked kinds steps a h = record {
  names = all_from (is_on a.channels) steps (all.named a.channels (λ n i. i));
  named = λ n i. ⊎_elim (λ j. absurd (contains_none n j)) (λ j. j) (all.from n i);
  rising = all.rises tt;
  few = all.few (omega arith);
  short = let up = all.short (omega arith) in omega (arith, up, all.count);
  shallow = let low = all.shallow (omega arith) in omega (arith, low);
}
  where
    all : Accepted 0 (record { operations = 0; channels = [] }) a (parts_of kinds steps)
    all = accepted kinds steps a h

-- .. and fits
pub fitting : (kinds : ℕ → Option Kind) (steps : List Step) (a : Tally) → walk kinds steps ≡ Fine a → Fits kinds steps
fitting kinds steps a h = all_from (is_fit kinds) steps (accepted kinds steps a h).fits

-- .. with so many operations
pub counted_all : (kinds : ℕ → Option Kind) (steps : List Step) (a : Tally) → walk kinds steps ≡ Fine a
    → a.operations ≡ operations_in steps
counted_all kinds steps a h = let all = (accepted kinds steps a h).count in omega (arith, all)
