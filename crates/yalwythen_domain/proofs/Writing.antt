-- What was read of an array of raw steps, while it is being read.
use Rattle.std.proofs.Common.{◌≡◌, refl, subst, sym, ◌∙◌, ap, List, [], ◌∷◌, ◌++◌, map}
use Rattle.std.proofs.Common.{ℕ, zero, suc, Option, Some, None, slice_get}
use Rattle.std.proofs.Common.{inl, inr, nat_eq, false, ◌<◌, ◌≤◌, arith}
use Rattle.std.proofs.lemmas.Bool.Decides.{eqb_tells}
use Rattle.std.proofs.lemmas.Option.{slice_get_within}
use Rattle.std.proofs.lemmas.List.{append_assoc, append-nil, map-append}
use Rattle.std.specs.List.{AllByRecursion}
use Rattle.txc_base.specs.declared.op.Op.{Op}
use Rattle.txc_txn_check.specs.declared.step.Step.{Step, fold-roll-Step}
use Rattle.txc_txn_check.specs.declared.step.Step.TheOpen as Open
use Rattle.txc_txn_check.specs.declared.step.Step.TheVariants.{Do, Or, Retry, rolls-Do, rolls-Or, rolls-Retry}
use Rattle.yalwythen_domain.specs.declared.raw_steps.Alternatives.{Alternatives}
use Rattle.yalwythen_domain.specs.declared.raw_steps.RawStep.{RawStep}
use Rattle.yalwythen_domain.specs.RawSteps.{step_of, steps_with}
use Rattle.yalwythen_domain.specs.Written.{Token, One, Begin, Next, End, all_of, branches_of, ended_branches}
use Rattle.yalwythen_domain.specs.Written.{alternatives_tokens}
use Rattle.yalwythen_domain.specs.Written.{more_branches, one_of, read_so_far, token_layer, token_of, tokens_in}
use Rattle.yalwythen_domain.specs.Written.{tokens_of}

pub tokens_of-Do : (op : Op) → tokens_of (Do op) ≡ One (Do op) ∷ []
tokens_of-Do op = ap tokens_of (sym (rolls-Do op)) ∙ fold-roll-Step (List Token) token_layer (Open.Do op)

pub tokens_of-Retry : tokens_of Retry ≡ One Retry ∷ []
tokens_of-Retry = ap tokens_of (sym rolls-Retry) ∙ fold-roll-Step (List Token) token_layer Open.Retry

branches_map : (branches : List (List Step)) → map all_of (map (map tokens_of) branches) ≡ map tokens_in branches
branches_map [] = refl
branches_map (branch ∷ branches) = ap (λ rest. tokens_in branch ∷ rest) (branches_map branches)

pub tokens_of-Or : (branches : List (List Step))
    → tokens_of (Or branches) ≡ Begin ∷ (branches_of (map tokens_in branches) ++ End ∷ [])
tokens_of-Or branches = ap tokens_of (sym (rolls-Or branches))
    ∙ fold-roll-Step (List Token) token_layer (Open.Or branches)
    ∙ ap (λ parts. Begin ∷ (branches_of parts ++ End ∷ [])) (branches_map branches)

pub all_of_append : (xs ys : List (List Token)) → all_of (xs ++ ys) ≡ all_of xs ++ all_of ys
all_of_append [] ys = refl
all_of_append (x ∷ xs) ys =
    ap (λ rest. x ++ rest) (all_of_append xs ys) ∙ sym (append_assoc x (all_of xs) (all_of ys))

pub tokens_in_append : (xs ys : List Step) → tokens_in (xs ++ ys) ≡ tokens_in xs ++ tokens_in ys
tokens_in_append xs ys = ap all_of (map-append tokens_of xs ys) ∙ all_of_append (map tokens_of xs) (map tokens_of ys)

-- one step more
pub one_step_more : (nested : List Alternatives) (steps : List Step) (step : Step)
    → read_so_far nested (steps ++ step ∷ []) ≡ read_so_far nested steps ++ tokens_of step
one_step_more nested steps step =
    ap (λ rest. all_of (map alternatives_tokens nested) ++ rest)
    (tokens_in_append steps (step ∷ []) ∙ ap (λ rest. tokens_in steps ++ rest) (append-nil (tokens_of step)))
    ∙ sym (append_assoc (all_of (map alternatives_tokens nested)) (tokens_in steps) (tokens_of step))

-- the innermost alternatives are behind the others
read_with : (nested : List Alternatives) (last : Alternatives) (steps : List Step)
    → read_so_far (nested ++ last ∷ []) steps
    ≡ all_of (map alternatives_tokens nested) ++ (alternatives_tokens last ++ tokens_in steps)
read_with nested last steps =
    let all = all_of (map alternatives_tokens nested) in
    ap (λ read. read ++ tokens_in steps) (ap all_of (map-append alternatives_tokens nested (last ∷ []))
    ∙ all_of_append (map alternatives_tokens nested) (alternatives_tokens last ∷ [])
    ∙ ap (λ rest. all ++ rest) (append-nil (alternatives_tokens last)))
    ∙ append_assoc all (alternatives_tokens last) (tokens_in steps)

-- alternatives begin
pub alternatives_begin : (nested : List Alternatives) (last : Alternatives) (steps : List Step)
    → last.before.items ≡ steps → last.branches.items ≡ []
    → read_so_far (nested ++ last ∷ []) [] ≡ read_so_far nested steps ++ Begin ∷ []
alternatives_begin nested last steps before none =
    let all = all_of (map alternatives_tokens nested) in
    read_with nested last [] ∙ ap (λ rest. all ++ rest) (append-nil (alternatives_tokens last)
    ∙ ap (λ xs. tokens_in xs ++ (Begin ∷ ended_branches last.branches.items)) before
    ∙ ap (λ bs. tokens_in steps ++ (Begin ∷ ended_branches bs)) none)
    ∙ sym (append_assoc all (tokens_in steps) (Begin ∷ []))

ended_append : (branches : List (List Step)) (branch : List Step)
    → ended_branches (branches ++ branch ∷ []) ≡ ended_branches branches ++ (tokens_in branch ++ Next ∷ [])
ended_append [] branch = refl
ended_append (first ∷ branches) branch =
    ap (λ rest. tokens_in first ++ (Next ∷ rest)) (ended_append branches branch)
    ∙ sym (append_assoc (tokens_in first) (Next ∷ ended_branches branches) (tokens_in branch ++ Next ∷ []))

-- three parts and a token, from the back
from_the_back : (all before begun last : List Token) (token : Token)
    → all ++ (before ++ (begun ++ (last ++ token ∷ []))) ≡ all ++ ((before ++ begun) ++ last) ++ token ∷ []
from_the_back all before begun last token =
    ap (λ rest. all ++ rest) (sym (append_assoc before begun (last ++ token ∷ []))
    ∙ sym (append_assoc (before ++ begun) last (token ∷ [])))
    ∙ sym (append_assoc all ((before ++ begun) ++ last) (token ∷ []))

-- a branch ends, and the next one begins
pub branch_ends : (nested : List Alternatives) (last ended : Alternatives) (steps : List Step)
    → ended.before.items ≡ last.before.items
    → ended.branches.items ≡ last.branches.items ++ steps ∷ []
    → read_so_far (nested ++ ended ∷ []) [] ≡ read_so_far (nested ++ last ∷ []) steps ++ Next ∷ []
branch_ends nested last ended steps before branches =
    let all = all_of (map alternatives_tokens nested) in let first = tokens_in last.before.items in
    let begun = Begin ∷ ended_branches last.branches.items in
    read_with nested ended [] ∙ ap (λ rest. all ++ rest) (append-nil (alternatives_tokens ended)
    ∙ ap (λ xs. tokens_in xs ++ (Begin ∷ ended_branches ended.branches.items)) before
    ∙ ap (λ bs. first ++ (Begin ∷ ended_branches bs)) branches
    ∙ ap (λ rest. first ++ (Begin ∷ rest)) (ended_append last.branches.items steps))
    ∙ from_the_back all first begun (tokens_in steps) Next
    ∙ ap (λ read. read ++ Next ∷ []) (sym (read_with nested last steps))

more_append : (branches : List (List Step)) (last : List Step) → more_branches (map tokens_in (branches ++ last ∷ []))
    ≡ Next ∷ (ended_branches branches ++ tokens_in last)
more_append [] last = ap (λ rest. Next ∷ rest) (append-nil (tokens_in last))
more_append (first ∷ branches) last = ap (λ rest. Next ∷ (tokens_in first ++ rest)) (more_append branches last)
    ∙ ap (λ rest. Next ∷ rest)
    (sym (append_assoc (tokens_in first) (Next ∷ ended_branches branches) (tokens_in last)))

all_branches : (branches : List (List Step)) (last : List Step) → branches_of (map tokens_in (branches ++ last ∷ []))
    ≡ ended_branches branches ++ tokens_in last
all_branches [] last = append-nil (tokens_in last)
all_branches (first ∷ branches) last = ap (λ rest. tokens_in first ++ rest) (more_append branches last)
    ∙ sym (append_assoc (tokens_in first) (Next ∷ ended_branches branches) (tokens_in last))

-- alternatives end, as a step
pub alternatives_end : (nested : List Alternatives) (last : Alternatives) (branches : List (List Step))
    (steps : List Step) → branches ≡ last.branches.items ++ steps ∷ []
    → read_so_far nested (last.before.items ++ Or branches ∷ [])
    ≡ read_so_far (nested ++ last ∷ []) steps ++ End ∷ []
alternatives_end nested last branches steps same =
    let all = all_of (map alternatives_tokens nested) in let first = tokens_in last.before.items in
    let begun = Begin ∷ ended_branches last.branches.items in
    ap (λ rest. all ++ rest) (tokens_in_append last.before.items (Or branches ∷ [])
    ∙ ap (λ rest. first ++ rest) (append-nil (tokens_of (Or branches)) ∙ tokens_of-Or branches
    ∙ ap (λ bs. Begin ∷ (branches_of (map tokens_in bs) ++ End ∷ [])) same
    ∙ ap (λ rest. Begin ∷ (rest ++ End ∷ [])) (all_branches last.branches.items steps)
    ∙ append_assoc begun (tokens_in steps) (End ∷ [])))
    ∙ from_the_back all first begun (tokens_in steps) End
    ∙ ap (λ read. read ++ End ∷ []) (sym (read_with nested last steps))

abbrev value_or : Step → Option Step → Step
value_or other (Some step) = step
value_or other None = other

abbrev IsNone : Option Step → Type 0
IsNone (Some step) = ⊥
IsNone None = Unit {0}

-- what is so of each of a list is so of the one at a place
at_place : (P : Step → Type 0) (steps : List Step) (place : ℕ) (step : Step) → AllByRecursion P steps
    → slice_get steps place ≡ Some step → P step
at_place P [] place step all at = absurd (subst IsNone at tt)
at_place P (first ∷ steps) zero step all at = subst P (ap (value_or first) at) all.0
at_place P (first ∷ steps) (suc place) step all at = at_place P steps place step all.1 at

-- each step with a number is one token
pub single : (chan reader body number : ℕ) (step : Step)
    → slice_get (steps_with chan reader body) number ≡ Some step → tokens_of step ≡ One step ∷ []
single chan reader body number step at =
    let one = tokens_of-Do in
    at_place (λ it. tokens_of it ≡ One it ∷ []) (steps_with chan reader body) number step (
      one _,
      (
        one _,
        (
          one _,
          (
            one _,
            (
              one _,
              (
                one _,
                (
                  one _,
                  (
                    one _,
                    (
                      one _,
                      (
                        one _,
                        (
                          one _,
                          (
                            one _,
                            (
                              one _,
                              (
                                one _,
                                (
                                  one _,
                                  (tokens_of-Retry, (one _, (one _, (one _, tt)))),
                                ),
                              ),
                            ),
                          ),
                        ),
                      ),
                    ),
                  ),
                ),
              ),
            ),
          ),
        ),
      ),
    ) at

other_number : (number mark : ℕ) → number < 19 → 19 ≤ mark → nat_eq number mark ≡ false
other_number number mark low high = elim (eqb_tells number mark) [
  | inl t ↦ let same = t.1 in absurd (omega (arith, low, high, same))
  | inr t ↦ t.0
]

-- an order that is a step is that token
pub numbered : (raw_step : RawStep) (step : Step) → step_of raw_step ≡ Some step → token_of raw_step ≡ Some (One step)
numbered raw_step step at =
    let steps = steps_with raw_step.chan raw_step.reader raw_step.body in
    let low : raw_step.number < 19 = slice_get_within steps raw_step.number step at in
    rw (
      other_number raw_step.number 19 low (omega arith),
      other_number raw_step.number 20 low (omega arith),
      other_number raw_step.number 21 low (omega arith),
    ) (ap one_of at)
