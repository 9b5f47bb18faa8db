-- Steps, from the trees of their elements.
use Rattle.std.proofs.Common.{◌≡◌, ◌≢◌, refl, sym, ◌∙◌, ap, ℕ, ◌+◌, ◌-◌, ◌<◌, ◌≤◌, nat_eq, Bool, true, false, Option}
use Rattle.std.proofs.Common.{List, [], ◌∷◌, ◌++◌, length, map, take, drop, slice_index_or, Vec, Global, Result, Ok}
use Rattle.std.proofs.Common.{Err, IfOk, IfErr, arith, if◌then◌else◌}
use Rattle.std.proofs.lemmas.Bool.{eqb-true}
use Rattle.std.proofs.lemmas.List.{take_all}
use Rattle.std.proofs.Math.ListN.{drop_of_length-le}
use Rattle.std.specs.Option.{is_some}
use Rattle.serde_json.proofs.Views.{view-Array}
use Rattle.serde_json.specs.Data.{Data, null, boolean, number, string, array, object, Items, item}
use Rattle.serde_json.specs.Find.{as_array, as_str}
use Rattle.serde_json.specs.View.{view, items_view}
use Rattle.serde_json.specs.declared.value.Value.{Value, Array}
use Rattle.txc_base.specs.declared.op.Op.{Op}
use Rattle.txc_txn_check.specs.declared.step.Step.{Step}
use Rattle.txc_txn_check.specs.declared.step.Step.TheVariants.{Do, Or, Retry}
use Rattle.txc_cmd_script.specs.declared.steps.StepFault.{StepFault}
use Rattle.txc_cmd_script.specs.declared.steps.StepFault.TheVariants.{Shape, NoMemory}
use Rattle.txc_cmd_script.specs.declared.step_name.StepName.{StepName}
use Rattle.txc_cmd_script.specs.declared.step_name.StepName.TheVariants as step_name
use Rattle.txc_cmd_script.specs.Operations.{op_of}
use Rattle.txc_cmd_script.specs.Tree.{list_of_items}
use Rattle.txc_cmd_script.specs.Steps.{are_lists, or_fault, mapped, then_reads, collected, simple_step, step_by}
use Rattle.txc_cmd_script.specs.Steps.{step_name_in}
use Rattle.txc_cmd_script.specs.Steps.{step_named, step_in_tree, step_in_items, steps_in_tree, steps_in_items}
use Rattle.txc_cmd_script.specs.Steps.{branches_in_items}
use Rattle.txc_cmd_script.proofs.Orders.{onto, drop_here, read_more, read_fault, read_all}
use Rattle.txc_cmd_script.proofs.TreeLemmas.{list_of_items-items_of}

-- a step name without branches that is not `retry` is that of an operation
simple_step-operation : (v : StepName) (elements : Items) → v ≢ step_name.Retry
    → simple_step v elements ≡ mapped Do (or_fault Shape (op_of v (list_of_items elements)))
simple_step-operation step_name.Write elements no_retry = refl
simple_step-operation step_name.TryWrite elements no_retry = refl
simple_step-operation step_name.Read elements no_retry = refl
simple_step-operation step_name.TryRead elements no_retry = refl
simple_step-operation step_name.Peek elements no_retry = refl
simple_step-operation step_name.TryPeek elements no_retry = refl
simple_step-operation step_name.PutBack elements no_retry = refl
simple_step-operation step_name.Close elements no_retry = refl
simple_step-operation step_name.IsClosed elements no_retry = refl
simple_step-operation step_name.IsEmpty elements no_retry = refl
simple_step-operation step_name.IsFull elements no_retry = refl
simple_step-operation step_name.Dup elements no_retry = refl
simple_step-operation step_name.Clone elements no_retry = refl
simple_step-operation step_name.Flush elements no_retry = refl
simple_step-operation step_name.Length elements no_retry = refl
simple_step-operation step_name.Or elements no_retry = refl
simple_step-operation step_name.Retry elements no_retry = absurd (no_retry refl)

-- an operation that is said, or none
pub simple_step-said : (v : StepName) (vs : List Value) (said : Option Op) → v ≢ step_name.Retry → said
    ≡ op_of v (map view vs)
    → mapped Do (or_fault Shape said) ≡ simple_step v (items_view vs)
simple_step-said v vs said no_retry is =
    ap (λ o. mapped Do (or_fault Shape o)) is
    ∙ sym (ap (λ l. mapped Do (or_fault Shape (op_of v l))) (list_of_items-items_of (map view vs)))
    ∙ sym (simple_step-operation v (items_view vs) no_retry)

-- `retry` alone
pub retry-alone : (v : StepName) (vs : List Value) → v ≡ step_name.Retry → nat_eq (length vs) 0 ≡ true
    → Ok Retry ≡ simple_step v (items_view vs)
retry-alone v [] is none = sym (ap (λ w. simple_step w (items_view [])) is)
retry-alone v (tree ∷ vs) is none = absurd (omega (arith, eqb-true _ _ none))

-- `retry` with more elements
pub retry-more : (v : StepName) (vs : List Value) → v ≡ step_name.Retry → nat_eq (length vs) 0 ≡ false
    → Err Shape ≡ simple_step v (items_view vs)
retry-more v [] is some = absurd (cc)
retry-more v (tree ∷ vs) is some = sym (ap (λ w. simple_step w (items_view (tree ∷ vs))) is)

-- a list in front changes nothing
are_lists-list : (d : Data) (rest : Items) → is_some (as_array d) ≡ true → are_lists (item d rest) ≡ are_lists rest
are_lists-list null rest is = absurd (cc)
are_lists-list (boolean b) rest is = absurd (cc)
are_lists-list (number n) rest is = absurd (cc)
are_lists-list (string s) rest is = absurd (cc)
are_lists-list (array ds) rest is = refl
are_lists-list (object ms) rest is = absurd (cc)

-- anything else in front, and not all are lists
are_lists-other : (d : Data) (rest : Items) → is_some (as_array d) ≡ false → are_lists (item d rest) ≡ false
are_lists-other null rest is = refl
are_lists-other (boolean b) rest is = refl
are_lists-other (number n) rest is = refl
are_lists-other (string s) rest is = refl
are_lists-other (array ds) rest is = absurd (cc)
are_lists-other (object ms) rest is = refl

-- one more is a list
pub lists_more : (vs : List Value) (i : ℕ) (v : Value) (whole : Bool) → i < length vs → v ≡ slice_index_or vs i v
    → whole ≡ are_lists (items_view (drop i vs)) → is_some (as_array (view v)) ≡ true
    → whole ≡ are_lists (items_view (drop (i + 1) vs))
lists_more vs i v whole lt is h list =
    h ∙ ap (λ l. are_lists (items_view l)) (drop_here vs i v lt is)
    ∙ are_lists-list (view v) (items_view (drop (i + 1) vs)) list

-- one more is none
pub lists_not : (vs : List Value) (i : ℕ) (v : Value) (whole : Bool) → i < length vs → v ≡ slice_index_or vs i v
    → whole ≡ are_lists (items_view (drop i vs)) → is_some (as_array (view v)) ≡ false → false ≡ whole
lists_not vs i v whole lt is h other =
    sym (h ∙ ap (λ l. are_lists (items_view l)) (drop_here vs i v lt is)
    ∙ are_lists-other (view v) (items_view (drop (i + 1) vs)) other)

-- no more are left
pub lists_all : (vs : List Value) (i : ℕ) (whole : Bool) → length vs ≤ i → whole ≡ are_lists (items_view (drop i vs))
    → true ≡ whole
lists_all vs i whole past h = sym (h ∙ ap (λ l. are_lists (items_view l)) (drop_of_length-le vs past))

-- the elements of a list: the first, and those after it
elements_split : (vs : List Value) (name : Value) → 1 ≤ length vs → name ≡ slice_index_or vs 0 name
    → vs ≡ name ∷ take (length vs - 1) (drop 1 vs)
elements_split [] name some is = absurd (omega arith)
elements_split (v ∷ vs) name some is = ap (λ w. w ∷ vs) (sym is)
    ∙ ap (λ l. name ∷ l) (sym (take_all (length (v ∷ vs) - 1) vs (omega arith)))

-- a step by the first of its elements and those after it
step_in_tree-elements : (tree : Value) (elements : Vec Value Global) (vs : List Value) (name : Value)
    → tree ≡ Array elements → vs ≡ elements.items → 1 ≤ length vs
    → name ≡ slice_index_or vs 0 name → step_in_tree (view tree)
    ≡ step_named (as_str (view name)) (items_view (take (length vs - 1) (drop 1 vs)))
    (branches_in_items (items_view (take (length vs - 1) (drop 1 vs))))
step_in_tree-elements tree elements vs name list is some first =
    ap (λ v. step_in_tree (view v)) list ∙ ap step_in_tree (view-Array elements)
    ∙ ap (λ l. step_in_items (items_view l)) (sym is)
    ∙ ap (λ l. step_in_items (items_view l)) (elements_split vs name some first)

-- a step whose first element names no step name
pub step_in_tree-unnamed : (tree : Value) (elements : Vec Value Global) (vs : List Value) (name : Value) (e : StepFault)
    → tree ≡ Array elements → vs ≡ elements.items → 1 ≤ length vs
    → name ≡ slice_index_or vs 0 name → Err e ≡ step_name_in (as_str (view name)) → step_in_tree (view tree) ≡ Err e
step_in_tree-unnamed tree elements vs name e list is some first named =
    let rest = items_view (take (length vs - 1) (drop 1 vs)) in
    step_in_tree-elements tree elements vs name list is some first
    ∙ ap (λ n. then_reads n (λ v. step_by v rest (branches_in_items rest))) (sym named)

-- a step whose first element names this step name
step_in_tree-named : (tree : Value) (elements : Vec Value Global) (vs : List Value) (name : Value) (v : StepName)
    → tree ≡ Array elements → vs ≡ elements.items → 1 ≤ length vs
    → name ≡ slice_index_or vs 0 name → Ok v ≡ step_name_in (as_str (view name)) → step_in_tree (view tree)
    ≡ step_by v (items_view (take (length vs - 1) (drop 1 vs)))
    (branches_in_items (items_view (take (length vs - 1) (drop 1 vs))))
step_in_tree-named tree elements vs name v list is some first named =
    let rest = items_view (take (length vs - 1) (drop 1 vs)) in
    step_in_tree-elements tree elements vs name list is some first
    ∙ ap (λ n. then_reads n (λ w. step_by w rest (branches_in_items rest))) (sym named)

-- a step with branches
pub step_in_tree-or : (tree : Value) (elements : Vec Value Global) (vs : List Value) (name : Value) (v : StepName)
    → tree ≡ Array elements → vs ≡ elements.items → 1 ≤ length vs
    → name ≡ slice_index_or vs 0 name → Ok v ≡ step_name_in (as_str (view name)) → v ≡ step_name.Or
    → true ≡ are_lists (items_view (take (length vs - 1) (drop 1 vs)))
    → step_in_tree (view tree) ≡ mapped Or (branches_in_items (items_view (take (length vs - 1) (drop 1 vs))))
step_in_tree-or tree elements vs name v list is some first named or lists =
    let rest = items_view (take (length vs - 1) (drop 1 vs)) in
    step_in_tree-named tree elements vs name v list is some first named
    ∙ ap (λ w. step_by w rest (branches_in_items rest)) or
    ∙ ap (λ b. if b then mapped Or (branches_in_items rest) else Err Shape) (sym lists)

-- a step name other than `or` has no branches
step_by-alone : (v : StepName) (elements : Items) (branches : Result (List (List Step)) StepFault) → v ≢ step_name.Or
    → step_by v elements branches ≡ simple_step v elements
step_by-alone step_name.Write elements branches no_or = refl
step_by-alone step_name.TryWrite elements branches no_or = refl
step_by-alone step_name.Read elements branches no_or = refl
step_by-alone step_name.TryRead elements branches no_or = refl
step_by-alone step_name.Peek elements branches no_or = refl
step_by-alone step_name.TryPeek elements branches no_or = refl
step_by-alone step_name.PutBack elements branches no_or = refl
step_by-alone step_name.Close elements branches no_or = refl
step_by-alone step_name.IsClosed elements branches no_or = refl
step_by-alone step_name.IsEmpty elements branches no_or = refl
step_by-alone step_name.IsFull elements branches no_or = refl
step_by-alone step_name.Dup elements branches no_or = refl
step_by-alone step_name.Clone elements branches no_or = refl
step_by-alone step_name.Flush elements branches no_or = refl
step_by-alone step_name.Length elements branches no_or = refl
step_by-alone step_name.Or elements branches no_or = absurd (no_or refl)
step_by-alone step_name.Retry elements branches no_or = refl

-- a step without branches
pub step_in_tree-alone : (tree : Value) (elements : Vec Value Global) (vs : List Value) (name : Value) (v : StepName)
    → tree ≡ Array elements → vs ≡ elements.items → 1 ≤ length vs
    → name ≡ slice_index_or vs 0 name → Ok v ≡ step_name_in (as_str (view name)) → v ≢ step_name.Or
    → step_in_tree (view tree) ≡ simple_step v (items_view (take (length vs - 1) (drop 1 vs)))
step_in_tree-alone tree elements vs name v list is some first named no_or =
    let rest = items_view (take (length vs - 1) (drop 1 vs)) in
    step_in_tree-named tree elements vs name v list is some first named
    ∙ step_by-alone v rest (branches_in_items rest) no_or

-- what a step is, as an answer
pub ok_is : (whole found : Result Step StepFault) → whole ≡ found → IfOk found (λ step. whole ≡ Ok step)
ok_is whole (Ok step) is = is
ok_is whole (Err why) is = tt

pub err_is : (whole found : Result Step StepFault) → whole ≡ found
    → IfErr found (λ why. why ≢ NoMemory → whole ≡ Err why)
err_is whole (Ok step) is = tt
err_is whole (Err why) is = λ given. is

-- one more step was read, or not, or none is left
pub steps_more : (vs : List Value) (i : ℕ) (v : Value) (xs : List Step) (x : Step)
    (whole : Result (List Step) StepFault)
    → i < length vs → v ≡ slice_index_or vs i v
    → whole ≡ onto xs (steps_in_items (items_view (drop i vs))) → step_in_tree (view v) ≡ Ok x
    → whole ≡ onto (xs ++ x ∷ []) (steps_in_items (items_view (drop (i + 1) vs)))
steps_more vs i v xs x whole lt is h one =
    read_more (λ l. steps_in_items (items_view l)) (λ l. steps_in_items (items_view l)) vs i v xs x whole lt is h
    (λ rest. ap (λ s. collected s (steps_in_items (items_view rest))) one)

pub steps_fault : (vs : List Value) (i : ℕ) (v : Value) (xs : List Step) (e : StepFault)
    (whole : Result (List Step) StepFault) → i < length vs → v ≡ slice_index_or vs i v
    → whole ≡ onto xs (steps_in_items (items_view (drop i vs))) → step_in_tree (view v) ≡ Err e → whole ≡ Err e
steps_fault vs i v xs e whole lt is h one =
    read_fault (λ l. steps_in_items (items_view l)) vs i v xs e whole lt is h
    (λ rest. ap (λ s. collected s (steps_in_items (items_view rest))) one)

pub steps_all : (vs : List Value) (i : ℕ) (xs : List Step) (whole : Result (List Step) StepFault) → length vs ≤ i
    → whole ≡ onto xs (steps_in_items (items_view (drop i vs))) → whole ≡ Ok xs
steps_all vs i xs whole past h = read_all (λ l. steps_in_items (items_view l)) vs i xs whole past h refl

-- the steps of a list are those of its elements
pub steps_in_tree-elements : (tree : Value) (elements : Vec Value Global) (vs : List Value) → tree ≡ Array elements
    → vs ≡ elements.items → steps_in_tree (view tree) ≡ steps_in_items (items_view vs)
steps_in_tree-elements tree elements vs list is = ap (λ v. steps_in_tree (view v)) list
    ∙ ap steps_in_tree (view-Array elements) ∙ ap (λ l. steps_in_items (items_view l)) (sym is)

-- one more branch was read, or not, or none is left
pub branches_more : (vs : List Value) (i : ℕ) (v : Value) (xs : List (List Step)) (x : List Step)
    (whole : Result (List (List Step)) StepFault) → i < length vs → v ≡ slice_index_or vs i v
    → whole ≡ onto xs (branches_in_items (items_view (drop i vs))) → steps_in_tree (view v) ≡ Ok x
    → whole ≡ onto (xs ++ x ∷ []) (branches_in_items (items_view (drop (i + 1) vs)))
branches_more vs i v xs x whole lt is h one =
    read_more (λ l. branches_in_items (items_view l)) (λ l. branches_in_items (items_view l)) vs i v xs x whole lt is h
    (λ rest. ap (λ s. collected s (branches_in_items (items_view rest))) one)

pub branches_fault : (vs : List Value) (i : ℕ) (v : Value) (xs : List (List Step)) (e : StepFault)
    (whole : Result (List (List Step)) StepFault) → i < length vs → v ≡ slice_index_or vs i v
    → whole ≡ onto xs (branches_in_items (items_view (drop i vs))) → steps_in_tree (view v) ≡ Err e → whole ≡ Err e
branches_fault vs i v xs e whole lt is h one =
    read_fault (λ l. branches_in_items (items_view l)) vs i v xs e whole lt is h
    (λ rest. ap (λ s. collected s (branches_in_items (items_view rest))) one)

pub branches_all : (vs : List Value) (i : ℕ) (xs : List (List Step)) (whole : Result (List (List Step)) StepFault)
    → length vs ≤ i → whole ≡ onto xs (branches_in_items (items_view (drop i vs)))
    → whole ≡ Ok xs
branches_all vs i xs whole past h = read_all (λ l. branches_in_items (items_view l)) vs i xs whole past h refl
