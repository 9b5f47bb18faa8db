-- The steps of a transaction, read from a tree.
use Rattle.std.specs.Prelude.{ℕ, Bool, true, false, List, [], ◌∷◌, Option, Some, None, Result, Ok, Err, if◌then◌else◌}
use Rattle.serde_json.specs.Data.{Data, null, boolean, number, string, array, object, Items, no_items, item}
use Rattle.serde_json.specs.Find.{as_str}
use Rattle.txc_txn_check.specs.declared.step.Step.{Step}
use Rattle.txc_txn_check.specs.declared.step.Step.TheVariants.{Do, Or, Retry}
use Rattle.txc_cmd_script.specs.declared.steps.StepFault.{StepFault}
use Rattle.txc_cmd_script.specs.declared.steps.StepFault.TheVariants.{Shape, UnknownOp}
use Rattle.txc_cmd_script.specs.declared.step_name.StepName.{StepName}
use Rattle.txc_cmd_script.specs.declared.step_name.StepName.TheVariants as step_name
use Rattle.txc_cmd_script.specs.Operations.{step_name_of, op_of}
use Rattle.txc_cmd_script.specs.Tree.{list_of_items}

-- the value, or this fault if there is none
abbrev pub or_fault : {X E : Type 0} → E → Option X → Result X E
or_fault fault None = Err fault
or_fault fault (Some x) = Ok x

-- the result of a function, or the fault
abbrev pub mapped : {X Y E : Type 0} → (X → Y) → Result X E → Result Y E
mapped f (Ok x) = Ok (f x)
mapped f (Err fault) = Err fault

-- one reading after another: the fault of the first is that of both
abbrev pub then_reads : {X Y E : Type 0} → Result X E → (X → Result Y E) → Result Y E
then_reads (Ok x) next = next x
then_reads (Err fault) next = Err fault

-- one result before the others; the first fault is that of all
abbrev pub collected : {X E : Type 0} → Result X E → Result (List X) E → Result (List X) E
collected first rest = then_reads first (λ x. mapped (λ xs. x ∷ xs) rest)

-- whether each of these trees is a list
abbrev pub are_lists : Items → Bool
are_lists no_items = true
are_lists (item (array items) rest) = are_lists rest
are_lists (item tree rest) = false

-- `retry` has no more elements
abbrev pub retry_of : Items → Result Step StepFault
retry_of no_items = Ok Retry
retry_of (item tree rest) = Err Shape

-- a step without branches, by its name and the elements after it
abbrev pub simple_step : StepName → Items → Result Step StepFault
simple_step step_name.Retry elements = retry_of elements
simple_step step_name elements = mapped Do (or_fault Shape (op_of step_name (list_of_items elements)))

-- a step, by its name and the elements after it, given the branches in them
abbrev pub step_by : StepName → Items → Result (List (List Step)) StepFault → Result Step StepFault
step_by step_name.Or elements branches = if are_lists elements then mapped Or branches else Err Shape
step_by step_name elements branches = simple_step step_name elements

-- the step name that is the first element's text, if it has one
abbrev pub step_name_in : Option (List ℕ) → Result StepName StepFault
step_name_in None = Err Shape
step_name_in (Some name) = or_fault UnknownOp (step_name_of name)

-- the step by the first element's text, if it has one
abbrev pub step_named : Option (List ℕ) → Items → Result (List (List Step)) StepFault → Result Step StepFault
step_named name elements branches = then_reads (step_name_in name) (λ step_name. step_by step_name elements branches)

abbrev mutual
  -- a step: a list that begins with a text
  pub step_in_tree : Data → Result Step StepFault
  step_in_tree null = Err Shape
  step_in_tree (boolean b) = Err Shape
  step_in_tree (number n) = Err Shape
  step_in_tree (string s) = Err Shape
  step_in_tree (array elements) = step_in_items elements
  step_in_tree (object entries) = Err Shape

  -- a step's elements: the first names it
  pub step_in_items : Items → Result Step StepFault
  step_in_items no_items = Err Shape
  step_in_items (item name elements) = step_named (as_str name) elements (branches_in_items elements)

  -- a list of steps
  pub steps_in_tree : Data → Result (List Step) StepFault
  steps_in_tree null = Err Shape
  steps_in_tree (boolean b) = Err Shape
  steps_in_tree (number n) = Err Shape
  steps_in_tree (string s) = Err Shape
  steps_in_tree (array steps) = steps_in_items steps
  steps_in_tree (object entries) = Err Shape

  -- steps, in order
  pub steps_in_items : Items → Result (List Step) StepFault
  steps_in_items no_items = Ok []
  steps_in_items (item step rest) = collected (step_in_tree step) (steps_in_items rest)

  -- branches, in order
  pub branches_in_items : Items → Result (List (List Step)) StepFault
  branches_in_items no_items = Ok []
  branches_in_items (item branch rest) = collected (steps_in_tree branch) (branches_in_items rest)
