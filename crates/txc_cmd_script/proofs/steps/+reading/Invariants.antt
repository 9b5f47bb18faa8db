use Rattle.std.proofs.Common.{◌≡◌, ◌+◌, ◌*◌, drop}
use Rattle.serde_json.specs.View.{items_view}
use Rattle.txc_cmd_script.specs.Steps.{steps_in_items, branches_in_items}
use Rattle.txc_cmd_script.proofs.Orders.{onto}
use Rattle.txc_cmd_script.proofs.steps.+reading.Given as goal

abbrev pub invariant-read_steps-loop-element : goal.invariant-read_steps-loop-element
invariant-read_steps-loop-element l =
    steps_in_items (items_view l.element-items) ≡ onto l.steps.items
    (steps_in_items (items_view (drop l.element-index l.element-items)))

abbrev pub invariant-read_branches-loop-tree : goal.invariant-read_branches-loop-tree
invariant-read_branches-loop-tree l =
    branches_in_items (items_view l.trees) ≡ onto l.branches.items
    (branches_in_items (items_view (drop l.tree-index l.trees)))

abbrev pub decreases-read_step : goal.decreases-read_step
decreases-read_step l = 2 * goal.size-read_step l

abbrev pub decreases-read_steps : goal.decreases-read_steps
decreases-read_steps l = 2 * goal.size-read_steps l

abbrev pub decreases-read_branches : goal.decreases-read_branches
decreases-read_branches l = 2 * goal.size-read_branches l + 1
