use Rattle.std.proofs.Common.{◌≡◌, drop}
use Rattle.serde_json.specs.View.{items_view}
use Rattle.txc_cmd_script.specs.Steps.{are_lists}
use Rattle.txc_cmd_script.proofs.steps.all_lists.Given as goal

abbrev pub invariant-loop-tree : goal.invariant-loop-tree
invariant-loop-tree l = are_lists (items_view l.trees) ≡ are_lists (items_view (drop l.tree-index l.trees))
