use Rattle.std.proofs.Common.{refl, sym, ◌∙◌}
use Rattle.txc_cmd_script.proofs.StepLemmas.{lists_more, lists_not, lists_all}
use Rattle.txc_cmd_script.proofs.steps.all_lists.Goals as goal

pub loop-tree-init : goal.loop-tree-init
loop-tree-init c = refl

pub returns-then-not-is_array : goal.returns-then-not-is_array
returns-then-not-is_array c =
    lists_not c.args.trees.now c.loop-tree.tree-index c.tree-item.result _ c.loop-tree-test.true c.tree-item.is
    c.loop-tree.invariant (sym c.is_array.ensures ∙ c.if-not-is_array.true)

pub loop-tree-preserved : goal.loop-tree-preserved
loop-tree-preserved c =
    lists_more c.args.trees.now c.loop-tree.tree-index c.tree-item.result _ c.loop-tree-test.true c.tree-item.is
    c.loop-tree.invariant (sym c.is_array.ensures ∙ c.if-not-is_array.false)

pub returns : goal.returns
returns c = lists_all c.args.trees.now c.loop-tree.tree-index _ c.loop-tree-test.false c.loop-tree.invariant
