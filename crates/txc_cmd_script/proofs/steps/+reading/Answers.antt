use Rattle.std.proofs.Common.{◌∙◌, ap, sym}
use Rattle.std.proofs.lemmas.Result.{err_from_is_err_and}
use Rattle.txc_txn_check.specs.declared.step.Step.TheVariants.{Or}
use Rattle.txc_cmd_script.specs.Steps.{mapped}
use Rattle.txc_cmd_script.proofs.Orders.{onto-nothing}
use Rattle.txc_cmd_script.proofs.StepLemmas.{step_in_tree-unnamed, step_in_tree-or, step_in_tree-alone, ok_is, err_is}
use Rattle.txc_cmd_script.proofs.StepLemmas.{steps_in_tree-elements, steps_more, steps_fault, steps_all, branches_more}
use Rattle.txc_cmd_script.proofs.StepLemmas.{branches_fault, branches_all}
use Rattle.txc_cmd_script.proofs.steps.+reading.Goals as goal

pub read_branches-loop-tree-init : goal.read_branches-loop-tree-init
read_branches-loop-tree-init t c = onto-nothing c.in_ok-branches.branches.items _ c.in_ok-branches.ensures.items

pub read_branches-returns-in_err-read_steps-clause-err :
    goal.read_branches-returns-in_err-read_steps-clause-err
read_branches-returns-in_err-read_steps-clause-err t c =
    let l = c.loop-tree in
    let p = err_from_is_err_and c.from_residual-in_err-read_steps.result c.from_residual-in_err-read_steps.ensures.1 in
    rw (p.1, p.2) (λ given. branches_fault c.args.trees.now l.tree-index c.tree-item.result l.branches.items _ _
    c.loop-tree-test.true c.tree-item.is l.invariant
    (c.in_err-read_steps.ensures.err given))

pub read_branches-loop-tree-preserved : goal.read_branches-loop-tree-preserved
read_branches-loop-tree-preserved t c =
    let l = c.loop-tree in
    rw (c.in_ok-push.ensures.items, c.from_vec-branch.ensures)
    (branches_more c.args.trees.now l.tree-index c.tree-item.result l.branches.items _ _ c.loop-tree-test.true
    c.tree-item.is l.invariant c.in_ok-read_steps.ensures.ok)

pub read_branches-returns-clause-ok : goal.read_branches-returns-clause-ok
read_branches-returns-clause-ok t c = branches_all c.args.trees.now c.loop-tree.tree-index _ _ c.loop-tree-test.false
    c.loop-tree.invariant

pub read_step-returns-in_err-step_name-clause-err : goal.read_step-returns-in_err-step_name-clause-err
read_step-returns-in_err-step_name-clause-err t c =
    let p = err_from_is_err_and c.from_residual.result c.from_residual.ensures.1 in
    rw (p.1, p.2) (λ given. step_in_tree-unnamed c.args.tree.now c.in-Array.elements c.as_slice.result.now
    c.name-item.result _ c.in-Array.is c.as_slice.ensures.value
    c.in-len1-up.len_at_least c.name-item.is c.in_err-step_name.ensures)

pub read_step-returns-in_err-read_branches-in-Or-clause-err :
    goal.read_step-returns-in_err-read_branches-in-Or-clause-err
read_step-returns-in_err-read_branches-in-Or-clause-err t c =
    let p = err_from_is_err_and c.from_residual-in_err-read_branches-in-Or.result
    c.from_residual-in_err-read_branches-in-Or.ensures.1 in
    rw (p.1, p.2) (λ given. step_in_tree-or c.args.tree.now c.in-Array.elements c.as_slice.result.now c.name-item.result
    c.in_ok-step_name.step_name c.in-Array.is c.as_slice.ensures.value
    c.in-len1-up.len_at_least c.name-item.is c.in_ok-step_name.ensures c.in-Or.is c.if-all_lists.ensures
    ∙ ap (mapped Or) (c.in_err-read_branches-in-Or.ensures.err given))

pub read_step-returns-in_ok-read_branches-in-Or-clause-ok :
    goal.read_step-returns-in_ok-read_branches-in-Or-clause-ok
read_step-returns-in_ok-read_branches-in-Or-clause-ok t c =
    rw c.from_vec.ensures (step_in_tree-or c.args.tree.now c.in-Array.elements c.as_slice.result.now c.name-item.result
    c.in_ok-step_name.step_name c.in-Array.is c.as_slice.ensures.value
    c.in-len1-up.len_at_least c.name-item.is c.in_ok-step_name.ensures c.in-Or.is c.if-all_lists.ensures
    ∙ ap (mapped Or) c.in_ok-read_branches-in-Or.ensures.ok)

pub read_step-returns-in_default-2 : goal.read_step-returns-in_default-2
read_step-returns-in_default-2 t c =
    let is = step_in_tree-alone c.args.tree.now c.in-Array.elements c.as_slice.result.now c.name-item.result
    c.in_ok-step_name.step_name c.in-Array.is c.as_slice.ensures.value
    c.in-len1-up.len_at_least c.name-item.is c.in_ok-step_name.ensures c.in_default-2.not-Or
    ∙ sym c.read_simple_step.ensures in
    record { ok = ok_is _ c.read_simple_step.result is; err = err_is _ c.read_simple_step.result is }

pub read_steps-loop-element-init : goal.read_steps-loop-element-init
read_steps-loop-element-init t c = onto-nothing c.in_ok-steps.steps.items _ c.in_ok-steps.ensures.items

pub read_steps-returns-in_err-step-clause-err : goal.read_steps-returns-in_err-step-clause-err
read_steps-returns-in_err-step-clause-err t c =
    let l = c.loop-element in
    let p = err_from_is_err_and c.from_residual-in_err-step.result c.from_residual-in_err-step.ensures.1 in
    rw (p.1, p.2) (λ given. steps_in_tree-elements c.args.tree.now c.in-Array.elements c.deref-element-items.result.now
    c.in-Array.is c.deref-element-items.ensures.value
    ∙ steps_fault c.deref-element-items.result.now l.element-index c.element-item.result l.steps.items _ _
    c.loop-element-test.true c.element-item.is l.invariant
    (c.in_err-step.ensures.err given))

pub read_steps-loop-element-preserved : goal.read_steps-loop-element-preserved
read_steps-loop-element-preserved t c =
    let l = c.loop-element in
    rw c.in_ok-push.ensures.items
    (steps_more c.deref-element-items.result.now l.element-index c.element-item.result l.steps.items _ _
    c.loop-element-test.true c.element-item.is l.invariant c.in_ok-step.ensures.ok)

pub read_steps-returns-clause-ok : goal.read_steps-returns-clause-ok
read_steps-returns-clause-ok t c =
    steps_in_tree-elements c.args.tree.now c.in-Array.elements c.deref-element-items.result.now c.in-Array.is
    c.deref-element-items.ensures.value
    ∙ steps_all c.deref-element-items.result.now c.loop-element.element-index _ _ c.loop-element-test.false
    c.loop-element.invariant
