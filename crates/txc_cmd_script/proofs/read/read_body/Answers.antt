use Rattle.std.proofs.Common.{◌≡◌, ◌∙◌, arith}
use Rattle.std.proofs.lemmas.Result.{IfOk-weaker, IfErr-weaker}
use Rattle.serde_json.specs.View.{view}
use Rattle.txc_cmd_script.specs.Tree.{key_count}
use Rattle.txc_cmd_script.proofs.ScriptLemmas.{with_three_keys-lists}
use Rattle.txc_cmd_script.proofs.read.read_body.Goals as goal

pub returns-clause-ok : goal.returns-clause-ok
returns-clause-ok c =
    let three : key_count (view c.args.tree.now) ≡ 3 = omega (arith, c.count_keys.ensures) in
    let lists = with_three_keys-lists (view c.args.tree.now) c.in-Some.channels.now.items
    c.in-Some-elements_at.seats.now.items c.as_slice.result.now c.as_slice-2.result.now
    three c.in-Some.ensures c.in-Some-elements_at.ensures c.as_slice.ensures.value c.as_slice-2.ensures.value in
    IfOk-weaker c.read_lists.result _ _ (λ script says. lists ∙ says) c.read_lists.ensures.ok

pub returns-clause-err : goal.returns-clause-err
returns-clause-err c =
    let three : key_count (view c.args.tree.now) ≡ 3 = omega (arith, c.count_keys.ensures) in
    let lists = with_three_keys-lists (view c.args.tree.now) c.in-Some.channels.now.items
    c.in-Some-elements_at.seats.now.items c.as_slice.result.now c.as_slice-2.result.now
    three c.in-Some.ensures c.in-Some-elements_at.ensures c.as_slice.ensures.value c.as_slice-2.ensures.value in
    IfErr-weaker c.read_lists.result _ _ (λ e says given. lists ∙ says given) c.read_lists.ensures.err
