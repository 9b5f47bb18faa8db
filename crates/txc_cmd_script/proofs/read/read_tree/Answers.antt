use Rattle.std.proofs.Common.{◌∙◌}
use Rattle.std.proofs.lemmas.Result.{IfOk-weaker, IfErr-weaker}
use Rattle.serde_json.specs.View.{view}
use Rattle.txc_cmd_script.proofs.ScriptLemmas.{script_of-first, script_of-other}
use Rattle.txc_cmd_script.proofs.read.read_tree.Goals as goal

pub returns-in-Some-eq1-clause-ok : goal.returns-in-Some-eq1-clause-ok
returns-in-Some-eq1-clause-ok c =
    let first = script_of-first (view c.args.tree.now) c.in-Some-eq1.field-0 c.in-Some-eq1.ensures
    c.in-Some-eq1.field-0-test in
    IfOk-weaker c.read_body.result _ _ (λ script says. first ∙ says) c.read_body.ensures.ok

pub returns-in-Some-eq1-clause-err : goal.returns-in-Some-eq1-clause-err
returns-in-Some-eq1-clause-err c =
    let first = script_of-first (view c.args.tree.now) c.in-Some-eq1.field-0 c.in-Some-eq1.ensures
    c.in-Some-eq1.field-0-test in
    IfErr-weaker c.read_body.result _ _ (λ e says given. first ∙ says given) c.read_body.ensures.err

pub returns-in-Some-clause-ok : goal.returns-in-Some-clause-ok
returns-in-Some-clause-ok c = tt

pub returns-in-Some-clause-err : goal.returns-in-Some-clause-err
returns-in-Some-clause-err c = λ given. script_of-other (view c.args.tree.now) c.in-Some.field-0 c.in-Some.ensures
    c.in-Some.field-0-test.1
