use Rattle.std.proofs.Common.{◌∙◌, arith}
use Rattle.std.proofs.lemmas.Result.{IfOk-weaker, IfErr-weaker}
use Rattle.txc_cmd_script.proofs.ReadLemmas.{script_in-tree, script_in-large}
use Rattle.txc_cmd_script.proofs.read.read_script.Goals as goal

pub returns-in-Ok-clause-ok : goal.returns-in-Ok-clause-ok
returns-in-Ok-clause-ok c =
    let read = c.in-Ok.ensures.ok in
    IfOk-weaker c.read_tree.result _ _ (λ script says. script_in-tree _ _ (omega arith) read.0 read.1 ∙ says)
    c.read_tree.ensures.ok

pub returns-in-Ok-clause-err : goal.returns-in-Ok-clause-err
returns-in-Ok-clause-err c =
    let read = c.in-Ok.ensures.ok in
    IfErr-weaker c.read_tree.result _ _ (λ e says given. script_in-tree _ _ (omega arith) read.0 read.1 ∙ says given)
    c.read_tree.ensures.err

pub returns-then-bytes-gt-MAX_BYTES-clause-err : goal.returns-then-bytes-gt-MAX_BYTES-clause-err
returns-then-bytes-gt-MAX_BYTES-clause-err c = λ given. script_in-large c.args.bytes.now c.if-bytes-gt-MAX_BYTES.true
