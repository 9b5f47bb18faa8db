use Rattle.std.proofs.Common.{◌∙◌, map}
use Rattle.std.proofs.lemmas.Result.{err_from_is_err_and, IfOk-weaker, IfErr-weaker}
use Rattle.serde_json.specs.View.{view}
use Rattle.txc_cmd_script.proofs.ScriptLemmas.{script_from-read, script_from-err}
use Rattle.txc_cmd_script.proofs.read.read_lists.Goals as goal

pub returns-in_err-decls-clause-err : goal.returns-in_err-decls-clause-err
returns-in_err-decls-clause-err c =
    let p = err_from_is_err_and c.from_residual.result c.from_residual.ensures.1 in
    rw (p.1, p.2) (λ given. script_from-err c.args.channels.now (map view c.args.seats.now) _
    c.if-channels-gt-MAX_CHANNELS.false (c.in_err-decls.ensures.err given))

pub read_with_seats-requires-clause-few : goal.read_with_seats-requires-clause-few
read_with_seats-requires-clause-few c = rw c.in_ok-decls.ensures.all c.if-channels-gt-MAX_CHANNELS.false

pub returns-clause-ok : goal.returns-clause-ok
returns-clause-ok c =
    let read = script_from-read c.args.channels.now (map view c.args.seats.now) c.in_ok-decls.decls.items
    c.if-channels-gt-MAX_CHANNELS.false c.in_ok-decls.ensures.ok in
    IfOk-weaker c.read_with_seats.result _ _ (λ script says. read ∙ says) c.read_with_seats.ensures.ok

pub returns-clause-err : goal.returns-clause-err
returns-clause-err c =
    let read = script_from-read c.args.channels.now (map view c.args.seats.now) c.in_ok-decls.decls.items
    c.if-channels-gt-MAX_CHANNELS.false c.in_ok-decls.ensures.ok in
    IfErr-weaker c.read_with_seats.result _ _ (λ e says given. read ∙ says given) c.read_with_seats.ensures.err
