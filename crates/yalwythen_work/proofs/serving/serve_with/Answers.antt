use Rattle.std.proofs.Common.{subst, sym}
use Rattle.std.proofs.lemmas.Result.{IfErr-weaker, IfOk-weaker}
use Rattle.std.specs.Prelude.{vec_len}
use Rattle.yalwythen_work.proofs.Ending.{served}
use Rattle.yalwythen_work.specs.Ran.{AllEnded, IsOfAll, IsOfEachServer, IsRefused}
use Rattle.yalwythen_work.proofs.serving.serve_with.Goals as goal

pub close-requires-clause-many : goal.close-requires-clause-many
close-requires-clause-many g c =
    subst (λ n. IsOfAll n c.in_ok-ended.ended.results) (sym c.in_ok-ended.ensures.built.1.its_seats)
    c.in_ok-ended.ensures.len

pub returns-clause-ok : goal.returns-clause-ok
returns-clause-ok g c = IfOk-weaker c.close.result _ _ (λ closed is.
    let ended = c.in_ok-ended.ended in
    let built = c.in_ok-ended.ensures.built in
    served ended.table c.args.decls.now (vec_len c.args.servers) built.0 ended.results.left.items closed.summaries
    built.1 is)
    c.close.ensures.summaries

pub returns-clause-each : goal.returns-clause-each
returns-clause-each g c = IfOk-weaker c.close.result _ _ (λ closed each.
    subst (λ n. IsOfEachServer n closed) c.in_ok-ended.ensures.built.1.its_seats each) c.close.ensures.each

pub returns-clause-came : goal.returns-clause-came
returns-clause-came g c = IfOk-weaker c.close.result _ _ (λ closed same.
    subst (λ ws. AllEnded g.W.Server.Postcondition c.args.servers.items ws.items closed.ends.items) (sym same.0)
    (subst (λ es. AllEnded g.W.Server.Postcondition c.args.servers.items c.in_ok-ended.ended.results.workers.items
    es.items) (sym same.1) c.in_ok-ended.ensures.came))
    c.close.ensures.servers

pub returns-clause-err : goal.returns-clause-err
returns-clause-err g c = IfErr-weaker c.close.result _ _ (λ fault is.
    subst (IsRefused c.args.decls.now (vec_len c.args.servers)) (sym is) tt) c.close.ensures.err
