use Rattle.std.proofs.Common.{◌+◌, ◌∙◌, ap, length}
use Rattle.std.proofs.lemmas.List.{length_push}
use Rattle.std.proofs.lemmas.Result.{err_from_is_err_and}
use Rattle.serde_json.specs.View.{view}
use Rattle.txc_chan.specs.Limits.{first_fault}
use Rattle.txc_cmd_script.proofs.Orders.{onto-nothing}
use Rattle.txc_cmd_script.proofs.ReadLemmas.{decls_more, decls_fault, decls_all, decls_made}
use Rattle.txc_cmd_script.proofs.channel.read_decls.Goals as goal

pub loop-chan-init : goal.loop-chan-init
loop-chan-init c =
    let none = c.new-decls.ensures.items in
    record {
      so_far = onto-nothing c.new-decls.result.items _ none;
      all = ap length none;
      made = ap first_fault none;
    }

pub returns-in_err-decl-clause-err : goal.returns-in_err-decl-clause-err
returns-in_err-decl-clause-err c =
    let l = c.loop-chan in
    let p = err_from_is_err_and c.from_residual.result c.from_residual.ensures.1 in
    rw (p.1, p.2) (λ given. decls_fault c.args.trees.now l.chan c.index-trees-chan.result l.decls.items _ _
    c.loop-chan-test.true c.index-trees-chan.is l.invariant.so_far
    c.in_err-decl.ensures)

pub loop-chan-preserved : goal.loop-chan-preserved
loop-chan-preserved c =
    let l = c.loop-chan in
    let decl = c.in_ok-decl.decl in
    let pushed = c.in_ok-push.ensures.items in
    record {
      so_far = rw pushed (decls_more c.args.trees.now l.chan c.index-trees-chan.result l.decls.items decl _
          c.loop-chan-test.true c.index-trees-chan.is l.invariant.so_far c.in_ok-decl.ensures);
      all = ap length pushed ∙ length_push l.decls.items decl ∙ ap (λ n. n + 1) l.invariant.all;
      made = ap first_fault pushed ∙ decls_made l.decls.items l.chan (view c.index-trees-chan.result) decl
          l.invariant.made c.in_ok-decl.ensures;
    }

pub returns-clause-ok : goal.returns-clause-ok
returns-clause-ok c = decls_all c.args.trees.now c.loop-chan.chan _ _ c.loop-chan-test.false
    c.loop-chan.invariant.so_far
