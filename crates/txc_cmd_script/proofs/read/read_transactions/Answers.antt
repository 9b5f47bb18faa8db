use Rattle.std.proofs.Common.{slice_get}
use Rattle.std.proofs.lemmas.List.Elements.{All-push, All-same}
use Rattle.std.proofs.lemmas.Result.{err_from_is_err_and}
use Rattle.txc_txn_check.specs.Limits.{CheckedView}
use Rattle.txc_txn_check.specs.Steps.{Fits}
use Rattle.txc_cmd_script.proofs.ReadLemmas.{transactions_more, transactions_fault, transactions_all}
use Rattle.txc_cmd_script.proofs.read.read_transactions.Goals as goal

pub returns-in_err-transaction-clause-err : goal.returns-in_err-transaction-clause-err
returns-in_err-transaction-clause-err c =
    let l = c.loop-txn in
    let p = err_from_is_err_and c.from_residual-in_err-transaction.result
    c.from_residual-in_err-transaction.ensures.1 in
    rw (p.1, p.2) (λ given. transactions_fault c.args.kinds.now c.args.seat c.args.trees.now l.txn
    c.index-trees-txn.result l.transactions.items _ _ c.loop-txn-test.true c.index-trees-txn.is
    l.invariant.so_far (c.in_err-transaction.ensures.err given))

pub loop-txn-preserved : goal.loop-txn-preserved
loop-txn-preserved c =
    let l = c.loop-txn in
    let plan = c.in_ok-transaction.transaction in
    let Fit = λ (p : CheckedView). Fits (slice_get c.args.kinds.now) p.steps in
    let pushed = c.in_ok-push.ensures.items in
    record {
      so_far = rw pushed (transactions_more c.args.kinds.now c.args.seat c.args.trees.now l.txn c.index-trees-txn.result
          l.transactions.items plan _ c.loop-txn-test.true c.index-trees-txn.is
          l.invariant.so_far c.in_ok-transaction.ensures.ok);
      fits = All-same Fit _ _ pushed
          (All-push Fit l.transactions.items plan l.invariant.fits c.in_ok-transaction.ensures.fits);
    }

pub returns-clause-ok : goal.returns-clause-ok
returns-clause-ok c = transactions_all c.args.kinds.now c.args.seat c.args.trees.now c.loop-txn.txn _ _
    c.loop-txn-test.false c.loop-txn.invariant.so_far
