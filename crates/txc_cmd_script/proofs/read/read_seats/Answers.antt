use Rattle.std.proofs.Common.{◌≡◌, ◌+◌, ◌++◌, [], ◌∷◌, ◌∙◌, List, Vec, Global, ap, map, length, slice_get, All}
use Rattle.std.proofs.lemmas.List.{length_push, map_push}
use Rattle.std.proofs.lemmas.List.Elements.{All-push, All-same}
use Rattle.std.proofs.lemmas.Result.{err_from_is_err_and}
use Rattle.txc_txn_check.specs.Limits.{CheckedView}
use Rattle.txc_txn_check.specs.Steps.{Fits}
use Rattle.txc_txn_check.specs.declared.checked.Checked.{Checked}
use Rattle.txc_cmd_script.proofs.ReadLemmas.{seats_more, seats_fault, seats_all}
use Rattle.txc_cmd_script.proofs.read.read_seats.Goals as goal

pub returns-in_err-transactions-clause-err : goal.returns-in_err-transactions-clause-err
returns-in_err-transactions-clause-err c =
    let l = c.loop-seat in
    let items = λ (plans : Vec Checked Global). plans.items in
    let p = err_from_is_err_and c.from_residual.result c.from_residual.ensures.1 in
    rw (p.1, p.2) (λ given. seats_fault c.args.kinds.now c.args.trees.now l.seat c.index-trees-seat.result
    (map items l.seats.items) _ _ c.loop-seat-test.true c.index-trees-seat.is
    l.invariant.so_far (c.in_err-transactions.ensures.err given))

pub loop-seat-preserved : goal.loop-seat-preserved
loop-seat-preserved c =
    let l = c.loop-seat in
    let seat = c.in_ok-transactions.transactions in
    let items = λ (plans : Vec Checked Global). plans.items in
    let Fit = λ (plans : List CheckedView). All
    (λ (plan : CheckedView). Fits (slice_get c.args.kinds.now) plan.steps) plans in
    let pushed = c.in_ok-push.ensures.items in
    let read : map items c.push.new.self.items ≡ map items l.seats.items ++ seat.items ∷ [] = ap (map items) pushed
    ∙ map_push items l.seats.items seat in
    record {
      so_far = rw read (seats_more c.args.kinds.now c.args.trees.now l.seat c.index-trees-seat.result
          (map items l.seats.items) seat.items _ c.loop-seat-test.true c.index-trees-seat.is
          l.invariant.so_far c.in_ok-transactions.ensures.ok);
      all = ap length pushed ∙ length_push l.seats.items seat ∙ ap (λ n. n + 1) l.invariant.all;
      fits = All-same Fit _ _ read (All-push Fit (map items l.seats.items) seat.items l.invariant.fits
          c.in_ok-transactions.ensures.fits);
    }

pub returns-clause-ok : goal.returns-clause-ok
returns-clause-ok c = seats_all c.args.kinds.now c.args.trees.now c.loop-seat.seat _ _ c.loop-seat-test.false
    c.loop-seat.invariant.so_far
