use Rattle.std.proofs.Common.{rules, ◌≡◌, ap, ◌∙◌, slice_get}
use Rattle.txc_txn_check.specs.Tally.{tally_of}
use Rattle.txc_txn_check.specs.Walk.{Fine, Faulty, walk}
use Rattle.txc_txn_check.proofs.Accepting.{not_refused}
use Rattle.txc_txn_check.proofs.Checking.{checked, fitting, counted_all}
use Rattle.txc_txn_check.proofs.checked.Checked.check.Goals as goal

pub invariant_of-result : goal.invariant_of-result
invariant_of-result c =
    let fine : walk (slice_get c.args.kinds.now) c.args.steps.items ≡ Fine (tally_of c.see_steps.new.seen) =
    search rules in
    rw c.from_vec.ensures (checked (slice_get c.args.kinds.now) c.args.steps.items (tally_of c.see_steps.new.seen) fine)

pub returns-clause-ok : goal.returns-clause-ok
returns-clause-ok c =
    let fine : walk (slice_get c.args.kinds.now) c.args.steps.items ≡ Fine (tally_of c.see_steps.new.seen) =
    search rules in
    fine ∙ ap (λ n. Fine (record { operations = n; channels = c.see_steps.new.seen.channels.items }))
    (counted_all (slice_get c.args.kinds.now) c.args.steps.items (tally_of c.see_steps.new.seen) fine)

pub returns-clause-fits : goal.returns-clause-fits
returns-clause-fits c =
    let fine : walk (slice_get c.args.kinds.now) c.args.steps.items ≡ Fine (tally_of c.see_steps.new.seen) =
    search rules in
    rw c.from_vec.ensures (fitting (slice_get c.args.kinds.now) c.args.steps.items (tally_of c.see_steps.new.seen) fine)

pub returns-in_err-see_steps-clause-accepts : goal.returns-in_err-see_steps-clause-accepts
returns-in_err-see_steps-clause-accepts c declared plan fits =
    let err : walk (slice_get c.args.kinds.now) c.args.steps.items ≡ Faulty c.in_err-see_steps.field-0.0 =
    search rules in
    absurd (not_refused (slice_get c.args.kinds.now) c.args.steps.items declared c.in_err-see_steps.field-0.0 plan fits
    err)
