use Rattle.std.proofs.Common.{rules, ◌≡◌, ◌+◌, slice_get}
use Rattle.txc_txn_check.specs.Tally.{tally_of}
use Rattle.txc_txn_check.specs.Walk.{walk_step, walk_branches}
use Rattle.txc_txn_check.proofs.Walking.{or_walk}
use Rattle.txc_txn_check.proofs.walk.+walk.Goals as goal

pub see_step-returns-else-depth-ge-MAX_NESTED-clause-ok : goal.see_step-returns-else-depth-ge-MAX_NESTED-clause-ok
see_step-returns-else-depth-ge-MAX_NESTED-clause-ok t c =
    let is : walk_step (slice_get c.args.kinds.now) c.args.step.now c.args.depth (tally_of c.args.seen.now)
    ≡ walk_branches (slice_get c.args.kinds.now) c.in-Or.branches (c.args.depth + 1) (tally_of c.args.seen.now) =
    or_walk (slice_get c.args.kinds.now) c.args.step.now c.in-Or.branches c.args.depth (tally_of c.args.seen.now)
    c.in-Or.is (search rules) in
    rw (is, ← c.as_slice.ensures) c.see_branches.ensures.ok

pub see_step-returns-else-depth-ge-MAX_NESTED-clause-err : goal.see_step-returns-else-depth-ge-MAX_NESTED-clause-err
see_step-returns-else-depth-ge-MAX_NESTED-clause-err t c =
    let is : walk_step (slice_get c.args.kinds.now) c.args.step.now c.args.depth (tally_of c.args.seen.now)
    ≡ walk_branches (slice_get c.args.kinds.now) c.in-Or.branches (c.args.depth + 1) (tally_of c.args.seen.now) =
    or_walk (slice_get c.args.kinds.now) c.args.step.now c.in-Or.branches c.args.depth (tally_of c.args.seen.now)
    c.in-Or.is (search rules) in
    rw (is, ← c.as_slice.ensures) c.see_branches.ensures.err
