use Rattle.std.proofs.Common.{refl, ◌<◌, ap, length, slice_set, subst, sym, arith}
use Rattle.txc_table_seat.proofs.Counting.{counted_all, counted_few, counted_step}
use Rattle.txc_table_seat.proofs.tally.count_acts.Goals as goal

pub loop-deed-init : goal.loop-deed-init
loop-deed-init c = λ n. refl

pub count-requires : goal.count-requires
count-requires c =
    counted_few _ c.args.tallies.now c.loop-deed.tallies c.args.acts.now c.loop-deed.deed-index c.from-chan.result _
    c.loop-deed-test.true c.from-chan.ensures
    (subst (λ n. n < length c.args.tallies.now) (sym c.from-chan.ensures)
    (c.requires.inside c.loop-deed.deed-index _ c.loop-deed-test.true))
    c.loop-deed.invariant c.requires.few

pub loop-deed-preserved : goal.loop-deed-preserved
loop-deed-preserved c =
    counted_step c.args.tallies.now c.loop-deed.tallies _ c.args.acts.now c.loop-deed.deed-index c.from-chan.result _
    c.loop-deed-test.true c.from-chan.ensures
    (subst (λ n. c.from-chan.result < n) (sym c.loop-deed.auto.tallies)
    (subst (λ n. n < length c.args.tallies.now) (sym c.from-chan.ensures)
    (c.requires.inside c.loop-deed.deed-index _ c.loop-deed-test.true)))
    (ap (slice_set c.loop-deed.tallies c.from-chan.result) c.count.ensures) c.loop-deed.invariant

pub returns : goal.returns
returns c = counted_all c.args.tallies.now _ c.args.acts.now c.loop-deed.deed-index
    (omega (arith, c.loop-deed-test.false)) c.loop-deed.invariant
