use Rattle.std.proofs.Common.{◌∙◌, sym, ap}
use Rattle.txc_table.specs.Seat.{DepartedSeatView}
use Rattle.txc_table.proofs.Gathering.{none_next, some_there}
use Rattle.txc_table.proofs.gathered.find_seat.Goals as goal

pub loop-at-preserved : goal.loop-at-preserved
loop-at-preserved g c =
    none_next c.args.number c.loop-at.at c.args.left.now c.index-left-at.result c.loop-at-test.true
    (sym c.index-left-at.is)
    (λ e. c.if-number.false (c.number.ensures ∙ ap (λ (s : DepartedSeatView). s.commits.number) c.seat.view_is ∙ e))
    c.loop-at.invariant

pub returns-then-number-clause-there : goal.returns-then-number-clause-there
returns-then-number-clause-there g c =
    some_there c.args.number c.loop-at.at c.args.left.now c.index-left-at.result c.loop-at-test.true
    (sym c.index-left-at.is)
    (ap (λ (s : DepartedSeatView). s.commits.number) (sym c.seat.view_is) ∙ sym c.number.ensures ∙ c.if-number.true)
