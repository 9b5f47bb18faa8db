use Rattle.std.proofs.Common.{ap, ◌∙◌, sym, List, slice_get}
use Rattle.std.proofs.lemmas.Option.{slice_get_within}
use Rattle.txc_table.specs.Seat.{DepartedSeatView}
use Rattle.txc_table.proofs.Gathering.{of_out, seat_out}
use Rattle.txc_table.proofs.gathered.remove_seat.Goals as goal

pub returns-clause-out : goal.returns-clause-out
returns-clause-out g c =
    let found = c.in-Some.ensures.some in
    seat_out c.args.number c.in-Some.at c.args.left.now.items c.remove.new.self.items found.0 c.remove.result
    (ap (λ (ss : List DepartedSeatView). slice_get ss c.in-Some.at) (sym c.as_slice.ensures.value) ∙ found.1) found.2
    c.remove.ensures.value c.remove.ensures.items

pub returns-clause-of : goal.returns-clause-of
returns-clause-of g c lines are =
    let found = c.in-Some.ensures.some in
    of_out lines c.in-Some.at c.args.left.now.items c.remove.new.self.items c.remove.result are
    (slice_get_within c.args.left.now.items c.in-Some.at found.0
    (ap (λ (ss : List DepartedSeatView). slice_get ss c.in-Some.at) (sym c.as_slice.ensures.value) ∙ found.1))
    c.remove.ensures.value c.remove.ensures.items
