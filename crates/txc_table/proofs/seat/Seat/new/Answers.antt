use Rattle.std.proofs.Common.{refl}
use Rattle.txc_table.proofs.Views.{new_is, new_seated}
use Rattle.txc_table.proofs.seat.Seat.new.Goals as goal

pub invariant_of-result : goal.invariant_of-result
invariant_of-result g c = new_seated c.args.access.shares c.args.history.commits.number c.args.history.commits
    c.requires.fresh c.requires.new c.requires.each c.requires.part

pub returns : goal.returns
returns g c = new_is _ c.args.access.shares c.args.history.commits.number c.args.history.commits refl c.requires.fresh
    c.requires.new
