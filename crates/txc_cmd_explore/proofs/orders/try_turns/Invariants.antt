use Rattle.txc_cmd_explore.specs.Followed.{HaveTried}
use Rattle.txc_cmd_explore.proofs.orders.try_turns.Given as goal

abbrev pub invariant-loop-seat : goal.invariant-loop-seat
invariant-loop-seat g l = HaveTried l.script l.order l.seat l.initial.waiting.items l.waiting.items l.ends.items l.any
