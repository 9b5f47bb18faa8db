use Rattle.std.proofs.Common.{◌≢◌, All, take}
use Rattle.txc_base.specs.declared.stop.Stop.TheVariants.{NoMemory}
use Rattle.txc_cmd_report.specs.declared.seat_end.SeatEnd.TheVariants.{Stopped}
use Rattle.txc_cmd_threads.proofs.closing.any_without_memory.Given as goal

abbrev pub invariant-loop-end : goal.invariant-loop-end
invariant-loop-end l = All (λ end. end ≢ Stopped NoMemory) (take l.end-index l.ends)
