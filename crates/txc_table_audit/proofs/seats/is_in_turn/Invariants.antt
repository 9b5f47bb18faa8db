use Rattle.txc_table_audit.proofs.InTurn.{IsInTurnSoFar}
use Rattle.txc_table_audit.proofs.seats.is_in_turn.Given as goal

abbrev pub invariant-loop-nth : goal.invariant-loop-nth
invariant-loop-nth l = IsInTurnSoFar l.seat l.receipts l.nth
