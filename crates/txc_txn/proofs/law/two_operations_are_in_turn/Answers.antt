use Rattle.txc_txn.proofs.TwoOperations.{two_in_turn}
use Rattle.txc_txn.proofs.law.two_operations_are_in_turn.Goals as goal

pub returns : goal.returns
returns c = two_in_turn
