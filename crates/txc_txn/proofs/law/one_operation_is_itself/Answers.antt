use Rattle.txc_txn.proofs.OneOperation.{one_is_itself}
use Rattle.txc_txn.proofs.law.one_operation_is_itself.Goals as goal

pub returns : goal.returns
returns c = one_is_itself
