use Rattle.txc_base_laws.proofs.OrderLaw.{takes_in_order}
use Rattle.txc_base_laws.proofs.UndoLaw.{before, stays_true_back}
use Rattle.txc_base_laws.proofs.laws.undo.Goals as goal

pub returns : goal.returns
returns c = record { before = before; truth = stays_true_back; order = takes_in_order }
