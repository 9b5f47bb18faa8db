use Rattle.txc_base_laws.proofs.InOrderLaw.{in_order}
use Rattle.txc_base_laws.proofs.laws.in_order.Goals as goal

pub returns : goal.returns
returns c = in_order
