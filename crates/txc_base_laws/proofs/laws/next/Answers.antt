use Rattle.txc_base_laws.proofs.NextLaw.{next}
use Rattle.txc_base_laws.proofs.laws.next.Goals as goal

pub returns : goal.returns
returns c = next
