use Rattle.txc_base_laws.proofs.KeptLaw.{keeps}
use Rattle.txc_base_laws.proofs.laws.declared.Goals as goal

pub returns : goal.returns
returns c = keeps
