use Rattle.txc_base_laws.proofs.OnceLaw.{once}
use Rattle.txc_base_laws.proofs.laws.once.Goals as goal

pub returns : goal.returns
returns c = once
