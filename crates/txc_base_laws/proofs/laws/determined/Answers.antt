use Rattle.txc_base_laws.proofs.Truth.{determined}
use Rattle.txc_base_laws.proofs.laws.determined.Goals as goal

pub returns : goal.returns
returns c = determined
