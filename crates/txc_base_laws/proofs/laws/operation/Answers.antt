use Rattle.txc_base_laws.proofs.Bridge.{logs_its_acts, stays_true}
use Rattle.txc_base_laws.proofs.laws.operation.Goals as goal

pub returns : goal.returns
returns c = record { acts = logs_its_acts; truth = stays_true }
