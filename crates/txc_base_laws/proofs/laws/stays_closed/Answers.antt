use Rattle.txc_base_laws.proofs.ShutLaw.{stays_closed, closed_by_its_log}
use Rattle.txc_base_laws.proofs.laws.stays_closed.Goals as goal

pub returns : goal.returns
returns c = record { nothing_more = stays_closed; flag = closed_by_its_log }
