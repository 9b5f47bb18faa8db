use Rattle.txc_base_laws.proofs.CountsLaw.{counts, sorts, returns as put_backs}
use Rattle.txc_base_laws.proofs.KeptLaw.{numbered}
use Rattle.txc_base_laws.proofs.laws.counts.Goals as goal

pub returns : goal.returns
returns c = record { balance = counts; sorts = sorts; numbers = numbered; returned = put_backs }
