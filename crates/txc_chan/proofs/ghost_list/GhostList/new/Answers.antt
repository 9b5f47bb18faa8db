use Rattle.std.proofs.Common.{ap}
use Rattle.txc_chan.specs.Flat.{flat}
use Rattle.txc_chan.proofs.ghost_list.GhostList.new.Goals as goal

pub returns : goal.returns
returns g c = ap flat c.of.ensures
