use Rattle.txc_cmd_explore.proofs.Covering.{replayed}
use Rattle.txc_cmd_explore.proofs.law.show_replay_is_an_order.Goals as goal

pub returns : goal.returns
returns c = λ script. replayed script
