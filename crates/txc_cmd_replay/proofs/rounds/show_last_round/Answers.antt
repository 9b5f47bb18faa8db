use Rattle.txc_cmd_replay.proofs.Left.{last_keeps_none}
use Rattle.txc_cmd_replay.proofs.rounds.show_last_round.Goals as goal

pub returns : goal.returns
returns c = last_keeps_none
