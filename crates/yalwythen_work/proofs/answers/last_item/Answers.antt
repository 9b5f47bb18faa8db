use Rattle.std.proofs.Common.{arith}
use Rattle.std.proofs.lemmas.Grind.{common_steps}
use Rattle.yalwythen_work.proofs.Last.{last_more}
use Rattle.yalwythen_work.proofs.answers.last_item.Goals as goal

pub loop-reply-preserved : goal.loop-reply-preserved
loop-reply-preserved c = grind (arith, common_steps, last_more)
