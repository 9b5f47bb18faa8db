use Rattle.std.proofs.Common.{◌≡◌, take}
use Rattle.yalwythen_work.specs.Committed.{last_item}
use Rattle.yalwythen_work.proofs.answers.last_item.Given as goal

abbrev pub invariant-loop-reply : goal.invariant-loop-reply
invariant-loop-reply l = l.found ≡ last_item (take l.reply-index l.replies)
