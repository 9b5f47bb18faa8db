-- Replies with one more.
use Rattle.std.proofs.Common.{◌≡◌, refl, Option, List, [], ◌∷◌, ◌++◌}
use Rattle.txc_base.specs.declared.item.Item.{Item}
use Rattle.txc_base.specs.declared.reply.Reply.{Reply}
use Rattle.yalwythen_work.specs.Committed.{last_item_after, newer}

pub last_more : (last : Option Item) (xs : List Reply) (x : Reply)
    → last_item_after last (xs ++ x ∷ []) ≡ newer (last_item_after last xs) x
last_more last [] x = refl
last_more last (y ∷ ys) x = last_more (newer last y) ys x
