use Rattle.std.proofs.Common.{◌≡◌, List, length, map, take}
use Rattle.txc_base.specs.declared.item.Item.{Item}
use Rattle.txc_cmd_explore.proofs.follow.lengths.Given as goal

abbrev pub invariant-loop-list : goal.invariant-loop-list
invariant-loop-list l = l.left.items ≡ map (λ (list : List Item). length list) (take l.list-index l.lists)
