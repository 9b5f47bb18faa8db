use Rattle.std.proofs.Common.{◌≡◌, map, take}
use Rattle.txc_table_audit.proofs.order.list_ranks.Given as goal

abbrev pub invariant-loop-key : goal.invariant-loop-key
invariant-loop-key l = l.ranks.items ≡ map (λ key. record { seat = key.seat; serial = key.serial })
    (take l.key-index l.keys)
