use Rattle.std.proofs.Common.{◌≡◌, ◌+◌, ◌-◌, ◌≤◌, ◌++◌, take, drop, vec_len, vec_capacity}
use Rattle.txc_cast.specs.Kept.{items_shown}
use Rattle.txc_cast.proofs.cast.Cast.remaining.Given as goal

abbrev pub invariant-loop-position : goal.invariant-loop-position
invariant-loop-position l =
    (l.list.items ≡ l.initial.list.items ++ take (l.position - l.initial.position)
    (drop l.initial.position (items_shown l.self-inside.tokens.items)))
    × (vec_len l.list + (l.written - l.position) ≤ vec_capacity l.list)
