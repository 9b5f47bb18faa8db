use Rattle.std.proofs.Common.{◌≡◌, length, map, vec_len}
use Rattle.txc_table.specs.Table.{decls_of}
use Rattle.txc_cmd_threads.specs.Pool.{HaveServed}
use Rattle.txc_cmd_threads.proofs.final_tries.retry_stalled.Given as goal

abbrev pub invariant-loop : goal.invariant-loop
invariant-loop g l =
    (goal.iterator-loop g).can_next l.iterator' × (goal.iterator-loop g).is_finite l.iterator'
    × (l.idle.table ≡ l.fn.worked.idle.table) × (length l.idle.left ≡ length l.plans)
    × (vec_len l.ends ≡ length l.plans)
    × HaveServed (decls_of l.fn.worked.idle.table.lines) (map (λ seat. seat.items) l.plans) l.idle.left l.ends.items
