use Rattle.std.proofs.Common.{◌≡◌, length, map, vec_len}
use Rattle.txc_table.specs.Table.{decls_of}
use Rattle.txc_cmd_threads.specs.Pool.{HaveServed}
use Rattle.txc_cmd_threads.specs.Stuck.{AreStuck}
use Rattle.txc_cmd_threads.proofs.final_tries.find_ready.Given as goal

abbrev pub invariant-loop-at : goal.invariant-loop-at
invariant-loop-at g l = (l.idle.table ≡ l.fn.idle.table) × (l.idle.left ≡ l.fn.idle.left)
    × (vec_len l.ends ≡ length l.plans)
    × HaveServed (decls_of l.fn.idle.table.lines) (map (λ seat. seat.items) l.plans) l.fn.idle.left l.ends.items
    × AreStuck l.at l.idle.helds (map (λ seat. seat.items) l.plans) l.fn.idle.left l.ends.items
