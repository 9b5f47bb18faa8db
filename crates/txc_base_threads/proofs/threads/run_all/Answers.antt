use Rattle.std.proofs.Common.{rules, ◌<◌, ℕ, slice_index_or, vec_len}
use Rattle.txc_base_threads.proofs.threads.run_all.Goals as goal

pub scoped-requires : goal.scoped-requires
scoped-requires g c =
    let can : (k : ℕ) (j : _) → k < vec_len c.args.tasks → g.J.Task.Can (slice_index_or c.args.tasks.items k j) =
    c.requires.can in
    let tasks = c.type_bounds.send-J in
    let outputs = c.type_bounds.send-O in
    let handle = c.type_bounds.sync-R in
    search rules depth 40 fits 20000
