use Rattle.std.proofs.Common.{sym, ap, ◌∙◌, set}
use Rattle.std.proofs.lemmas.List.Edits.{map_over_more}
use Rattle.txc_queue.specs.Queue.{Queue, with_nothing_undoable}
use Rattle.txc_queue_fanout.proofs.fanout.Fanout.settle.Goals as goal

pub loop-queue-preserved : goal.loop-queue-preserved
loop-queue-preserved c =
    let loop = c.loop-queue in
    let found = c.queue-item in
    ap (λ (new : Queue). set loop.queue-items loop.queue-index new)
    (c.settle.ensures ∙ ap with_nothing_undoable (sym found.is))
    ∙ map_over_more with_nothing_undoable c.deref_mut-queue-items.result.now loop.queue-items loop.queue-index
    found.result c.loop-queue-test.true loop.invariant found.is
