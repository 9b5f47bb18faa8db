use Rattle.std.proofs.Common.{sym, ap, ◌∙◌, set, arith}
use Rattle.std.proofs.lemmas.List.Edits.{map_over_more}
use Rattle.txc_queue.specs.Queue.{Queue, without_back}
use Rattle.txc_queue_fanout.proofs.fanout.take_back.Goals as goal

pub loop-queue_index-preserved : goal.loop-queue_index-preserved
loop-queue_index-preserved c =
    let loop = c.loop-queue_index in
    let found = c.index-queues-queue_index in
    let few = c.requires.few in
    ap (λ (new : Queue). set loop.queues loop.queue_index new)
    (c.undo_push_back.ensures ∙ ap without_back (sym found.is))
    ∙ map_over_more without_back c.args.queues.now loop.queues loop.queue_index found.result
    (omega arith) loop.invariant found.is
