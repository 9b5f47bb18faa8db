use Rattle.std.proofs.Common.{rules, ◌≡◌, ap, ◌∙◌, set, arith}
use Rattle.std.proofs.lemmas.List.Edits.{map_over_more}
use Rattle.txc_queue.specs.Queue.{Queue, pushed_back}
use Rattle.txc_queue_fanout.proofs.fanout.push_to_each.Goals as goal

pub loop-queue_index-preserved : goal.loop-queue_index-preserved
loop-queue_index-preserved c =
    let loop = c.loop-queue_index in
    let queue = c.index-queues-queue_index.result in
    let pushed : c.push_back.new.self ≡ pushed_back queue c.args.item = search rules in
    ap (λ (new : Queue). set loop.queues loop.queue_index new) pushed
    ∙ map_over_more (λ (queue : Queue). pushed_back queue c.args.item) c.args.queues.now loop.queues loop.queue_index
    queue
    (omega arith) loop.invariant c.index-queues-queue_index.is
