use Rattle.std.proofs.Common.{rules, ◌≡◌, sym, ◌∙◌, ap, [], ◌∷◌, ◌++◌, List, take, map, ◌+◌}
use Rattle.std.proofs.lemmas.List.{map_more, take-map}
use Rattle.txc_base.specs.declared.item.Item.{Item}
use Rattle.txc_queue.specs.Queue.{Queue}
use Rattle.txc_queue_fanout.proofs.fanout.Fanout.lists.Goals as goal

pub loop-queue-preserved : goal.loop-queue-preserved
loop-queue-preserved c =
    let queues = c.deref-queue-items.result.now in
    let k = c.loop-queue.queue-index in
    let items_of = λ (queue : Queue). queue.items in
    let more : c.push.new.self.items ≡ c.loop-queue.lists.items ++ c.in-Ok.list.items ∷ [] = search rules in
    more ∙ ap (λ l. l ++ c.in-Ok.list.items ∷ []) (c.loop-queue.invariant ∙ take-map items_of k queues)
    ∙ ap (λ (x : List Item). map items_of (take k queues) ++ x ∷ [])
    (c.in-Ok.ensures.listed ∙ ap items_of c.queue-item.is)
    ∙ sym (map_more items_of queues k c.queue-item.result c.loop-queue-test.true)
    ∙ sym (take-map items_of (k + 1) queues)
