use Rattle.txc_queue.specs.Queue.{Queue, unpopped}
use Rattle.txc_queue_fanout.proofs.Undone.{undoes_pop, changes}
use Rattle.txc_queue_fanout.proofs.fanout.Fanout.undo_take.Goals as goal

pub returns : goal.returns
returns c =
    let found = c.index_mut in
    let value = changes c.self.inside.queues.items c.args.self.now c.args.reader
    (λ (queue : Queue). unpopped queue c.args.item) found.result.now c.undo_pop.new.self
    c.self.view_is c.requires.there found.ensures.value c.undo_pop.ensures in
    record { value = value; undone = undoes_pop _ _ _ _ value }
