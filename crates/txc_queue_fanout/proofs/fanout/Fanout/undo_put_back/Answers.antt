use Rattle.txc_queue.specs.Queue.{without_first_item}
use Rattle.txc_queue_fanout.proofs.Undone.{undoes_push_front, changes}
use Rattle.txc_queue_fanout.proofs.fanout.Fanout.undo_put_back.Goals as goal

pub returns : goal.returns
returns c =
    let found = c.index_mut in
    let value = changes c.self.inside.queues.items c.args.self.now c.args.reader
    without_first_item found.result.now c.undo_push_front.new.self
    c.self.view_is c.requires.there found.ensures.value c.undo_push_front.ensures in
    record { value = value; undone = undoes_push_front _ _ _ value }
