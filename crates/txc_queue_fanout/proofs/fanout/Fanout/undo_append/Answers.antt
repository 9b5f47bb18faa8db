use Rattle.txc_queue_fanout.proofs.Undone.{undoes_fed, all_lose}
use Rattle.txc_queue_fanout.proofs.fanout.Fanout.undo_append.Goals as goal

pub returns : goal.returns
returns c =
    let queues = c.self.inside.queues in
    let value = all_lose queues.items c.args.self.now c.as_mut_slice.result.now c.take_back.new.queues _
    c.len-all.result queues.len
    c.self.view_is queues.ok.0 c.as_mut_slice.ensures.value c.len-all.ensures c.take_back.ensures in
    record { value = value; undone = undoes_fed _ _ value }
