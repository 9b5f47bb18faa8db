use Rattle.std.proofs.Common.{◌≡◌, ◌<◌, ◌≤◌, ◌++◌, take, drop, sym, ap, ◌∙◌, subst, length, List}
use Rattle.std.specs.Prelude.{All}
use Rattle.std.proofs.lemmas.List.{take_at}
use Rattle.txc_queue.specs.Queue.{Queue}
use Rattle.txc_queue_fanout.specs.Fanout.{without_backs}
use Rattle.txc_queue_fanout.proofs.Undone.{AreFed, can_lose, as_before, same_count}
use Rattle.txc_queue_fanout.proofs.fanout.Fanout.append.Goals as goal

pub take_back-requires-clause-some : goal.take_back-requires-clause-some
take_back-requires-clause-some c =
    let queues = c.self.inside.queues in
    let count = c.push_to_each-count.result in
    let new = c.push_to_each-count.new.queues in
    let all = c.as_mut_slice.ensures.value in
    let few = subst (λ (l : List Queue). count ≤ length l) all c.push_to_each-count.ensures.few in
    let are = subst (λ (l : List Queue). AreFed l count c.args.item new) all c.push_to_each-count.ensures.pushed in
    let many = same_count queues.items new count c.args.item are ∙ sym queues.ok.0 in
    let stand = c.as_mut_slice-then-count-len.ensures.value
    ∙ take_at new (drop (length new) queues.items) queues.len many in
    subst (λ (l : List Queue). All (λ (queue : Queue). 0 < length queue.items) (take count l)) (sym stand)
    (can_lose queues.items new count c.args.item few are)

pub returns-then-count-len-clause-err : goal.returns-then-count-len-clause-err
returns-then-count-len-clause-err c =
    let queues = c.self.inside.queues in
    let count = c.push_to_each-count.result in
    let new = c.push_to_each-count.new.queues in
    let left = c.take_back.new.queues in
    let all = c.as_mut_slice.ensures.value in
    let few = subst (λ (l : List Queue). count ≤ length l) all c.push_to_each-count.ensures.few in
    let are = subst (λ (l : List Queue). AreFed l count c.args.item new) all c.push_to_each-count.ensures.pushed in
    let many = same_count queues.items new count c.args.item are ∙ sym queues.ok.0 in
    let stand = c.as_mut_slice-then-count-len.ensures.value
    ∙ take_at new (drop (length new) queues.items) queues.len many in
    let before = as_before queues.items new left count c.args.item few are
    (subst (λ (l : List Queue). left ≡ without_backs (take count l) ++ drop count l) stand c.take_back.ensures) in
    take_at left _ queues.len (ap length before ∙ sym queues.ok.0) ∙ before ∙ c.self.view_is
