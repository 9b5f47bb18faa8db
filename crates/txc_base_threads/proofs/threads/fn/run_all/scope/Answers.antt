use Rattle.std.proofs.Common.{rules, ◌≡◌, ◌∙◌, subst, sym, ap, ◌<◌, drop, length, slice_index_or, arith}
use Rattle.std.proofs.lemmas.List.{get_or_default}
use Rattle.std.specs.Vec.Iter.{into_iter_items}
use Rattle.txc_base_threads.proofs.Added.{each_more, next_is}
use Rattle.txc_base_threads.proofs.threads.fn.run_all.scope.Goals as goal

pub spawn_with-requires-clause-runs : goal.spawn_with-requires-clause-runs
spawn_with-requires-clause-runs g c κs within =
    let at = c.loop-task in
    let tasks = into_iter_items c.into_iter-task-iterator.result in
    let all : tasks ≡ c.captures.tasks.items = search rules in
    let task = c.in-Some.task in
    let n = at.threads.len in
    let next = next_is tasks n task (into_iter_items at.task-iterator) (into_iter_items c.next.new.self)
    at.invariant.rest c.in-Some.ensures.steps.0 in
    let below : n < c.captures.tasks.len = subst (λ m. n < m) (ap length all ∙ sym c.captures.tasks.ok.0) next.below in
    let is : slice_index_or c.captures.tasks.items n task ≡ task = ap (λ l. slice_index_or l n task) (sym all)
    ∙ next.is in
    let can : g.J.Task.Can task = subst (λ x. g.J.Task.Can x) is (c.requires.can n task below) in
    search rules

pub loop-task-preserved : goal.loop-task-preserved
loop-task-preserved g c =
    let at = c.loop-task in
    let tasks = into_iter_items c.into_iter-task-iterator.result in
    let task = c.in-Some.task in
    let n = at.threads.len in
    let next = next_is tasks n task (into_iter_items at.task-iterator) (into_iter_items c.next.new.self)
    at.invariant.rest c.in-Some.ensures.steps.0 in
    let short = ap length c.in-Some.ensures.steps.0 in
    record {
      rest = next.then ∙ sym (ap (λ m. drop m tasks) c.push_reserved.ensures.len);
      left = let was = at.invariant.left in let gone = c.in-Some.ensures.steps.1 in omega (arith, was, gone, short);
      some = omega (arith, c.push_reserved.ensures.len, next.below);
      room = omega (arith, c.push_reserved.ensures.capacity, at.invariant.room);
      each = λ k t j below.
          let is : slice_index_or tasks n j ≡ task = get_or_default tasks n j task next.below ∙ next.is in
          each_more (λ i thread. thread.promise.0.value ≡ slice_index_or tasks i j)
          at.threads.items c.push_reserved.new.self.items c.in-Ok.thread c.push_reserved.ensures.items
          (λ i e low. at.invariant.each i e j (subst (λ m. i < m) (sym at.threads.ok.0) low))
          (subst (λ m. c.in-Ok.thread.promise.0.value ≡ slice_index_or tasks m j) at.threads.ok.0
          (ap (λ p. p.0.value) c.in-Ok.ensures.ok ∙ c.of.ensures ∙ sym is))
          k t (subst (λ m. k < m) c.push_reserved.new.self.ok.0 below);
    }
