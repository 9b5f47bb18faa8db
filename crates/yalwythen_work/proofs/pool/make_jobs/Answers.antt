use Rattle.std.proofs.Common.{◌≡◌, ◌∙◌, refl, subst, sym, ap, ◌+◌, ◌<◌, Some, length, slice_index_or, arith}
use Rattle.std.proofs.lemmas.List.{get_or_default}
use Rattle.txc_base_threads.proofs.Added.{each_more}
use Rattle.yalwythen_work.proofs.pool.make_jobs.Goals as goal

pub loop-preserved : goal.loop-preserved
loop-preserved g c =
    let at = c.loop in
    let number = at.counter in
    let long : number ≡ length at.jobs.items = sym at.invariant.long ∙ at.jobs.ok.0 in
    let zero : number + 0 ≡ number = omega arith in
    record {
      seats = omega (arith, c.remove.ensures.len, at.invariant.seats);
      workers = omega (arith, c.remove-in-loop.ensures.len, at.invariant.workers);
      seated = λ k d below.
          let more : number + (k + 1) ≡ number + 1 + k = omega arith in
          c.remove.ensures.by_index.1 k d (omega arith)
          ∙ at.invariant.seated (k + 1) d (omega (arith, below, c.remove.ensures.len))
          ∙ ap (λ n. slice_index_or c.args.seats.items n d) more;
      worked = λ k d below.
          let more : number + (k + 1) ≡ number + 1 + k = omega arith in
          c.remove-in-loop.ensures.by_index.1 k d (omega arith)
          ∙ at.invariant.worked (k + 1) d (omega (arith, below, c.remove-in-loop.ensures.len))
          ∙ ap (λ n. slice_index_or c.args.workers.items n d) more;
      room = omega (arith, c.push_reserved.ensures.capacity, at.invariant.room);
      long = omega (arith, c.push_reserved.ensures.len, at.invariant.long);
      each = λ k j s w below.
          let seat : c.remove.result ≡ slice_index_or c.args.seats.items number s =
          c.remove.ensures.value ∙ sym (get_or_default at.seats.items 0 s c.remove.result
          (subst (λ n. 0 < n) at.seats.ok.0 (omega (arith, c.remove.ensures.len))))
          ∙ at.invariant.seated 0 s (omega (arith, c.remove.ensures.len))
          ∙ ap (λ n. slice_index_or c.args.seats.items n s) zero in
          let worker : c.remove-in-loop.result ≡ slice_index_or c.args.workers.items number w =
          c.remove-in-loop.ensures.value
          ∙ sym (get_or_default at.workers.items 0 w c.remove-in-loop.result
          (subst (λ n. 0 < n) at.workers.ok.0 (omega (arith, c.remove-in-loop.ensures.len))))
          ∙ at.invariant.worked 0 w (omega (arith, c.remove-in-loop.ensures.len))
          ∙ ap (λ n. slice_index_or c.args.workers.items n w) zero in
          each_more (λ i job. (job.seat ≡ Some (slice_index_or c.args.seats.items i s))
          × (job.worker ≡ Some (slice_index_or c.args.workers.items i w)) × (job.setup ≡ c.args.pool.now.setup))
          at.jobs.items c.push_reserved.new.self.items _ c.push_reserved.ensures.items
          (λ i d low. at.invariant.each i d s w (subst (λ n. i < n) (sym at.jobs.ok.0) low))
          (subst (λ n. (Some c.remove.result ≡ Some (slice_index_or c.args.seats.items n s))
          × (Some c.remove-in-loop.result ≡ Some (slice_index_or c.args.workers.items n w))
          × (c.args.pool.now.setup ≡ c.args.pool.now.setup))
          long (ap Some seat, ap Some worker, refl))
          k j (subst (λ n. k < n) c.push_reserved.new.self.ok.0 below);
    }
