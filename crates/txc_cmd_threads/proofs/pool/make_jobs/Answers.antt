use Rattle.std.proofs.Common.{◌≡◌, ◌∙◌, refl, subst, sym, ap, ◌+◌, ◌<◌, [], Some, length, map, slice_index_or, arith}
use Rattle.std.proofs.lemmas.List.{get_or-map, get_or_default}
use Rattle.txc_base_threads.proofs.Added.{each_more}
use Rattle.txc_cmd_threads.proofs.pool.make_jobs.Goals as goal

pub loop-number-preserved : goal.loop-number-preserved
loop-number-preserved g c =
    let at = c.loop-number in
    let number = at.number in
    let plans = c.args.pool.now.plans.now in
    let long : number ≡ length at.jobs.items = sym at.invariant.long ∙ at.jobs.ok.0 in
    let planned : c.as_slice.result.now ≡ slice_index_or (map (λ seat. seat.items) plans) number [] =
    c.as_slice.ensures.value ∙ sym
    (get_or-map (λ seat. seat.items) plans number c.index-pool-number.result [] c.loop-number-test.true) in
    let zero : number + 0 ≡ number = omega arith in
    record {
      seats = omega (arith, c.remove.ensures.len, at.invariant.seats);
      gates = omega (arith, c.remove-in-loop-number.ensures.len, at.invariant.gates);
      seated = λ k d below.
          let more : number + (k + 1) ≡ number + 1 + k = omega arith in
          c.remove.ensures.by_index.1 k d (omega arith)
          ∙ at.invariant.seated (k + 1) d (omega (arith, below, c.remove.ensures.len))
          ∙ ap (λ n. slice_index_or c.args.seats.items n d) more;
      room = omega (arith, c.push_reserved.ensures.capacity, at.invariant.room);
      long = omega (arith, c.push_reserved.ensures.len, at.invariant.long);
      each = λ k j s below.
          let seat : c.remove.result ≡ slice_index_or c.args.seats.items number s =
          c.remove.ensures.value ∙ sym (get_or_default at.seats.items 0 s c.remove.result
          (subst (λ n. 0 < n) at.seats.ok.0 (omega (arith, c.remove.ensures.len))))
          ∙ at.invariant.seated 0 s (omega (arith, c.remove.ensures.len))
          ∙ ap (λ n. slice_index_or c.args.seats.items n s) zero in
          each_more (λ i job. (job.table.now ≡ c.args.pool.now.table.now)
          × (job.plans.now ≡ slice_index_or (map (λ seat. seat.items) plans) i [])
          × (job.seat ≡ Some (slice_index_or c.args.seats.items i s)))
          at.jobs.items c.push_reserved.new.self.items _ c.push_reserved.ensures.items
          (λ i d low. at.invariant.each i d s (subst (λ n. i < n) (sym at.jobs.ok.0) low))
          (subst (λ n. (c.args.pool.now.table.now ≡ c.args.pool.now.table.now)
          × (c.as_slice.result.now ≡ slice_index_or (map (λ seat. seat.items) plans) n [])
          × (Some c.remove.result ≡ Some (slice_index_or c.args.seats.items n s)))
          long (refl, planned, ap Some seat))
          k j (subst (λ n. k < n) c.push_reserved.new.self.ok.0 below);
    }
