use Rattle.std.proofs.Common.{◌≡◌, ◌∙◌, subst, sym, ap, ◌<◌, [], drop, length, length-drop, slice_index_or, arith}
use Rattle.std.proofs.lemmas.List.{get_or_default, nil_from_length}
use Rattle.std.specs.Vec.Iter.{into_iter_items}
use Rattle.txc_base_threads.proofs.Added.{each_more, next_is}
use Rattle.yalwythen_work.proofs.pool.unzip_results.Goals as goal

pub loop-one-preserved : goal.loop-one-preserved
loop-one-preserved g c =
    let at = c.loop-one in
    let served = c.args.served.items in
    let n = at.results.left.len in
    let one = c.in-Some.one in
    let next = next_is served n one (into_iter_items at.one-iterator) (into_iter_items c.next.new.self)
    at.invariant.rest c.in-Some.ensures.steps.0 in
    let short = ap length c.in-Some.ensures.steps.0 in
    let same : length at.results.workers.items ≡ length at.results.left.items = sym at.results.workers.ok.0
    ∙ at.invariant.workers ∙ at.results.left.ok.0 in
    let same_ends : length at.results.ends.items ≡ length at.results.left.items = sym at.results.ends.ok.0
    ∙ at.invariant.ends ∙ at.results.left.ok.0 in
    let same_plans : length at.results.plans.items ≡ length at.results.left.items = sym at.results.plans.ok.0
    ∙ at.invariant.plans ∙ at.results.left.ok.0 in
    record {
      rest = next.then ∙ sym (ap (λ m. drop m served) c.in-Ok.ensures.many_left);
      left = let was = at.invariant.left in let gone = c.in-Some.ensures.steps.1 in omega (arith, was, gone, short);
      some = omega (arith, c.in-Ok.ensures.many_left, next.below, c.args.served.ok.0);
      workers = omega (arith, c.in-Ok.ensures.many_left, c.in-Ok.ensures.many_workers, at.invariant.workers);
      ends = omega (arith, c.in-Ok.ensures.many_left, c.in-Ok.ensures.many_ends, at.invariant.ends);
      plans = omega (arith, c.in-Ok.ensures.many_left, c.in-Ok.ensures.many_plans, at.invariant.plans);
      each = λ k s x w p z below.
          let is : one ≡ slice_index_or served n s = sym (get_or_default served n s one next.below ∙ next.is) in
          let within : k < length c.add.new.self.left.items = subst (λ m. k < m) c.add.new.self.left.ok.0 below in
          let grown : length c.add.new.self.workers.items ≡ length c.add.new.self.left.items =
          let a = c.in-Ok.ensures.many_left in let b = c.in-Ok.ensures.many_workers in let d = at.invariant.workers in
          let e = c.add.new.self.left.ok.0 in let f = c.add.new.self.workers.ok.0 in omega (arith, a, b, d, e, f) in
          let grown_ends : length c.add.new.self.ends.items ≡ length c.add.new.self.left.items =
          let a = c.in-Ok.ensures.many_left in let b = c.in-Ok.ensures.many_ends in let d = at.invariant.ends in
          let e = c.add.new.self.left.ok.0 in let f = c.add.new.self.ends.ok.0 in omega (arith, a, b, d, e, f) in
          let grown_plans : length c.add.new.self.plans.items ≡ length c.add.new.self.left.items =
          let a = c.in-Ok.ensures.many_left in let b = c.in-Ok.ensures.many_plans in let d = at.invariant.plans in
          let e = c.add.new.self.left.ok.0 in let f = c.add.new.self.plans.ok.0 in omega (arith, a, b, d, e, f) in (
            each_more (λ i l. l ≡ (slice_index_or served i s).left) at.results.left.items c.add.new.self.left.items
                one.left c.in-Ok.ensures.left
                (λ i e low. (at.invariant.each i s e w p z (subst (λ m. i < m) (sym at.results.left.ok.0) low)).0)
                (subst (λ m. one.left ≡ (slice_index_or served m s).left) at.results.left.ok.0 (ap (λ o. o.left) is))
                k x
                within,
            each_more (λ i l. l ≡ (slice_index_or served i s).worker) at.results.workers.items
                c.add.new.self.workers.items
                one.worker c.in-Ok.ensures.workers
                (λ i e low. (at.invariant.each i s x e p z
                (subst (λ m. i < m) (sym at.results.left.ok.0) (subst (λ m. i < m) same low))).1)
                (subst (λ m. one.worker ≡ (slice_index_or served m s).worker) (at.results.left.ok.0 ∙ sym same)
                (ap (λ o. o.worker) is)) k w (subst (λ m. k < m) (sym grown) within),
            each_more (λ i l. l ≡ (slice_index_or served i s).plans) at.results.plans.items c.add.new.self.plans.items
                one.plans c.in-Ok.ensures.plans
                (λ i e low. (at.invariant.each i s x w e z
                (subst (λ m. i < m) (sym at.results.left.ok.0) (subst (λ m. i < m) same_plans low))).2)
                (subst (λ m. one.plans ≡ (slice_index_or served m s).plans) (at.results.left.ok.0 ∙ sym same_plans)
                (ap (λ o. o.plans) is)) k p (subst (λ m. k < m) (sym grown_plans) within),
            each_more (λ i l. l ≡ (slice_index_or served i s).end) at.results.ends.items c.add.new.self.ends.items
                one.end c.in-Ok.ensures.ends
                (λ i e low. (at.invariant.each i s x w p e
                (subst (λ m. i < m) (sym at.results.left.ok.0) (subst (λ m. i < m) same_ends low))).3)
                (subst (λ m. one.end ≡ (slice_index_or served m s).end) (at.results.left.ok.0 ∙ sym same_ends)
                (ap (λ o. o.end) is)) k z (subst (λ m. k < m) (sym grown_ends) within),
          );
    }

pub returns-clause-each : goal.returns-clause-each
returns-clause-each g c = λ k s l w p e below.
    let at = c.loop-one in
    let empty : into_iter_items at.one-iterator ≡ [] =
    nil_from_length _ (sym at.invariant.left ∙ c.in-None.ensures.steps.0) in
    let none : length (drop at.results.left.len c.args.served.items) ≡ 0 = ap length (sym at.invariant.rest ∙ empty) in
    let many : at.results.left.len ≡ c.args.served.len =
    let some = at.invariant.some in let whole = c.args.served.ok.0 in
    omega (arith, none, some, whole, length-drop at.results.left.len c.args.served.items) in
    at.invariant.each k s l w p e (subst (λ m. k < m) (sym many) below)
