use Rattle.std.proofs.Common.{◌≡◌, ◌∙◌, subst, sym, ap, ◌<◌, [], drop, length, length-drop, slice_index_or, arith}
use Rattle.std.proofs.lemmas.List.{get_or_default, nil_from_length}
use Rattle.std.specs.Vec.Iter.{into_iter_items}
use Rattle.txc_base_threads.proofs.Added.{each_more, next_is}
use Rattle.txc_cmd_threads.proofs.pool.unzip_results.Goals as goal

pub loop-one-preserved : goal.loop-one-preserved
loop-one-preserved g c =
    let at = c.loop-one in
    let served = c.args.served.items in
    let n = at.results.left.len in
    let one = c.in-Some.one in
    let next = next_is served n one (into_iter_items at.one-iterator) (into_iter_items c.next.new.self)
    at.invariant.rest c.in-Some.ensures.steps.0 in
    let short = ap length c.in-Some.ensures.steps.0 in
    let same : length at.results.ends.items ≡ length at.results.left.items = sym at.results.ends.ok.0
    ∙ at.invariant.ends ∙ at.results.left.ok.0 in
    record {
      rest = next.then ∙ sym (ap (λ m. drop m served) c.in_ok-push.ensures.len);
      left = let was = at.invariant.left in let gone = c.in-Some.ensures.steps.1 in omega (arith, was, gone, short);
      some = omega (arith, c.in_ok-push.ensures.len, next.below, c.args.served.ok.0);
      ends = omega (arith, c.in_ok-push.ensures.len, c.in_ok-push-2.ensures.len, at.invariant.ends);
      each = λ k s x w below.
          let is : one ≡ slice_index_or served n s = sym (get_or_default served n s one next.below ∙ next.is) in
          let within : k < length c.push.new.self.items = subst (λ m. k < m) c.push.new.self.ok.0 below in
          let grown : length c.push-in-loop-one.new.self.items ≡ length c.push.new.self.items =
          let a = c.in_ok-push.ensures.len in let b = c.in_ok-push-2.ensures.len in let d = at.invariant.ends in
          let e = c.push.new.self.ok.0 in let f = c.push-in-loop-one.new.self.ok.0 in omega (arith, a, b, d, e, f) in (
            each_more (λ i l. l ≡ (slice_index_or served i s).left) at.results.left.items c.push.new.self.items
                one.left c.in_ok-push.ensures.items
                (λ i e low. (at.invariant.each i s e w (subst (λ m. i < m) (sym at.results.left.ok.0) low)).0)
                (subst (λ m. one.left ≡ (slice_index_or served m s).left) at.results.left.ok.0 (ap (λ o. o.left) is))
                k x
                within,
            each_more (λ i l. l ≡ (slice_index_or served i s).end) at.results.ends.items
                c.push-in-loop-one.new.self.items
                one.end c.in_ok-push-2.ensures.items
                (λ i e low. (at.invariant.each i s x e
                (subst (λ m. i < m) (sym at.results.left.ok.0) (subst (λ m. i < m) same low))).1)
                (subst (λ m. one.end ≡ (slice_index_or served m s).end) (at.results.left.ok.0 ∙ sym same)
                (ap (λ o. o.end) is)) k w (subst (λ m. k < m) (sym grown) within),
          );
    }

pub returns : goal.returns
returns g c =
    let at = c.loop-one in
    let empty : into_iter_items at.one-iterator ≡ [] =
    nil_from_length _ (sym at.invariant.left ∙ c.in-None.ensures.steps.0) in
    let none : length (drop at.results.left.len c.args.served.items) ≡ 0 = ap length (sym at.invariant.rest ∙ empty) in
    let many : at.results.left.len ≡ c.args.served.len =
    let some = at.invariant.some in let whole = c.args.served.ok.0 in
    omega (arith, none, some, whole, length-drop at.results.left.len c.args.served.items) in
    record {
      early = tt;
      unzipped = record {
        left = many ∙ c.args.served.ok.0;
        ends = at.invariant.ends ∙ many ∙ c.args.served.ok.0;
        each = λ k s l e below.
            at.invariant.each k s l e (subst (λ m. k < m) (sym (many ∙ c.args.served.ok.0)) below);
      };
    }
