use Rattle.std.proofs.Common.{rules, ◌≡◌, ◌∙◌, sym, ap, [], ◌∷◌, ◌++◌, take, slice_index_or, arith}
use Rattle.std.proofs.lemmas.List.{take_more}
use Rattle.std.proofs.lemmas.Option.{get_or_from_slice_get}
use Rattle.txc_cast.proofs.cast.Cast.slots.Goals as goal

pub loop-position-preserved : goal.loop-position-preserved
loop-position-preserved c =
    let all = c.args.self.now.slots in
    let k = c.loop-position.position in
    let more : c.push.new.self.items ≡ c.loop-position.slots.items ++ c.in-Some.slot ∷ [] = search rules in
    let found : slice_index_or all k 0 ≡ c.in-Some.slot = get_or_from_slice_get all k c.in-Some.slot 0
    (sym c.in-Some.ensures) in
    more ∙ ap (λ l. l ++ c.in-Some.slot ∷ []) c.loop-position.invariant ∙ ap (λ x. take k all ++ x ∷ []) (sym found)
    ∙ sym (take_more all k 0 (omega arith))
