use Rattle.std.proofs.Common.{◌≡◌, sym, ap, ◌∙◌, ℕ, List, [], ◌∷◌, ◌++◌, map, slice_index_or, slice_set, Vec, Global}
use Rattle.std.proofs.lemmas.List.{get_or-map, map-set}
use Rattle.txc_cmd_explore.proofs.seen.push_number.Goals as goal

pub returns : goal.returns
returns c =
    let f : Vec ℕ Global → List ℕ = λ b. b.items in
    let lists = c.args.buckets.now.items in
    let longer : c.push.new.self.items ≡ slice_index_or (map f lists) c.args.bucket [] ++ c.args.number ∷ [] =
    c.in_ok-push.ensures.items ∙ ap (λ (l : List ℕ). l ++ c.args.number ∷ [])
    (ap f c.index_mut.ensures.value ∙ sym (get_or-map f lists c.args.bucket _ [] c.requires)) in
    map-set f lists c.args.bucket c.push.new.self ∙ ap (λ (l : List ℕ). slice_set (map f lists) c.args.bucket l) longer
