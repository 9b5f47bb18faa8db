use Rattle.std.proofs.Common.{◌≡◌, sym, ap, subst, ◌∙◌, ℕ, List, [], map, slice_index_or, Vec, Global, arith}
use Rattle.std.proofs.lemmas.List.{get_or-map, length-map}
use Rattle.txc_cmd_explore.specs.Ends.{IsAmong}
use Rattle.txc_cmd_explore.specs.Hash.{bucket_in}
use Rattle.txc_cmd_explore.proofs.Indexing.{number_of}
use Rattle.txc_cmd_explore.proofs.seen.Seen.has.Goals as goal

pub returns-clause-known : goal.returns-clause-known
returns-clause-known c = λ h.
    let f : Vec ℕ Global → List ℕ = λ b. b.items in
    let lists = c.args.self.now.buckets.items in
    let found = number_of c.args.self.now.states.items c.args.state.now h in
    let list : slice_index_or (map f lists) (bucket_in c.args.state.now) [] ≡ c.as_slice.result.now =
    ap (λ (k : ℕ). slice_index_or (map f lists) k []) (sym c.bucket_of.ensures.value)
    ∙ (get_or-map f lists c.bucket_of.result _ []
    (omega (arith, c.requires.many, c.bucket_of.ensures.bound, length-map lists f))
    ∙ (ap f (sym c.index-numbers.ensures) ∙ sym c.as_slice.ensures.value)) in
    c.is_one_of.ensures.known found.0
    (subst (λ (l : List ℕ). IsAmong l found.0) list (c.requires.each found.0 c.args.state.now found.1)) found.1
