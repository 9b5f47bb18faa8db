use Rattle.std.proofs.Common.{◌≡◌, sym, subst, ◌∙◌, ℕ, List, [], ◌∷◌, ◌++◌, map, length, slice_index_or, slice_set}
use Rattle.std.proofs.Common.{Vec, Global, arith}
use Rattle.txc_cmd_explore.specs.declared.state.State.{State}
use Rattle.txc_cmd_explore.specs.Hash.{IsIndexed, bucket_in}
use Rattle.txc_cmd_explore.proofs.Indexing.{indexed_push}
use Rattle.txc_cmd_explore.proofs.seen.Seen.add.Goals as goal

pub returns-clause-indexed : goal.returns-clause-indexed
returns-clause-indexed c =
    let f : Vec ℕ Global → List ℕ = λ b. b.items in
    let states = c.args.self.now.states.items in
    let lists = map f c.args.self.now.buckets.items in
    let count : c.len.result ≡ length states = omega (arith, c.len.ensures) in
    let more : map f c.push_number.new.buckets.items ≡ slice_set lists (bucket_in c.args.state)
    (slice_index_or lists (bucket_in c.args.state) [] ++ length states ∷ []) =
    c.in_ok-push_number.ensures ∙ ((λ i. slice_set lists (c.bucket_of.ensures.value i)
    (slice_index_or lists (c.bucket_of.ensures.value i) [] ++ count i ∷ []))) in
    subst (λ (xs : List State). IsIndexed xs (map f c.push_number.new.buckets.items)) (sym c.in_ok-push.ensures.items)
    (subst (λ (ls : List (List ℕ)). IsIndexed (states ++ c.args.state ∷ []) ls) (sym more)
    (indexed_push states lists c.args.state
    (omega (arith, c.requires.many, c.bucket_of.ensures.bound, c.bucket_of.ensures.value)) c.requires))
