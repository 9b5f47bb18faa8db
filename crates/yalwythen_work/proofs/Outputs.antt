-- Outputs that are all there.
use Rattle.std.proofs.Common.{◌≡◌, ◌∙◌, ap, sym, subst, ◌<◌, List, Result, Ok, length, map, slice_index_or}
use Rattle.std.proofs.lemmas.List.{get_or-map, length-map}
use Rattle.txc_base_threads.specs.Postcondition.{AllRelated}

module _ {X E : Type 0} where
  -- what all outputs fit, all values in them fit
  pub came_ok : {J : Type 0} (came : J → Result X E → Type 0) (jobs : List J) (outputs : List (Result X E))
      (all : List X) → outputs ≡ map Ok all → AllRelated came jobs outputs
      → AllRelated (λ job x. came job (Ok x)) jobs all
  came_ok came jobs outputs all same is =
      let long : length outputs ≡ length all = ap length same ∙ length-map all Ok in
      record {
        many = sym long ∙ is.many;
        each = λ k b a below.
            let here : k < length all = subst (λ n. k < n) (sym (sym long ∙ is.many)) below in
            subst (came (slice_index_or jobs k b))
            (ap (λ os. slice_index_or os k (Ok a)) same ∙ get_or-map Ok all k a (Ok a) here)
            (is.each k b (Ok a) below);
      }
