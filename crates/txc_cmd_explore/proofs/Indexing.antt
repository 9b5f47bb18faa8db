-- The states of a search, in lists by a hash.
use Rattle.std.proofs.Common.{◌≡◌, refl, sym, ◌∙◌, ap, subst, inl, inr, ⊎_elim, ◌⊎◌, ℕ, zero, suc, ◌<◌, List, []}
use Rattle.std.proofs.Common.{◌∷◌, ◌++◌, length, Some, slice_get, slice_index_or, slice_set}
use Rattle.std.proofs.lemmas.Bool.Decides.{eqb_tells}
use Rattle.std.proofs.lemmas.List.{get_or-set_other, get_or-set_same, length-set}
use Rattle.std.proofs.lemmas.Option.{same_Some}
use Rattle.txc_cmd_explore.specs.declared.state.State.{State}
use Rattle.txc_cmd_explore.specs.Ends.{IsAmong}
use Rattle.txc_cmd_explore.specs.Hash.{IsIndexed, bucket_in}
use Rattle.txc_cmd_explore.proofs.Searching.{pushed, to_push}

-- what is in a list has a number there
pub number_of : {X : Type 0} (xs : List X) (x : X) → IsAmong xs x → (number : ℕ) × (slice_get xs number ≡ Some x)
number_of [] x h = absurd h
number_of (y ∷ xs) x (inl e) = (0, ap Some e)
number_of (y ∷ xs) x (inr h) = let found = number_of xs x h in (suc found.0, found.1)

-- what is in a list with one more was there before, or is the one more
got_pushed : {X : Type 0} (xs : List X) (y x : X) (number : ℕ) → slice_get (xs ++ y ∷ []) number ≡ Some x
    → (slice_get xs number ≡ Some x) ⊎ ((number ≡ length xs) × (y ≡ x))
got_pushed [] y x zero h = inr (refl, same_Some y x h)
got_pushed [] y x (suc number) h = absurd (cc)
got_pushed (z ∷ xs) y x zero h = inl h
got_pushed (z ∷ xs) y x (suc number) h =
    ⊎_elim (λ (k : slice_get xs number ≡ Some x). inl k)
    (λ (k : (number ≡ length xs) × (y ≡ x)). inr (ap suc k.0, k.1)) (got_pushed xs y x number h)

-- before the first state
pub indexed_first : (states : List State) (buckets : List (List ℕ)) → states ≡ [] → length buckets ≡ 65536
    → IsIndexed states buckets
indexed_first states buckets none many = record {
  many = many;
  each = λ number state h. let no = ap (λ (l : List State). slice_get l number) none in absurd (cc);
}

-- one more state
pub indexed_push : (states : List State) (buckets : List (List ℕ)) (state : State)
    → bucket_in state < length buckets → IsIndexed states buckets
    → IsIndexed (states ++ state ∷ []) (slice_set buckets (bucket_in state)
    (slice_index_or buckets (bucket_in state) [] ++ length states ∷ []))
indexed_push states buckets state lt indexed = record {
  many = length-set buckets at more ∙ indexed.many;
  each = λ number s h. elim (eqb_tells (bucket_in s) at) [
    | inl same ↦
        subst (λ (l : List ℕ). IsAmong l number) (sym (ap (λ (k : ℕ). slice_index_or (slice_set buckets at more) k [])
        same.1 ∙ get_or-set_same buckets at more [] lt))
        (⊎_elim
        (λ (k : slice_get states number ≡ Some s). to_push here (length states) number
        (subst (λ (k : ℕ). IsAmong (slice_index_or buckets k []) number) same.1 (indexed.each number s k)))
        (λ (k : (number ≡ length states) × (state ≡ s)).
        subst (λ (n : ℕ). IsAmong more n) (sym k.0) (pushed here (length states)))
        (got_pushed states state s number h))
    | inr other ↦
        subst (λ (l : List ℕ). IsAmong l number) (sym (get_or-set_other buckets at (bucket_in s) more [] other.1))
        (⊎_elim
        (λ (k : slice_get states number ≡ Some s). indexed.each number s k)
        (λ (k : (number ≡ length states) × (state ≡ s)). absurd (other.1 (sym (ap bucket_in k.1))))
        (got_pushed states state s number h))
  ];
}
  where
    at : ℕ
    at = bucket_in state

    here : List ℕ
    here = slice_index_or buckets at []

    more : List ℕ
    more = here ++ length states ∷ []
