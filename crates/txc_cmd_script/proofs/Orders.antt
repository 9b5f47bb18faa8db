-- Reading one after another: what was read, followed by the rest.
use Rattle.std.proofs.Common.{◌≡◌, refl, sym, ◌∙◌, ap, ℕ, ◌+◌, ◌<◌, ◌≤◌, List, [], ◌∷◌, ◌++◌, length, drop}
use Rattle.std.proofs.Common.{slice_index_or, append_assoc, Result, Ok, Err}
use Rattle.std.proofs.lemmas.List.{drop_more, append-nil}
use Rattle.std.proofs.Math.ListN.{drop_of_length-le}
use Rattle.txc_cmd_script.specs.Steps.{mapped, collected}

-- what was read, followed by the rest
abbrev pub onto : {X E : Type 0} → List X → Result (List X) E → Result (List X) E
onto xs rest = mapped (λ ys. xs ++ ys) rest

-- the first of the rest is the last that was read
pub onto-more : {X E : Type 0} (xs : List X) (x : X) (rest : Result (List X) E)
    → onto xs (collected (Ok x) rest) ≡ onto (xs ++ x ∷ []) rest
onto-more xs x (Ok ys) = ap Ok (sym (append_assoc xs (x ∷ []) ys))
onto-more xs x (Err e) = refl

-- a list from an index on begins with the element there
pub drop_here : {X : Type 0} (vs : List X) (i : ℕ) (v : X) → i < length vs → v ≡ slice_index_or vs i v
    → drop i vs ≡ v ∷ drop (i + 1) vs
drop_here vs i v lt is = drop_more vs i v lt ∙ ap (λ w. w ∷ drop (i + 1) vs) (sym is)

-- one more was read
pub read_more : {V X E : Type 0} (all later : List V → Result (List X) E) (vs : List V) (i : ℕ) (v : V) (xs : List X)
    (x : X) (whole : Result (List X) E)
    → i < length vs → v ≡ slice_index_or vs i v → whole ≡ onto xs (all (drop i vs))
    → ((rest : List V) → all (v ∷ rest) ≡ collected (Ok x) (later rest))
    → whole ≡ onto (xs ++ x ∷ []) (later (drop (i + 1) vs))
read_more all later vs i v xs x whole lt is h first =
    h ∙ ap (λ l. onto xs (all l)) (drop_here vs i v lt is) ∙ ap (onto xs) (first (drop (i + 1) vs))
    ∙ onto-more xs x (later (drop (i + 1) vs))

-- one more was not read: its fault is that of all
pub read_fault : {V X E : Type 0} (all : List V → Result (List X) E) (vs : List V) (i : ℕ) (v : V) (xs : List X) (e : E)
    (whole : Result (List X) E)
    → i < length vs → v ≡ slice_index_or vs i v → whole ≡ onto xs (all (drop i vs))
    → ((rest : List V) → all (v ∷ rest) ≡ Err e) → whole ≡ Err e
read_fault all vs i v xs e whole lt is h first =
    h ∙ ap (λ l. onto xs (all l)) (drop_here vs i v lt is) ∙ ap (onto xs) (first (drop (i + 1) vs))

-- none is left to read
pub read_all : {V X E : Type 0} (all : List V → Result (List X) E) (vs : List V) (i : ℕ) (xs : List X)
    (whole : Result (List X) E)
    → length vs ≤ i → whole ≡ onto xs (all (drop i vs)) → all [] ≡ Ok [] → whole ≡ Ok xs
read_all all vs i xs whole past h none =
    h ∙ ap (λ l. onto xs (all l)) (drop_of_length-le vs past) ∙ ap (onto xs) none ∙ ap Ok (append-nil xs)

onto-empty : {X E : Type 0} (rest : Result (List X) E) → rest ≡ onto [] rest
onto-empty (Ok ys) = refl
onto-empty (Err e) = refl

-- nothing was read
pub onto-nothing : {X E : Type 0} (xs : List X) (rest : Result (List X) E) → xs ≡ [] → rest ≡ onto xs rest
onto-nothing xs rest none = onto-empty rest ∙ ap (λ l. onto l rest) (sym none)
