-- What stands at a place of the items written, and how many there are.
use Rattle.std.proofs.Common.{◌≡◌, refl, sym, ◌∙◌, ap, subst, ℕ, Bool, true, false, List, length, get_or, map, Some}
use Rattle.std.proofs.Common.{None}
use Rattle.std.specs.Prelude.{slice_get, option_map, nat_lt, All, IsTrue, ◌↔◌}
use Rattle.std.proofs.lemmas.Bool.{ltb-true, ltb-false}
use Rattle.std.proofs.lemmas.List.{length-map}
use Rattle.std.proofs.lemmas.Option.{slice_get-get_or, slice_get-map, slice_get_past}
use Rattle.boxcar.specs.Table.{Shelves, Where, Shows}
use Rattle.txc_base.specs.declared.item.Item.{Item}
use Rattle.txc_cast.specs.Standing.{ReaderState, reader_standing}
use Rattle.txc_cast.specs.Broadcast.{Broadcast}
use Rattle.txc_cast.specs.Kept.{broadcast, items_shown}

-- what was got at a place, through a map
pub stands_at : {A B : Type 0} (f : A → B) (list got : List A) (position : ℕ) (it : A) → got ≡ list
    → true ≡ nat_lt position (length got) → it ≡ get_or got position it
    → slice_get (map f list) position ≡ Some (f it)
stands_at f list got position it same within is =
    ap (λ l. slice_get (map f l) position) (sym same) ∙ slice_get-map f got position
    ∙ ap (option_map f) (slice_get-get_or got position it (ltb-true position (length got) (sym within))
    ∙ ap Some (sym is))

-- nothing is there past the end
pub none_at : {A B : Type 0} (f : A → B) (list got : List A) (position : ℕ) → got ≡ list
    → false ≡ nat_lt position (length got) → slice_get (map f list) position ≡ None
none_at f list got position same past =
    ap (λ l. slice_get (map f l) position) (sym same) ∙ slice_get-map f got position
    ∙ ap (option_map f) (slice_get_past got position (ltb-false position (length got) (sym past)))

-- a token at a place is the shelf's
pub shown_at : (shelf same : Shelves) (tokens got : List (Where Item)) (position : ℕ) (token : Where Item) → same
    ≡ shelf
    → got ≡ tokens
    → true ≡ nat_lt position (length got) → token ≡ get_or got position token → All (λ t. Shows shelf t) tokens
    → Shows same token
shown_at shelf same tokens got position token shelves is within at shown =
    let all : All (λ t. Shows shelf t) got = subst (All (λ t. Shows shelf t)) (sym is) shown in
    subst (λ s. Shows s token) (sym shelves)
    (subst (Shows shelf) (sym at) (all position token (ltb-true position (length got) (sym within))))

-- as many readers as cursors, items as tokens, slots as tokens
pub many_readers : (shelf : Shelves) (tokens : List (Where Item)) (standings : List ReaderState) (cast : Broadcast)
    (n : ℕ) → broadcast shelf tokens standings ≡ cast
    → n ≡ length standings → n ≡ length cast.readers
many_readers shelf tokens standings cast n viewed is =
    is ∙ sym (length-map standings (reader_standing (items_shown tokens)))
    ∙ ap (λ (b : Broadcast). length b.readers) viewed

pub many_items : (shelf : Shelves) (tokens : List (Where Item)) (standings : List ReaderState) (cast : Broadcast)
    (n : ℕ) → broadcast shelf tokens standings ≡ cast
    → n ≡ length tokens → n ≡ length cast.items
many_items shelf tokens standings cast n viewed is =
    is ∙ sym (length-map tokens (λ (t : Where Item). t.value)) ∙ ap (λ (b : Broadcast). length b.items) viewed

pub many_slots : (shelf : Shelves) (tokens : List (Where Item)) (standings : List ReaderState) (cast : Broadcast)
    (n : ℕ) → broadcast shelf tokens standings ≡ cast
    → n ≡ length tokens → n ≡ length cast.slots
many_slots shelf tokens standings cast n viewed is =
    is ∙ sym (length-map tokens (λ (t : Where Item). t.index)) ∙ ap (λ (b : Broadcast). length b.slots) viewed

-- whether a token's slot stands at a place
abbrev pub Stands : Bool → Broadcast → ℕ → ℕ → Type 0
Stands answer cast position slot = IsTrue answer ↔ (slice_get cast.slots position ≡ Some slot)

pub is_slot : (shelf : Shelves) (tokens : List (Where Item)) (standings : List ReaderState) (cast : Broadcast)
    (got : List (Where Item)) (position : ℕ) (token : Where Item) (slot : ℕ)
    → broadcast shelf tokens standings ≡ cast → got ≡ tokens → true ≡ nat_lt position (length got)
    → token ≡ get_or got position token
    → token.index ≡ slot → Stands true cast position slot
is_slot shelf tokens standings cast got position token slot viewed same within is at =
    let here : slice_get cast.slots position ≡ Some token.index =
    ap (λ (b : Broadcast). slice_get b.slots position) (sym viewed)
    ∙ stands_at (λ (t : Where Item). t.index) tokens got position token same within is in
    (λ yes. here ∙ ap Some at, λ yes. refl)

pub not_slot : (shelf : Shelves) (tokens : List (Where Item)) (standings : List ReaderState) (cast : Broadcast)
    (got : List (Where Item)) (position : ℕ) (token : Where Item) (slot : ℕ)
    → broadcast shelf tokens standings ≡ cast → got ≡ tokens → true ≡ nat_lt position (length got)
    → token ≡ get_or got position token
    → (token.index ≡ slot → ⊥) → Stands false cast position slot
not_slot shelf tokens standings cast got position token slot viewed same within is differs =
    let here : slice_get cast.slots position ≡ Some token.index =
    ap (λ (b : Broadcast). slice_get b.slots position) (sym viewed)
    ∙ stands_at (λ (t : Where Item). t.index) tokens got position token same within is in
    (λ no. absurd (let bad : ⊥ = cc in bad), λ at. absurd (differs (let same : token.index ≡ slot = cc in same)))

pub not_slot_past : (shelf : Shelves) (tokens : List (Where Item)) (standings : List ReaderState) (cast : Broadcast)
    (got : List (Where Item)) (position slot : ℕ)
    → broadcast shelf tokens standings ≡ cast → got ≡ tokens → false ≡ nat_lt position (length got)
    → Stands false cast position slot
not_slot_past shelf tokens standings cast got position slot viewed same past =
    let none : slice_get cast.slots position ≡ None =
    ap (λ (b : Broadcast). slice_get b.slots position) (sym viewed)
    ∙ none_at (λ (t : Where Item). t.index) tokens got position same past in
    (λ no. absurd (let bad : ⊥ = cc in bad), λ at. absurd (let bad : ⊥ = cc in bad))

-- a sight's token shows on the shelf by its other name
pub shown_in : (shelf same : Shelves) (tokens : List (Where Item)) (standings : List ReaderState) (cast : Broadcast)
    (token : Where Item)
    → broadcast shelf tokens standings ≡ cast → same ≡ shelf → Shows cast.shelf token → Shows same token
shown_in shelf same tokens standings cast token viewed is shown =
    subst (λ s. Shows s token) (sym (ap (λ (b : Broadcast). b.shelf) viewed) ∙ sym is) shown
