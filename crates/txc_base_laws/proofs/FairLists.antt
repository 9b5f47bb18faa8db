-- What a reader took and what remains to it, against what was written: over plain lists.
use Rattle.std.proofs.Common.{◌≡◌, refl, sym, ◌∙◌, ap, ℕ, ◌+◌, ◌≤◌, true, false, List, [], ◌∷◌, ◌++◌, length, drop}
use Rattle.std.proofs.Common.{append_assoc, length-append, length-drop, if◌then◌else◌, arith}
use Rattle.std.proofs.lemmas.List.{drop_at, drop-drop, drop-append-le}
use Rattle.std.proofs.lemmas.List.Elements.{filter-append}
use Rattle.txc_base.specs.declared.item.Item.{Item}
use Rattle.txc_base.specs.InOrder.{is_written, strike}

-- what is left out of two lists
pub strike_append : (xs ys : List Item) → strike (xs ++ ys) ≡ strike xs ++ strike ys
strike_append xs ys = filter-append (λ (item : Item). is_written item.origin) xs ys

-- an item that was written stays
pub strike_written : (item : Item) (xs : List Item) → is_written item.origin ≡ true
    → strike (item ∷ xs) ≡ item ∷ strike xs
strike_written item xs e = ap (λ b. if b then item ∷ strike xs else strike xs) e

-- an item that was put back is left out
pub strike_back : (item : Item) (xs : List Item) → is_written item.origin ≡ false → strike (item ∷ xs) ≡ strike xs
strike_back item xs e = ap (λ b. if b then item ∷ strike xs else strike xs) e

-- a write
pub after_write : (taken list written : List Item) (began : ℕ) (item : Item) → is_written item.origin ≡ true
    → began ≤ length written
    → strike (taken ++ list) ≡ drop began written
    → strike (taken ++ (list ++ item ∷ [])) ≡ drop began (written ++ item ∷ [])
after_write taken list written began item new below e =
    ap strike (sym (append_assoc taken list (item ∷ []))) ∙ strike_append (taken ++ list) (item ∷ [])
    ∙ ap (λ l. strike (taken ++ list) ++ l) (strike_written item [] new) ∙ ap (λ l. l ++ item ∷ []) e
    ∙ sym (drop-append-le began written (item ∷ []) below)

-- a put-back
pub after_back : (taken list : List Item) (item : Item) → is_written item.origin ≡ false
    → strike (taken ++ item ∷ list) ≡ strike (taken ++ list)
after_back taken list item back =
    strike_append taken (item ∷ list) ∙ ap (λ l. strike taken ++ l) (strike_back item list back)
    ∙ sym (strike_append taken list)

-- a clone: what remains is what was written after what its source took
pub after_clone : (taken list written : List Item) (began : ℕ) → strike (taken ++ list) ≡ drop began written
    → strike list ≡ drop (began + length (strike taken)) written
after_clone taken list written began e =
    sym (drop_at (strike taken) (strike list) (length (strike taken)) refl)
    ∙ ap (drop (length (strike taken))) (sym (strike_append taken list) ∙ e)
    ∙ drop-drop (length (strike taken)) began written

-- .. and its beginning is within what was written
pub clone_within : (taken list written : List Item) (began : ℕ) → began ≤ length written
    → strike (taken ++ list) ≡ drop began written → began + length (strike taken) ≤ length written
clone_within taken list written began below e =
    omega (
      arith,
      length-append (strike taken) (strike list),
      ap length (sym (strike_append taken list) ∙ e),
      length-drop began written,
    )
