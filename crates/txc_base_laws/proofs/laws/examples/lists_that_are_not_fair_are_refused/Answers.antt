use Rattle.std.proofs.Common.{◌≡◌, ℕ, refl, ap, Option, Some, List, [], ◌∷◌, slice_get, option_map, arith}
use Rattle.std.proofs.lemmas.Option.{same_Some}
use Rattle.txc_base.specs.declared.item.Item.{Item}
use Rattle.txc_base.specs.Examples.{w}
use Rattle.txc_base_laws.proofs.laws.examples.lists_that_are_not_fair_are_refused.Goals as goal

pub returns-clause-an_item_is_lost : goal.returns-clause-an_item_is_lost
returns-clause-an_item_is_lost c h = let e : [] ≡ w 0 1 ∷ [] = h 0 [] refl in cc

pub returns-clause-items_change_places : goal.returns-clause-items_change_places
returns-clause-items_change_places c h =
    let e : ◌≡◌ {A = Option ℕ} (Some 2) (Some 1) =
    ap (λ (l : List Item). option_map (λ (i : Item). i.body) (slice_get l 0)) (h 0 (w 1 2 ∷ w 0 1 ∷ []) refl) in
    let n : ◌≡◌ {A = ℕ} 2 1 = same_Some 2 1 e in absurd (omega arith)

pub returns-clause-duplicate_begins_at_the_first : goal.returns-clause-duplicate_begins_at_the_first
returns-clause-duplicate_begins_at_the_first c h = let e : w 0 1 ∷ [] ≡ [] = h 1 (w 0 1 ∷ []) refl in cc

pub returns-clause-clone_skips_an_item : goal.returns-clause-clone_skips_an_item
returns-clause-clone_skips_an_item c h = let e : [] ≡ w 1 2 ∷ [] = h 1 [] refl in cc
