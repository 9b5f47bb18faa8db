use Rattle.std.proofs.Common.{◌≡◌, ◌≢◌, ℕ, refl, ap, Some, [], ◌∷◌, arith}
use Rattle.std.proofs.lemmas.Bool.{true≢false}
use Rattle.std.proofs.lemmas.Option.{same_Some}
use Rattle.txc_base.specs.declared.act.Act.TheVariants.{Wrote, Took}
use Rattle.txc_base.specs.declared.item.Item.{Item}
use Rattle.txc_base.specs.Examples.{w, b}
use Rattle.txc_base_laws.specs.Examples.{by, logged}
use Rattle.txc_base_laws.proofs.laws.examples.lists_and_logs_that_break_another_law_are_refused.Goals as goal

-- items with other bodies are others
other_body : (one other : Item) → one.body ≢ other.body → Some one ≢ Some other
other_body one other ne e = ne (ap (λ (i : Item). i.body) (same_Some one other e))

pub returns-clause-put_back_goes_to_the_back : goal.returns-clause-put_back_goes_to_the_back
returns-clause-put_back_goes_to_the_back c h =
    other_body (w 0 1) (b 0 9) (omega arith)
    (h (logged (Wrote (w 0 1) ∷ [])) [] (by 0 1) 0 (b 0 9) (w 0 1 ∷ b 0 9 ∷ []) refl refl refl)

pub returns-clause-put_back_is_passed_over : goal.returns-clause-put_back_is_passed_over
returns-clause-put_back_is_passed_over c h =
    other_body (w 0 1) (b 0 9) (omega arith)
    (h (logged (Wrote (w 0 1) ∷ [])) (logged (Took 0 (w 0 1) ∷ [])) (by 0 1) 0 (b 0 9) (b 0 9 ∷ []) refl refl refl)

pub returns-clause-written_after_the_closing : goal.returns-clause-written_after_the_closing
returns-clause-written_after_the_closing c h = true≢false (h [] (logged (Wrote (w 0 1) ∷ [])) (by 0 1) refl)

pub returns-clause-taken_twice : goal.returns-clause-taken_twice
returns-clause-taken_twice c h = let e : ◌≡◌ {A = ℕ} 2 1 = h.each_written 0 in absurd (omega arith)

pub returns-clause-an_item_is_lost : goal.returns-clause-an_item_is_lost
returns-clause-an_item_is_lost c h = let e : ◌≡◌ {A = ℕ} 0 1 = h.each_written 0 in absurd (omega arith)

pub returns-clause-an_item_is_made : goal.returns-clause-an_item_is_made
returns-clause-an_item_is_made c h = let e : ◌≡◌ {A = ℕ} 1 0 = h.each_returned 0 in absurd (omega arith)
