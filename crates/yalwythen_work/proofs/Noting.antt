-- Transactions that were kept, by those that were prepared and those that were given for once.
use Rattle.std.proofs.Common.{◌≡◌, ◌∙◌, ap, refl, sym, subst, ℕ, suc, ◌<◌, Result, Ok, Err, OnOk, OnErr, List, [], ◌∷◌}
use Rattle.std.proofs.Common.{◌++◌, map, length, slice_index_or, All, arith}
use Rattle.std.proofs.Math.ListN.{get_or-append}
use Rattle.std.proofs.Math.Seq.{get_or-append_seam}
use Rattle.std.proofs.lemmas.List.{map-append}
use Rattle.std.proofs.lemmas.List.Elements.{All-append, All-cons}
use Rattle.txc_table_audit.specs.ReceiptKeys.{no_plan}
use Rattle.txc_txn_check.specs.Limits.{CheckedView}
use Rattle.yalwythen_work.specs.Plans.{IsThere, plan_of}
use Rattle.yalwythen_work.specs.declared.plans.PlanIndex.{PlanIndex}
use Rattle.yalwythen_work.specs.declared.plans.PlanIndex.TheVariants.{Once, Prepared}

-- lists that have the same where the first ones have something tell the same of what was kept
same_kept : (prepared once prepared' once' : List CheckedView) (kept : List PlanIndex)
    → ((n : ℕ) → n < length prepared → slice_index_or prepared' n no_plan ≡ slice_index_or prepared n no_plan)
    → ((n : ℕ) → n < length once → slice_index_or once' n no_plan ≡ slice_index_or once n no_plan)
    → All (IsThere (length prepared) (length once)) kept
    → map (plan_of prepared' once') kept ≡ map (plan_of prepared once) kept
same_kept prepared once prepared' once' [] same_prepared same_once there = refl
same_kept prepared once prepared' once' (Once number ∷ kept) same_prepared same_once there =
    let here : number < length once = there 0 (Once number) (omega arith) in
    λ j. same_once number here j ∷ same_kept prepared once prepared' once' kept same_prepared same_once
    (λ k d below. there (suc k) d (omega (arith, below))) j
same_kept prepared once prepared' once' (Prepared number ∷ kept) same_prepared same_once there =
    let here : number < length prepared = there 0 (Prepared number) (omega arith) in
    λ j. same_prepared number here j ∷ same_kept prepared once prepared' once' kept same_prepared same_once
    (λ k d below. there (suc k) d (omega (arith, below))) j

-- one more that is prepared leaves those that were kept
pub one_more_prepared : (prepared once : List CheckedView) (plan : CheckedView) (kept : List PlanIndex)
    → All (IsThere (length prepared) (length once)) kept
    → map (plan_of (prepared ++ plan ∷ []) once) kept ≡ map (plan_of prepared once) kept
one_more_prepared prepared once plan kept there =
    same_kept prepared once (prepared ++ plan ∷ []) once kept
    (λ n below. get_or-append prepared (plan ∷ []) no_plan n below) (λ n below. refl) there

-- one more that is kept, and was given for once, comes after those that were kept
pub one_more_once : (prepared once : List CheckedView) (plan : CheckedView) (kept : List PlanIndex)
    → All (IsThere (length prepared) (length once)) kept
    → map (plan_of prepared (once ++ plan ∷ [])) (kept ++ Once (length once) ∷ [])
    ≡ map (plan_of prepared once) kept ++ plan ∷ []
one_more_once prepared once plan kept there =
    map-append (plan_of prepared (once ++ plan ∷ [])) kept (Once (length once) ∷ [])
    ∙ ap (λ (ps : List CheckedView). ps ++ slice_index_or (once ++ plan ∷ []) (length once) no_plan ∷ [])
    (same_kept prepared once prepared (once ++ plan ∷ []) kept (λ n below. refl)
    (λ n below. get_or-append once (plan ∷ []) no_plan n below) there)
    ∙ ap (λ (p : CheckedView). map (plan_of prepared once) kept ++ p ∷ []) (get_or-append_seam once plan [] no_plan)

-- what all have, all have with one more that has it
all_with : {X : Type 0} (P : X → Type 0) (xs : List X) (x : X) → All P xs → P x → All P (xs ++ x ∷ [])
all_with P xs x all here = All-append P xs (x ∷ []) all
    (All-cons P x [] here (λ k d below. absurd (omega (arith, below))))

-- .. so where one more was added, or none
pub all_after : {X V E : Type 0} (P : X → Type 0) (r : Result V E) (xs xs' : List X) (x : X)
    → OnOk r (xs' ≡ xs ++ x ∷ []) → OnErr r (xs' ≡ xs)
    → All P xs → P x → All P xs'
all_after P (Ok value) xs xs' x added same all here = subst (λ ys. All P ys) (sym added) (all_with P xs x all here)
all_after P (Err fault) xs xs' x added same all here = subst (λ ys. All P ys) (sym same) all
