-- The transactions of a session, in contracts.
use Rattle.std.specs.Prelude.{◌≡◌, ℕ, Bool, true, false, ◌<◌, List, [], ◌∷◌, ◌++◌, slice_index_or}
use Rattle.txc_table_audit.specs.ReceiptKeys.{no_plan}
use Rattle.txc_txn_check.specs.Limits.{CheckedView}
use Rattle.yalwythen_work.specs.declared.plans.PlanIndex.{PlanIndex}
use Rattle.yalwythen_work.specs.declared.plans.PlanIndex.TheVariants.{Once, Prepared}

-- the transactions of a session: the prepared ones, the noted commits in order, whether commits are noted, for how many
-- more commits there is capacity, and for how many more transactions that are run once
pub record PlansView : Type 0 where
  pub prepared : List CheckedView
  pub kept : List CheckedView
  pub audited : Bool
  pub room : ℕ
  pub room_once : ℕ

-- the prepared and the noted transactions are as before, and commits are noted or not as before
pub record KeepsPlans (before after : PlansView) : Type 0 where
  pub prepared : after.prepared ≡ before.prepared
  pub kept : after.kept ≡ before.kept
  pub audited : after.audited ≡ before.audited

-- the committed transaction, given the list of prepared transactions and the list of those that are run once
abbrev pub plan_of : List CheckedView → List CheckedView → PlanIndex → CheckedView
plan_of prepared once (Once number) = slice_index_or once number no_plan
plan_of prepared once (Prepared number) = slice_index_or prepared number no_plan

-- the committed transaction is in its list: the lists of the prepared ones and of those that are run once have these
-- lengths
abbrev pub IsThere : ℕ → ℕ → PlanIndex → Type 0
IsThere prepared once (Once number) = number < once
IsThere prepared once (Prepared number) = number < prepared

-- the noted commits after this one, if commits are noted or not
abbrev pub noted : Bool → List CheckedView → CheckedView → List CheckedView
noted true kept plan = kept ++ plan ∷ []
noted false kept plan = kept
