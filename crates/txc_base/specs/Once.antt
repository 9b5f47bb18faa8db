-- Each item of a queue was taken or remains, exactly once.
use Rattle.std.specs.Prelude.{◌≡◌, ℕ, nat_lt, List, ◌++◌, length, if◌then◌else◌}
use Rattle.std.specs.List.{count_by}
use Rattle.txc_base.specs.declared.entry.Entry.{Entry}
use Rattle.txc_base.specs.declared.item.Item.{Item}
use Rattle.txc_base.specs.declared.origin.Origin.{Origin}
use Rattle.txc_base.specs.declared.origin.Origin.TheVariants.{Written, Back}
use Rattle.txc_base.specs.InOrder.{written, taken}
use Rattle.txc_base.specs.Log.{origin_eq}
use Rattle.txc_base.specs.Next.{returned}

-- how many items of a list have this origin
abbrev pub times : Origin → List Item → ℕ
times origin items = count_by (λ item. origin_eq item.origin origin) items

-- once for a number below the limit, otherwise never
abbrev pub once_below : ℕ → ℕ → ℕ
once_below limit n = if nat_lt n limit then 1 else 0

-- what a queue's reader took and what remains has each item that was written or put back once, and no other (stm)
pub record IsOnce (log : List Entry) (list : List Item) : Type 0 where
  pub each_written : (n : ℕ) → times (Written n) (taken 0 log ++ list) ≡ once_below (length (written log)) n
  pub each_returned : (n : ℕ) → times (Back n) (taken 0 log ++ list) ≡ once_below (length (returned 0 log)) n
