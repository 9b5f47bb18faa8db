-- What the changes of a ledger and its shares require, and their results.
use Rattle.std.specs.Prelude.{◌≡◌, ℕ, ◌+◌, ◌≤◌}
use Rattle.txc_base_ledger.specs.declared.ledger.Ledger.{Ledger}
use Rattle.txc_base_ledger.specs.declared.share.Share.{Share}

-- a share is of this ledger
abbrev pub IsShareOf : Ledger → Share → Type 0
IsShareOf ledger share = (share.name ≡ ledger.name) × (share.whole ≡ ledger.whole)

-- both shares are of the same ledger
abbrev pub AreOfOne : Share → Share → Type 0
AreOfOne share other = (other.name ≡ share.name) × (other.whole ≡ share.whole)

-- a new ledger with n parts, and the share with all of them
pub record AreNew (n : ℕ) (ledger : Ledger) (share : Share) : Type 0 where
  pub of : IsShareOf ledger share
  pub whole : ledger.whole ≡ n
  pub total : ledger.total ≡ 0
  pub parts : share.parts ≡ n
  pub amount : share.amount ≡ 0

-- an amount can be added to a share of the ledger that has a part, and another one subtracted if the share has as much
pub record CanRecord (plus minus : ℕ) (ledger : Ledger) (share : Share) : Type 0 where
  pub of : IsShareOf ledger share
  pub backed : share.parts ≡ 0 → plus ≡ 0
  pub enough : minus ≤ share.amount

-- one amount was added to ledger and share, the other subtracted, and the share's amount was within the ledger's total
pub record IsRecorded (plus minus : ℕ) (ledger : Ledger) (share : Share) (ledger' : Ledger) (share' : Share) : Type 0
  where
    pub same : (ledger'.name ≡ ledger.name) × (ledger'.whole ≡ ledger.whole)
    pub total : ledger'.total + minus ≡ ledger.total + plus
    pub of : AreOfOne share share'
    pub parts : share'.parts ≡ share.parts
    pub amount : share'.amount + minus ≡ share.amount + plus
    pub bound : share.amount ≤ ledger.total
    pub whole : share.parts ≡ share.whole → share.amount ≡ ledger.total
    pub backed : share.parts ≡ 0 → share.amount ≡ 0

-- the first share stays unchanged, and the one made is of the same ledger, without a part and without an amount
pub record IsEmpty (share share' made : Share) : Type 0 where
  pub same : share' ≡ share
  pub of : AreOfOne share made
  pub parts : made.parts ≡ 0
  pub amount : made.amount ≡ 0

-- parts and an amount can move to another share of the ledger if afterwards neither share has an amount and no part
pub record CanShift (parts amount : ℕ) (from to : Share) : Type 0 where
  pub of : AreOfOne from to
  pub enough_parts : parts ≤ from.parts
  pub enough : amount ≤ from.amount
  pub left_backed : parts ≡ from.parts → amount ≡ from.amount
  pub given_backed : to.parts + parts ≡ 0 → amount ≡ 0

-- parts and an amount moved from one share to the other, and together they had at most all parts
pub record Shifted (parts amount : ℕ) (from to from' to' : Share) : Type 0 where
  pub same : AreOfOne from from'
  pub of : AreOfOne to to'
  pub left : (from'.parts + parts ≡ from.parts) × (from'.amount + amount ≡ from.amount)
  pub given : (to'.parts ≡ to.parts + parts) × (to'.amount ≡ to.amount + amount)
  pub apart : from.parts + to.parts ≤ from.whole

-- the first share now has the parts and the amount of both
pub record Absorbed (to from to' : Share) : Type 0 where
  pub of : AreOfOne to to'
  pub parts : to'.parts ≡ to.parts + from.parts
  pub amount : to'.amount ≡ to.amount + from.amount
  pub apart : to'.parts ≤ to.whole
