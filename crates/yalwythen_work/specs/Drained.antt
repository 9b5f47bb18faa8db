-- The reads of a reader that drains a channel.
use Rattle.std.specs.Prelude.{◌≡◌, ℕ, zero, suc, true, List, [], ◌∷◌, slice_get}
use Rattle.txc_base.specs.declared.op.Op.TheVariants.{Read}
use Rattle.txc_txn_check.specs.declared.step.Step.{Step}
use Rattle.txc_txn_check.specs.declared.step.Step.TheVariants.{Do}
use Rattle.yalwythen_work.specs.Committed.{HasCommittedSteps, found_closed, replies_in}
use Rattle.yalwythen_work.specs.Session.{SessionView}

-- the steps that read once with this reader of this channel
abbrev pub reading : ℕ → ℕ → List Step
reading chan reader = Do (Read chan reader) ∷ []

-- this number of such reads committed, one after another
abbrev pub AreRead : ℕ → ℕ → ℕ → SessionView → SessionView → Type 0
AreRead zero chan reader before after = after ≡ before
AreRead (suc count) chan reader before after = (between : SessionView) × ((number : ℕ)
    × AreRead count chan reader before between × HasCommittedSteps between (reading chan reader) number after)

-- some such reads committed, and then one that found the channel closed
abbrev pub IsDrained : ℕ → ℕ → SessionView → SessionView → Type 0
IsDrained chan reader before after = (between : SessionView) × ((count number : ℕ)
    × AreRead count chan reader before between × HasCommittedSteps between (reading chan reader) number after
    × (found_closed (replies_in (slice_get after.seat.receipts number)) ≡ true))
