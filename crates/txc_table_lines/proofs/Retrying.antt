-- A transaction that is tried and not committed.
use Rattle.std.proofs.Common.{◌≡◌, ◌∙◌, refl, ap, arith, subst, ℕ, zero, suc, List, [], ◌∷◌}
use Rattle.std.proofs.lemmas.List.{get_or_default}
use Rattle.txc_chan.specs.ChanView.{ChanView}
use Rattle.txc_table_lines.specs.Locked.{AreClean}
use Rattle.txc_base.specs.declared.cause.Cause.{Cause}
use Rattle.txc_base.specs.declared.tag.Tag.{Tag}
use Rattle.txc_txn.specs.declared.ran.Ran.{Ran}
use Rattle.txc_txn.specs.declared.ran.Ran.TheVariants.{Kept as RanKept, Retry as RanRetry}
use Rattle.txc_txn.specs.declared.receipt.Receipt.{Receipt}
use Rattle.txc_txn.specs.Maps.{Map}
use Rattle.txc_txn.specs.Plain.{chan_in, missing}
use Rattle.txc_txn.specs.Run.{RanAs}
use Rattle.txc_txn.specs.Transaction.{Again, Ending, Aborted, Kept, State}

-- nothing can be undone in the channel with any number, if nothing can in all
none_pending : (helds : List ChanView) → AreClean helds → (k : ℕ) → (chan_in helds k).pending ≡ 0
none_pending [] clean k = refl
none_pending (h ∷ hs) clean zero = clean zero missing (omega arith)
none_pending (h ∷ hs) clean (suc k) = none_pending hs (λ i d below. clean (suc i) d (omega (arith, below))) k

-- nothing can be undone in channels that are as they were, if nothing could
pub clean_still : (before after : List ChanView) → AreClean before → chan_in after ≡ chan_in before → AreClean after
clean_still before after clean same k d below =
    ap (λ (held : ChanView). held.logged.pending) (get_or_default after k d missing below)
    ∙ ap (λ (m : Map). (m k).pending) same ∙ none_pending before clean k

-- a transaction whose run commits would commit
pub would_keep : (tag : Tag) (ending : Ending) (ran : Ran) (receipt : Receipt) (before after : Map)
    → ran ≡ RanKept receipt → RanAs tag ending ran before after → (state : State) × (ending ≡ Kept state)
would_keep tag ending ran receipt before after is gives =
    of ending (subst (λ (r : Ran). RanAs tag ending r before after) is gives)
  where
    of : (e : Ending) → RanAs tag e (RanKept receipt) before after → (state : State) × (e ≡ Kept state)
    of (Kept state) gave = (state, refl)
    of (Again cause) gave = absurd gave
    of (Aborted stop) gave = absurd gave

-- a run that must be retried leaves the channels as they were
pub retry_same : (tag : Tag) (ending : Ending) (ran : Ran) (cause : Cause) (before after : Map) → ran ≡ RanRetry cause
    → RanAs tag ending ran before after → after ≡ before
retry_same tag ending ran cause before after is gives =
    of ending (subst (λ (r : Ran). RanAs tag ending r before after) is gives)
  where
    of : (e : Ending) → RanAs tag e (RanRetry cause) before after → after ≡ before
    of (Kept state) gave = absurd gave
    of (Again why) gave = gave.1
    of (Aborted stop) gave = absurd gave
