-- A transaction of one operation.
use Rattle.std.proofs.Common.{◌≡◌, refl, sym, ◌∙◌, ap, subst, ℕ, ◌||◌, Bool, false, if◌then◌else◌, [], ◌∷◌, None}
use Rattle.txc_base.specs.declared.cause.Cause.{Cause}
use Rattle.txc_base.specs.declared.op.Op.{Op}
use Rattle.txc_base.specs.declared.stop.Stop.TheVariants.{Worn}
use Rattle.txc_base.specs.declared.tag.Tag.{Tag}
use Rattle.txc_base.specs.Op.{chan_of}
use Rattle.txc_base.specs.Operation.{Did, Replies, Waits, Stops, operate}
use Rattle.txc_chan.specs.Logged.{settled}
use Rattle.txc_txn_check.specs.declared.step.Step.TheVariants.{Do}
use Rattle.txc_txn.proofs.Beginning.{from_start as begun}
use Rattle.txc_txn.proofs.Running.{step_in-Do}
use Rattle.txc_txn.specs.declared.trace.Trace.{Trace}
use Rattle.txc_txn.specs.declared.ran.Ran.TheVariants.{Kept as RanKept, Retry}
use Rattle.txc_txn.specs.declared.receipt.Receipt.{Receipt}
use Rattle.txc_txn.specs.OneOperation.{OneIsItself, ending_of_one}
use Rattle.txc_txn.specs.Maps.{Map, put_at}
use Rattle.txc_txn.specs.Run.{RanSettled, receipt_of, state_of}
use Rattle.txc_txn.specs.Transaction.{Again, Ending, Aborted, Kept, after_did, and_then}
use Rattle.txc_txn.specs.Transaction.{greatest, is_worn, kept_tag, op_in}
use Rattle.txc_txn.specs.Transaction.{sequence, start, steps_in, transaction}

-- nothing comes after it
pub ends : (ending : Ending) → and_then ending (sequence []) ≡ ending
ends (Kept state) = refl
ends (Again cause) = refl
ends (Aborted stop) = refl

-- what it did, from the beginning
from_start : (m : Map) (tag : Tag) (chan : ℕ) (what : Did)
    → after_did (start m) chan tag what ≡ ending_of_one m tag chan what
from_start m tag chan (Replies reply acts channel) = refl
from_start m tag chan (Waits cause) = refl
from_start m tag chan (Stops stop) = refl

pub one_is_itself : OneIsItself
one_is_itself m tag op worn =
    let kept = kept_tag m tag (chan_of op ∷ []) in
    ap (λ (b : Bool). if b then Aborted Worn else steps_in kept (Do op ∷ []) (start m)) worn
    ∙ ap (λ ending. and_then ending (sequence [])) (step_in-Do kept op (start m))
    ∙ ends (op_in kept op (start m))
    ∙ from_start m kept (chan_of op) (operate (m (chan_of op)).channel tag.seat None op)

-- what is so where a run of one operation on this channel begins: no number is used up, it has its tag, and its trace
-- is
-- empty
pub record BeginsOne (m : Map) (tag kept : Tag) (chan : ℕ) (op : Op) (trace : Trace) : Type 0 where
  pub on : chan ≡ chan_of op
  pub rises : (is_worn tag.serial || is_worn (greatest m tag.stamp (chan ∷ []))) ≡ false
  pub tagged : kept ≡ kept_tag m tag (chan ∷ [])
  pub last : trace.last ≡ None
  pub replies : trace.replies.items ≡ []
  pub deeds : trace.deeds.items ≡ []

-- what its operation comes to, it comes to
pub one_step : (m : Map) (tag kept : Tag) (chan : ℕ) (op : Op) (trace : Trace) (ending : Ending)
    → BeginsOne m tag kept chan op trace → op_in kept op (state_of m trace) ≡ ending
    → transaction m tag (chan_of op ∷ []) (Do op ∷ []) ≡ ending
one_step m tag kept chan op trace ending begins ran =
    begun m tag kept (chan ∷ []) (chan_of op ∷ []) (Do op ∷ []) trace ending (ap (λ n. n ∷ []) begins.on)
    begins.rises begins.tagged begins.last begins.replies begins.deeds
    (ap (λ e. and_then e (sequence [])) (step_in-Do kept op (state_of m trace))
    ∙ ends (op_in kept op (state_of m trace))
    ∙ ran)

-- it is kept, and settled
pub one_kept : (m m' m'' : Map) (tag kept : Tag) (chan : ℕ) (op : Op) (trace trace' : Trace) (receipt : Receipt)
    → BeginsOne m tag kept chan op trace → op_in kept op (state_of m trace) ≡ Kept (state_of m' trace')
    → m'' ≡ put_at m' chan (settled kept.stamp (m' chan))
    → receipt ≡ receipt_of kept (state_of m' trace')
    → RanSettled (kept_tag m tag (chan_of op ∷ [])) (chan_of op ∷ [])
    (transaction m tag (chan_of op ∷ []) (Do op ∷ [])) (RanKept receipt) m m''
one_kept m m' m'' tag kept chan op trace trace' receipt begins ran settles is =
    subst (λ (t : Tag). RanSettled t (chan_of op ∷ []) (transaction m tag (chan_of op ∷ []) (Do op ∷ []))
    (RanKept receipt) m m'') (begins.tagged ∙ ap (λ n. kept_tag m tag (n ∷ [])) begins.on)
    (subst (λ (e : Ending). RanSettled kept (chan_of op ∷ []) e (RanKept receipt) m m'')
    (sym (one_step m tag kept chan op trace (Kept (state_of m' trace')) begins ran))
    (is, settles ∙ ap (λ n. put_at m' n (settled kept.stamp (m' n))) begins.on))

-- it has to be tried again
pub one_again : (m m' : Map) (tag kept : Tag) (chan : ℕ) (op : Op) (trace : Trace) (cause : Cause)
    → BeginsOne m tag kept chan op trace → op_in kept op (state_of m trace) ≡ Again cause → m' ≡ m
    → RanSettled (kept_tag m tag (chan_of op ∷ [])) (chan_of op ∷ [])
    (transaction m tag (chan_of op ∷ []) (Do op ∷ [])) (Retry cause) m m'
one_again m m' tag kept chan op trace cause begins ran back =
    subst (λ (e : Ending). RanSettled (kept_tag m tag (chan_of op ∷ [])) (chan_of op ∷ []) e (Retry cause) m m')
    (sym (one_step m tag kept chan op trace (Again cause) begins ran)) (refl, back)
