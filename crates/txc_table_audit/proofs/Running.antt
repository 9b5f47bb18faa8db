-- Transactions that run one after another.
use Rattle.std.proofs.Common.{◌≡◌, ◌≢◌, refl, sym, ◌∙◌, ap, subst, ℕ, ◌+◌, Some, Result, Ok, Err, IfOk, IfErr, List, []}
use Rattle.std.proofs.Common.{◌∷◌, ◌++◌, take, slice_get}
use Rattle.std.proofs.lemmas.List.{take_more}
use Rattle.std.proofs.lemmas.Option.{get_or_from_slice_get, slice_get_within}
use Rattle.txc_base.specs.declared.tag.Tag.{Tag}
use Rattle.txc_base.specs.declared.stop.Stop.{Stop}
use Rattle.txc_base.specs.declared.stop.Stop.TheVariants.{NoMemory}
use Rattle.txc_base.specs.declared.cause.Cause.{Cause}
use Rattle.txc_txn.specs.declared.ran.Ran.{Ran}
use Rattle.txc_txn.specs.declared.ran.Ran.TheVariants.{Kept as RanKept, Retry as RanRetry}
use Rattle.txc_txn.specs.declared.receipt.Receipt.{Receipt}
use Rattle.txc_txn_check.specs.Limits.{CheckedView}
use Rattle.txc_txn.specs.Maps.{Map, settle_all}
use Rattle.txc_txn.specs.Run.{RanSettled, receipt_of}
use Rattle.txc_txn.specs.Transaction.{Ending, Kept, Again, Aborted, kept_tag, transaction}
use Rattle.txc_txn_history.specs.Events.{Event}
use Rattle.txc_txn_history.specs.OneOrder.{Happens, Occurs, Runs}

-- one more
pub runs_more : (m : Map) (events : List Event) (here : Map) (event : Event) (next : Map) → Runs m events here
    → Occurs here event next → Runs m (events ++ event ∷ []) next
runs_more m [] here event next is happens =
    (next, (subst (λ (n : Map). Occurs n event next) is happens, refl))
runs_more m (first ∷ events) here event next runs happens =
    (runs.0, (runs.1.0, runs_more runs.0 events here event next runs.1.1 happens))

-- one more of an order
pub runs_next : (m : Map) (order : List Event) (rank : ℕ) (here : Map) (event : Event) (next : Map)
    → slice_get order rank ≡ Some event
    → Runs m (take rank order) here → Occurs here event next → Runs m (take (rank + 1) order) next
runs_next m order rank here event next at runs happens =
    let more : take (rank + 1) order ≡ take rank order ++ event ∷ [] =
    take_more order rank event (slice_get_within order rank event at)
    ∙ ap (λ (e : Event). take rank order ++ e ∷ []) (get_or_from_slice_get order rank event event at) in
    subst (λ (es : List Event). Runs m es next) (sym more) (runs_more m (take rank order) here event next runs happens)

-- what a run that was kept says
ran_kept : (tag : Tag) (plan : CheckedView) (o : Ending) (kept : Receipt) (m left : Map)
    → transaction m tag plan.declared plan.steps ≡ o
    → RanSettled (kept_tag m tag plan.declared) plan.declared o (RanKept kept) m left → Happens m tag plan kept left
ran_kept tag plan (Kept state) kept m left is ran = record {
  state = state;
  kept = is;
  gives = ran.0;
  leaves = ran.1 ∙ ap (λ (r : Receipt). settle_all state.chans r.tag.stamp plan.declared) (sym ran.0);
}
ran_kept tag plan (Again cause) kept m left is ran = absurd ran
ran_kept tag plan (Aborted stop) kept m left is ran = absurd ran

-- .. where its answer is known
pub happens : (tag : Tag) (plan : CheckedView) (r : Result Ran Stop) (receipt : Receipt) (m left : Map)
    → IfOk r (λ ran. RanSettled (kept_tag m tag plan.declared) plan.declared
    (transaction m tag plan.declared plan.steps) ran m left)
    → r ≡ Ok (RanKept receipt) → Happens m tag plan receipt left
happens tag plan r receipt m left settled is =
    ran_kept tag plan (transaction m tag plan.declared plan.steps) receipt m left refl
    (subst (λ (r : Result Ran Stop).
    IfOk r (λ ran. RanSettled (kept_tag m tag plan.declared) plan.declared
    (transaction m tag plan.declared plan.steps) ran m left)) is settled)

-- a transaction gives one receipt
pub one_receipt : (tag : Tag) (plan : CheckedView) (one other : Receipt) (m left left' : Map)
    → Happens m tag plan one left
    → Happens m tag plan other left' → one ≡ other
one_receipt tag plan one other m left left' p q =
    let same : p.state ≡ q.state = cc (p.kept, q.kept) in
    p.gives ∙ ap (receipt_of (kept_tag m tag plan.declared)) same ∙ sym q.gives

-- what a run that was not kept says
ran_again : (tag : Tag) (plan : CheckedView) (receipt : Receipt) (o : Ending) (cause : Cause) (m left after : Map)
    → transaction m tag plan.declared plan.steps ≡ o
    → RanSettled (kept_tag m tag plan.declared) plan.declared o (RanRetry cause) m left
    → ¬ Happens m tag plan receipt after
ran_again tag plan receipt (Kept state) cause m left after is ran h = absurd ran
ran_again tag plan receipt (Again why) cause m left after is ran h = absurd (cc (is, h.kept))
ran_again tag plan receipt (Aborted stop) cause m left after is ran h = absurd ran

-- nothing comes of a run with another answer, where memory was not refused
pub happens_not : (tag : Tag) (plan : CheckedView) (r : Result Ran Stop) (receipt : Receipt) (m left after : Map)
    → IfOk r (λ ran. RanSettled (kept_tag m tag plan.declared) plan.declared
    (transaction m tag plan.declared plan.steps) ran m left)
    → IfErr r (λ stop. stop ≢ NoMemory → transaction m tag plan.declared plan.steps ≡ Aborted stop)
    → r ≢ Ok (RanKept receipt) → r ≢ Err NoMemory → ¬ Happens m tag plan receipt after
happens_not tag plan (Ok (RanKept kept)) receipt m left after settled stopped other known h =
    let here : Happens m tag plan kept left = ran_kept tag plan (transaction m tag plan.declared plan.steps) kept m left
    refl settled in
    other (λ j. Ok (RanKept (one_receipt tag plan kept receipt m left after here h j)))
happens_not tag plan (Ok (RanRetry cause)) receipt m left after settled stopped other known h =
    ran_again tag plan receipt (transaction m tag plan.declared plan.steps) cause m left after refl settled h
happens_not tag plan (Err stop) receipt m left after settled stopped other known h =
    let is : transaction m tag plan.declared plan.steps ≡ Aborted stop = stopped (λ e. known (λ j. Err (e j))) in
    absurd (cc (is, h.kept))
