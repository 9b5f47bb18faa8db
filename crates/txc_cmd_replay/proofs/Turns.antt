-- What a turn leaves.
use Rattle.std.proofs.Common.{◌≡◌, ◌≢◌, refl, sym, ◌∙◌, ap, ℕ, suc, ◌-◌, Bool, true, false, Some, None, Result, Ok, Err}
use Rattle.std.proofs.Common.{IfOk, IfErr, OnErr, List, [], ◌∷◌, ◌++◌, length, slice_get, arith}
use Rattle.txc_base.specs.declared.stop.Stop.{Stop}
use Rattle.txc_base.specs.declared.stop.Stop.TheVariants.{NoMemory}
use Rattle.txc_base.specs.declared.tag.Tag.{Tag}
use Rattle.txc_cmd_report.specs.declared.seat_end.SeatEnd.TheVariants.{Finished, Stalled}
use Rattle.txc_txn.specs.declared.ran.Ran.{Ran}
use Rattle.txc_txn.specs.declared.ran.Ran.TheVariants.{Kept as RanKept, Retry as RanRetry}
use Rattle.txc_txn.specs.declared.receipt.Receipt.{Receipt}
use Rattle.txc_txn.specs.Limits.{CheckedView}
use Rattle.txc_txn.specs.Maps.{Map, settle_all}
use Rattle.txc_txn.specs.Run.{RanSettled}
use Rattle.txc_txn.specs.Transaction.{Ending as Tried, Kept, Again, Aborted, kept_tag, transaction}
use Rattle.txc_cmd_replay.specs.Keeping.{IsNoted}
use Rattle.txc_cmd_replay.specs.Rounds.{SeatProgress, after_try, last_stamp, tag_after, try, turn_to}

-- the last place of a list with one in front
last_place : (one other : Receipt) (receipts : List Receipt)
    → slice_get (one ∷ other ∷ receipts) (length (one ∷ other ∷ receipts) - 1) ≡ slice_get (other ∷ receipts)
    (length (other ∷ receipts) - 1)
last_place one other receipts =
    let more : length (one ∷ other ∷ receipts) - 1 ≡ suc (length receipts) = omega arith in
    let less : length (other ∷ receipts) - 1 ≡ length receipts = omega arith in
    ap (slice_get (one ∷ other ∷ receipts)) more ∙ sym (ap (slice_get (other ∷ receipts)) less)

-- the stamp of a last receipt
pub last_some : (receipts : List Receipt) (receipt : Receipt) → slice_get receipts (length receipts - 1) ≡ Some receipt
    → last_stamp receipts ≡ receipt.tag.stamp
last_some [] receipt e = absurd (cc)
last_some (one ∷ []) receipt e = let same : one ≡ receipt = cc in ap (λ (r : Receipt). r.tag.stamp) same
last_some (one ∷ other ∷ receipts) receipt e = last_some (other ∷ receipts) receipt (sym (last_place one other receipts)
    ∙ e)

-- .. and where there is none
pub last_none : (receipts : List Receipt) → slice_get receipts (length receipts - 1) ≡ None → last_stamp receipts ≡ 0
last_none [] e = refl
last_none (one ∷ []) e = absurd (cc)
last_none (one ∷ other ∷ receipts) e = last_none (other ∷ receipts) (sym (last_place one other receipts) ∙ e)

-- a run that was not refused, noted, is the try with its outcome
after_ran : (m m' : Map) (s s' : SeatProgress) (tag : Tag) (declared : List ℕ) (o : Tried) (ran : Ran) (kept : Bool)
    → RanSettled tag declared o ran m m'
    → IsNoted s (Ok ran) s' kept → turn_to m' s' kept ≡ after_try m s tag declared o
after_ran m m' s s' tag declared (Kept state) (RanKept receipt) kept settled noted =
    (λ j. turn_to (settled.1 j) (noted.0 j) (noted.1 j))
    ∙ ap (λ r. turn_to (settle_all state.chans tag.stamp declared)
    (record { receipts = s.receipts ++ r ∷ []; end = Finished }) true) settled.0
after_ran m m' s s' tag declared (Again cause) (RanRetry why) kept settled noted =
    (λ j. turn_to (settled.1 j) (noted.0 j) (noted.1 j))
    ∙ ap (λ w. turn_to m (record { receipts = s.receipts; end = Stalled w }) false) settled.0
after_ran m m' s s' tag declared (Kept state) (RanRetry why) kept settled noted = absurd settled
after_ran m m' s s' tag declared (Again cause) (RanKept receipt) kept settled noted = absurd settled
after_ran m m' s s' tag declared (Aborted stop) (RanKept receipt) kept settled noted = absurd settled
after_ran m m' s s' tag declared (Aborted stop) (RanRetry why) kept settled noted = absurd settled

-- a run with the seat's next tag, noted, is the try
pub tried : (seat : ℕ) (plan : CheckedView) (m m' : Map) (s s' : SeatProgress) (tag : Tag) (r : Result Ran Stop)
    (kept : Bool)
    → tag ≡ tag_after seat s.receipts
    → IfOk r (λ ran. RanSettled (kept_tag m tag plan.declared) plan.declared
    (transaction m tag plan.declared plan.steps) ran m m')
    → IfErr r (λ stop. stop ≢ NoMemory → transaction m tag plan.declared plan.steps ≡ Aborted stop) → OnErr r (m' ≡ m)
    → IsNoted s r s' kept → turn_to m' s' kept ≡ try seat plan m s
tried seat plan m m' s s' tag r kept is settled stopped same noted =
    of r settled stopped same noted
    ∙ ap (λ t. after_try m s (kept_tag m t plan.declared) plan.declared (transaction m t plan.declared plan.steps))
    is
  where
    of : (r : Result Ran Stop) → IfOk r
        (λ ran. RanSettled (kept_tag m tag plan.declared) plan.declared (transaction m tag plan.declared plan.steps) ran
        m m')
        → IfErr r (λ stop. stop ≢ NoMemory → transaction m tag plan.declared plan.steps ≡ Aborted stop)
        → OnErr r (m' ≡ m)
        → IsNoted s r s' kept → turn_to m' s' kept ≡ after_try m s (kept_tag m tag plan.declared) plan.declared
        (transaction m tag plan.declared plan.steps)
    of (Ok ran) settled stopped same noted = after_ran m m' s s' (kept_tag m tag plan.declared) plan.declared
        (transaction m tag plan.declared plan.steps) ran kept settled noted
    of (Err stop) settled stopped same noted =
        (λ j. turn_to (same j) (noted.0 j) (noted.1 j))
        ∙ sym (ap (after_try m s (kept_tag m tag plan.declared) plan.declared) (stopped noted.2))
