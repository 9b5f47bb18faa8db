-- Seats that try again at the end.
use Rattle.std.proofs.Common.{◌≡◌, ◌∙◌, ◌<◌, ◌+◌, ℕ, List, [], Some}
use Rattle.std.proofs.Common.{ap, arith, inl, inr, length, map, refl, slice_get}
use Rattle.std.proofs.Common.{slice_index_or, slice_set, subst, sym}
use Rattle.std.proofs.lemmas.Bool.Decides.{eqb_tells}
use Rattle.std.proofs.lemmas.List.{get_or-map, get_or-set_other, get_or-set_same}
use Rattle.std.proofs.lemmas.Option.{slice_get-get_or}
use Rattle.txc_base.specs.declared.cause.Cause.{Cause}
use Rattle.txc_table.specs.IdleTableView.{MustRetry, OthersStay}
use Rattle.txc_table.specs.Seat.{DepartedSeatView}
use Rattle.txc_chan.specs.declared.decl.Decl.{Decl}
use Rattle.txc_chan.specs.ChanView.{ChanView}
use Rattle.txc_txn_check.specs.Limits.{CheckedView}
use Rattle.txc_cmd_report.specs.declared.seat_end.SeatEnd.{SeatEnd}
use Rattle.txc_cmd_report.specs.declared.seat_end.SeatEnd.TheVariants.{Finished, Stalled, Stopped}
use Rattle.txc_table_seat.specs.Seated.{SeatCommits, next_tag, no_commits}
use Rattle.txc_txn.specs.Maps.{Map}
use Rattle.txc_txn.specs.Plain.{chan_in}
use Rattle.txc_txn.specs.Transaction.{Again, transaction}
use Rattle.txc_cmd_threads.specs.Pool.{HaveServed}
use Rattle.txc_cmd_threads.specs.Serves.{Serves}
use Rattle.txc_cmd_threads.specs.Stuck.{AreStuck, IsStalled, IsStuck}

-- a seat that is stuck on some channels is stuck on those that are the same
pub stuck_still : (helds helds' : List ChanView) (plans : List CheckedView) (seat : SeatCommits) (end : SeatEnd)
    → chan_in helds' ≡ chan_in helds → IsStuck helds plans seat end → IsStuck helds' plans seat end
stuck_still helds helds' plans seat Finished same is = is
stuck_still helds helds' plans seat (Stalled cause) same is = (
  is.0,
  is.1,
  subst (λ (m : Map). transaction m (next_tag seat) is.0.declared is.0.steps ≡ Again cause) (sym same) is.2,
)
stuck_still helds helds' plans seat (Stopped stop) same is = is

-- a seat is stuck whose next transaction has to be tried again on channels that are the same
pub stuck_at : (helds helds' : List ChanView) (plans : List CheckedView) (seat : SeatCommits) (plan : CheckedView)
    (cause : Cause)
    (next : ℕ) → length seat.receipts ≡ next → next < length plans → plan ≡ slice_index_or plans next plan
    → chan_in helds' ≡ chan_in helds → MustRetry helds seat plan cause → IsStuck helds' plans seat (Stalled cause)
stuck_at helds helds' plans seat plan cause next many below is same again = (
  plan,
  ap (slice_get plans) many ∙ (slice_get-get_or plans next plan below ∙ ap Some (sym is)),
  subst (λ (m : Map). transaction m (next_tag seat) plan.declared plan.steps ≡ Again cause) (sym same) again,
)

-- what is so of each list of some is so of the list that stands for it
pub items_at : {X Y : Type 0} (P : Y → Type 0) (f : X → Y) (xs : List X) (k : ℕ) (d : Y) (x : X) → k < length xs
    → x ≡ slice_index_or xs k x → P (slice_index_or (map f xs) k d) → P (f x)
items_at {X} {Y} P f xs k d x below is holds =
    subst P (get_or-map f xs k x d below ∙ ap f (sym is)) holds

-- what is so of each end, and of one more at a place, is so when it stands there
pub each_set : (P : ℕ → SeatEnd → Type 0) (many at : ℕ) (ends : List SeatEnd) (end : SeatEnd) → at < length ends
    → P at end → ((k : ℕ) → k < many → ¬ (k ≡ at) → P k (slice_index_or ends k Finished)) → (k : ℕ) → k < many
    → P k (slice_index_or (slice_set ends at end) k Finished)
each_set P many at ends end there here others k below =
    elim (eqb_tells k at) [
      | inl t ↦
          subst (λ n. P n (slice_index_or (slice_set ends at end) n Finished)) (sym t.1)
          (subst (P at) (sym (get_or-set_same ends at end Finished there)) here)
      | inr t ↦ subst (P k) (sym (get_or-set_other ends at k end Finished t.1)) (others k below t.1)
    ]

-- one more seat has ended anew
pub back_set : (lines : List Decl) (seats : List (List CheckedView)) (left : List DepartedSeatView)
    (ends : List SeatEnd)
    (at : ℕ)
    (end : SeatEnd) → at < length ends
    → ((d : DepartedSeatView)
    → Serves lines (slice_index_or seats at []) (no_commits at) (slice_index_or left at d).commits end)
    → HaveServed lines seats left ends → HaveServed lines seats left (slice_set ends at end)
back_set lines seats left ends at end there serves back k d below =
    each_set (λ n e. Serves lines (slice_index_or seats n []) (no_commits n) (slice_index_or left n d).commits e)
    (length seats)
    at ends end there (serves d) (λ n l other. back n d l) k below

-- .. and is stuck
pub stuck_more : (helds helds' : List ChanView) (seats : List (List CheckedView)) (left : List DepartedSeatView)
    (ends : List SeatEnd)
    (at : ℕ) (end : SeatEnd) → at < length ends → chan_in helds' ≡ chan_in helds
    → ((d : DepartedSeatView) → IsStuck helds' (slice_index_or seats at []) (slice_index_or left at d).commits end)
    → AreStuck at helds seats left ends → AreStuck (at + 1) helds' seats left (slice_set ends at end)
stuck_more helds helds' seats left ends at end there same stuck before k d below =
    each_set (λ n e. IsStuck helds' (slice_index_or seats n []) (slice_index_or left n d).commits e)
    (at + 1) at ends end there
    (stuck d)
    (λ n l other. stuck_still helds helds' (slice_index_or seats n []) (slice_index_or left n d).commits
    (slice_index_or ends n Finished) same (before n d (omega (arith, l, other))))
    k below

-- a seat that did not stall is stuck on any channels
pub not_stalled : (helds : List ChanView) (plans : List CheckedView) (seat : SeatCommits) (end : SeatEnd)
    → ((cause : Cause) → ¬ (end ≡ Stalled cause)) → IsStuck helds plans seat end
not_stalled helds plans seat Finished other = tt
not_stalled helds plans seat (Stalled cause) other = absurd (other cause refl)
not_stalled helds plans seat (Stopped stop) other = tt

-- .. so one more is
pub stuck_next : (helds : List ChanView) (seats : List (List CheckedView)) (left : List DepartedSeatView)
    (ends : List SeatEnd) (at : ℕ)
    → ((cause : Cause) → ¬ (slice_index_or ends at Finished ≡ Stalled cause))
    → AreStuck at helds seats left ends → AreStuck (at + 1) helds seats left ends
stuck_next helds seats left ends at other before n d below =
    elim (eqb_tells n at) [
      | inl t ↦
          subst (λ k. IsStuck helds (slice_index_or seats k []) (slice_index_or left k d).commits
          (slice_index_or ends k Finished)) (sym t.1)
          (not_stalled helds (slice_index_or seats at []) (slice_index_or left at d).commits
          (slice_index_or ends at Finished) other)
      | inr t ↦ before n d (omega (arith, below, t.1))
    ]

-- a list that differs at a place from one that differs there
pub others_then : (at : ℕ) (before between after : List DepartedSeatView) → OthersStay at before between
    → OthersStay at between after → OthersStay at before after
others_then at before between after first second = record {
  many = second.many ∙ first.many;
  same = λ k d other. second.same k d other ∙ first.same k d other;
}

-- a seat that is put among others that stay has ended anew
pub back_others : (lines : List Decl) (seats : List (List CheckedView)) (left left' : List DepartedSeatView)
    (ends : List SeatEnd)
    (at : ℕ) (end : SeatEnd) → at < length ends → OthersStay at left left'
    → ((d : DepartedSeatView) → Serves lines (slice_index_or seats at []) (no_commits at)
    (slice_index_or left' at d).commits end)
    → HaveServed lines seats left ends → HaveServed lines seats left' (slice_set ends at end)
back_others lines seats left left' ends at end there others serves back k d below =
    each_set (λ n e. Serves lines (slice_index_or seats n []) (no_commits n) (slice_index_or left' n d).commits e)
    (length seats)
    at ends end there (serves d)
    (λ n l other. subst (λ (s : DepartedSeatView). Serves lines (slice_index_or seats n []) (no_commits n) s.commits
    (slice_index_or ends n Finished)) (sym (others.same n d other)) (back n d l)) k below

-- a seat that stalled did so for a cause
pub stalled_for : (end : SeatEnd) → IsStalled end → (cause : Cause) × (end ≡ Stalled cause)
stalled_for Finished is = absurd is
stalled_for (Stalled cause) is = (cause, refl)
stalled_for (Stopped stop) is = absurd is
