-- The transactions of a seat are placed in the histories of their channels.
use mathlib.Core.List.{IsPrefix}
use Rattle.std.proofs.Common.{◌≡◌, refl, sym, ◌∙◌, ap, subst, ⊎_elim, ℕ, ◌+◌, ◌<◌, List, [], ◌∷◌, ◌++◌}
use Rattle.std.proofs.Common.{length, map, Contains, arith}
use Rattle.txc_base.specs.declared.tag.Tag.{Tag}
use Rattle.txc_chan.specs.Reserved.{one_if}
use Rattle.txc_chan.specs.declared.decl.Decl.{Decl}
use Rattle.txc_txn_check.specs.Limits.{CheckedView}
use Rattle.txc_txn_check.specs.Steps.{NamesOnly}
use Rattle.txc_table_line.specs.Line.{decl_at}
use Rattle.txc_table_line.specs.Known.{IsKnown}
use Rattle.txc_table_line.specs.declared.mark.Mark.{Mark}
use Rattle.txc_txn.specs.declared.ran.Ran.TheVariants.{Kept as RanKept}
use Rattle.txc_txn.specs.declared.receipt.Receipt.{Receipt}
use Rattle.txc_txn.specs.InLog.{Logs}
use Rattle.txc_txn.specs.Maps.{Map, settle_all}
use Rattle.txc_txn.specs.Run.{RanSettled, receipt_of}
use Rattle.txc_txn.specs.Transaction.{Ending, Kept, Again, Aborted, kept_tag, transaction}
use Rattle.txc_table_seat.specs.Seated.{StampsRise}
use Rattle.txc_base_ghost.specs.Last.{last_from}
use Rattle.txc_txn_history.specs.Commits.{Has}
use Rattle.txc_txn_history.specs.Events.{Event, asked, events_of}
use Rattle.txc_txn_history.specs.Placed.{Gives, is_among, leaves, left_by}
use Rattle.txc_txn_history.specs.Seats.{uses_in}
use Rattle.txc_txn_history.proofs.Locality.{among_contains}
use Rattle.txc_txn_history.proofs.Placing.{placed_now, placed_on}
use Rattle.txc_txn_history.proofs.Seats.{events_push}
use Rattle.txc_txn_history.proofs.Turns.{has_either}
use Rattle.txc_table_line.specs.SeatShare.{SeatShareView}
use Rattle.txc_table_lines.specs.Committed.{AreCommitted, CountsCommit, HasItsMark}
use Rattle.txc_table_lines.specs.Lines.{share_at}
use Rattle.txc_table.specs.Seat.{ArePlacedEvents, SeesMore, IsPlacedEvent, seen_logs, seen_marks}

-- whose transaction a mark is of, and how long the log was then
abbrev pub mark_tag : Mark → Tag
mark_tag mark = mark.tag

abbrev pub mark_len : Mark → ℕ
mark_len mark = mark.len

-- a transaction that committed on lawful channels is placed in their histories
pub stands_kept : (decls : List Decl) (amounts : ℕ → ℕ) (tag : Tag) (plan : CheckedView) (m left : Map)
    (before after : List SeatShareView) (receipt : Receipt) → ((n : ℕ) → Contains plan.declared n → n < length decls)
    → NamesOnly plan.declared plan.steps
    → ((n : ℕ) → n < length decls → IsKnown (decl_at decls n) (amounts n) (m n))
    → RanSettled (kept_tag m tag plan.declared) plan.declared (transaction m tag plan.declared plan.steps)
    (RanKept receipt) m left
    → ((n : ℕ) → AreCommitted plan.declared m left receipt before after n)
    → IsPlacedEvent decls (seen_logs after) (seen_marks after) (record {
      seat = tag.seat;
      plan = plan;
      before = tag.stamp;
      receipt = receipt;
    })
stands_kept decls amounts tag plan m left before after receipt there names lawful ran committed =
    of (transaction m tag plan.declared plan.steps) refl ran
  where
    event : Event
    event = record { seat = tag.seat; plan = plan; before = tag.stamp; receipt = receipt }

    of : (o : Ending) → transaction m tag plan.declared plan.steps ≡ o
        → RanSettled (kept_tag m tag plan.declared) plan.declared o (RanKept receipt) m left
        → IsPlacedEvent decls (seen_logs after) (seen_marks after) event
    of (Again cause) is gave = absurd gave
    of (Aborted stop) is gave = absurd gave
    of (Kept s) is gave =
        let same : tag ≡ asked event = λ i. record {
          seat = tag.seat;
          serial = sym (ap (λ (r : Receipt). r.tag.serial) gave.0) i;
          stamp = tag.stamp;
        } in
        let kept : transaction m (asked event) plan.declared plan.steps ≡ Kept s =
        ap (λ (t : Tag). transaction m t plan.declared plan.steps) (sym same) ∙ is in
        let gives : Gives event m = record {
          state = s;
          kept = kept;
          gives = gave.0 ∙ ap (λ (t : Tag). receipt_of (kept_tag m t plan.declared) s) same;
        } in
        let is_left : left ≡ leaves event m = gave.1
        ∙ ap (λ n. settle_all s.chans n plan.declared) (sym (ap (λ (r : Receipt). r.tag.stamp) gave.0))
        ∙ ap (λ (o : Ending). left_by o m receipt.tag.stamp plan.declared) (sym kept) in
        record {
          within = λ n on. there n (among_contains plan.declared n on);
          placed = placed_now mark_tag mark_len (decl_at decls) (seen_logs after) (seen_marks after) event m left
              names gives is_left
              (λ n on.
              let inside : Contains plan.declared n = among_contains plan.declared n on in
              let known : IsKnown (decl_at decls n) (amounts n) (m n) = lawful n (there n inside) in
              let counts : CountsCommit (m n) (left n) receipt (share_at before n) (share_at after n) n
              = (committed n).inside inside in
              let put : HasItsMark (m n) (left n) receipt.tag (share_at before n).marks (share_at after n).marks
              = counts.marked in
              record {
                lawful = known.lawful;
                lawful_left = put.lawful;
                declared = known.declared;
                clean = known.clean;
                before = put.before;
                mark = record { tag = receipt.tag; len = length (left n).log };
                now = put.now;
                its = refl;
                stamp = put.stamp;
                len = put.len;
                whole = refl;
                seen = counts.log;
              });
        }

-- .. and goes on to where more is seen
pub all_stand_on : (decls : List Decl) (logs logs' : Logs) (marks marks' : ℕ → List Mark) (events : List Event)
    → SeesMore logs logs' → ((n : ℕ) → IsPrefix (marks n) (marks' n)) → ArePlacedEvents decls logs marks events
    → ArePlacedEvents decls logs' marks' events
all_stand_on decls logs logs' marks marks' events grew more all event h = record {
  within = (all event h).within;
  placed = placed_on mark_tag mark_len (decl_at decls) logs logs' marks marks' event (λ n on. grew n) (λ n on. more n)
      (all event h).placed;
}

-- the last of the stamps of receipts
last_stamped : (least last : ℕ) (receipts : List Receipt) → StampsRise least last receipts
    → last_from least (map (λ (r : Receipt). r.tag.stamp) receipts) ≡ last
last_stamped least last [] rise = rise
last_stamped least last (r ∷ receipts) rise = last_stamped r.tag.stamp last receipts rise.1

-- one more transaction of a seat
pub all_stand_push : (decls : List Decl) (logs : Logs) (marks : ℕ → List Mark) (seat stamp : ℕ)
    (plans : List CheckedView) (receipts : List Receipt) (plan : CheckedView) (receipt : Receipt)
    → length plans ≡ length receipts → StampsRise 0 stamp receipts
    → ArePlacedEvents decls logs marks (events_of seat 0 plans receipts)
    → IsPlacedEvent decls logs marks (record { seat = seat; plan = plan; before = stamp; receipt = receipt })
    → ArePlacedEvents decls logs marks (events_of seat 0 (plans ++ plan ∷ []) (receipts ++ receipt ∷ []))
all_stand_push decls logs marks seat stamp plans receipts plan receipt even rise all one event h =
    ⊎_elim
    (λ (l : Has (events_of seat 0 plans receipts) event). all event l)
    (λ (r : Has (last ∷ []) event). ⊎_elim
    (λ (e : last ≡ event). subst (IsPlacedEvent decls logs marks) e
    (subst (λ n. IsPlacedEvent decls logs marks (record {
      seat = seat;
      plan = plan;
      before = n;
      receipt = receipt;
    })) (sym (last_stamped 0 stamp receipts rise)) one))
    (λ (none : ⊥). absurd none) r)
    (has_either (events_of seat 0 plans receipts) (last ∷ []) event
    (subst (λ (l : List Event). Has l event) (events_push seat 0 plans receipts plan receipt even) h))
  where
    last : Event
    last = record {
      seat = seat;
      plan = plan;
      before = last_from 0 (map (λ (r : Receipt). r.tag.stamp) receipts);
      receipt = receipt;
    }

-- one more transaction declares a channel or does not
pub uses_push : (n : ℕ) (plans : List CheckedView) (plan : CheckedView)
    → uses_in n (plans ++ plan ∷ []) ≡ uses_in n plans + one_if (is_among plan.declared n)
uses_push n [] plan = omega arith
uses_push n (p ∷ plans) plan = omega (arith, uses_push n plans plan)
