-- The report of a script's threads is one history of the script's transactions.
use Rattle.std.proofs.Common.{◌≡◌, ◌∙◌, refl, sym, ap, subst, inl, inr, ℕ, suc, ◌+◌, ◌<◌, Some, List, [], ◌∷◌, ◌++◌}
use Rattle.std.proofs.Common.{append-nil, append_assoc, length, length-append, slice_get, slice_index_or, arith}
use Rattle.std.proofs.lemmas.Option.{get_or_from_slice_get, slice_get_within}
use Rattle.std.proofs.Common.{IsPermutation}
use Rattle.txc_chan.specs.declared.decl.Decl.{Decl}
use Rattle.txc_table.specs.Finished.{IsOneHistory}
use Rattle.txc_table.specs.Seat.{DepartedSeatView, commits_of}
use Rattle.txc_table.proofs.Left.{nobody}
use Rattle.txc_table.proofs.OneHistory.{even_length}
use Rattle.txc_table_report.specs.Finished.{AreTheirs}
use Rattle.txc_cmd_report.specs.declared.seat_end.SeatEnd.TheVariants.{Finished}
use Rattle.txc_txn.specs.declared.report.Report.{Report}
use Rattle.txc_txn_history.specs.OneOrder.{IsOneOrder}
use Rattle.txc_cmd_threads.specs.Pool.{HaveServed}
use Rattle.txc_cmd_threads.proofs.Back.{back_number, found}
use Rattle.txc_txn_check.specs.Limits.{CheckedView}
use Rattle.txc_table_seat.specs.Seated.{SeatCommits, no_commits, with_receipt}
use Rattle.txc_cmd_report.specs.declared.seat_end.SeatEnd.{SeatEnd}
use Rattle.txc_txn.specs.declared.receipt.Receipt.{Receipt}
use Rattle.txc_txn_history.specs.Events.{Event, events_from, events_of}
use Rattle.txc_cmd_threads.specs.Serves.{Serves}

-- a seat that served these transactions has run the first of them, one for each receipt
pub record SeatHasRun (plans : List CheckedView) (before after : SeatCommits) : Type 0 where
  pub front : List CheckedView
  pub rest : List CheckedView
  pub split : plans ≡ front ++ rest
  pub ran : after.plans ≡ before.plans ++ front
  pub counted : length after.receipts ≡ length before.receipts + length front

has_none : (plans : List CheckedView) (before after : SeatCommits) → after ≡ before → SeatHasRun plans before after
has_none plans before after same = record {
  front = [];
  rest = plans;
  split = refl;
  ran = ap (λ (s : SeatCommits). s.plans) same ∙ sym (append-nil before.plans);
  counted = omega (arith, ap (λ (s : SeatCommits). length s.receipts) same);
}

pub has_run : (lines : List Decl) (plans : List CheckedView) (before after : SeatCommits) (end : SeatEnd)
    → Serves lines plans before after end → SeatHasRun plans before after
has_run lines [] before after end s = has_none [] before after s.0
has_run lines (plan ∷ plans) before after end (inr s) = has_none (plan ∷ plans) before after s.0
has_run lines (plan ∷ plans) before after end (inl s) =
    let more : SeatHasRun plans (with_receipt before plan s.0) after = has_run lines plans
    (with_receipt before plan s.0)
    after end s.2 in
    record {
      front = plan ∷ more.front;
      rest = more.rest;
      split = ap (λ l. plan ∷ l) more.split;
      ran = more.ran ∙ append_assoc before.plans (plan ∷ []) more.front;
      counted = omega (arith, more.counted, length-append before.receipts (s.0 ∷ []));
    }

-- transactions without receipts are no events
pub events_front : (seat before : ℕ) (front rest : List CheckedView) (receipts : List Receipt)
    → length front ≡ length receipts
    → events_of seat before (front ++ rest) receipts ≡ events_of seat before front receipts
events_front seat before [] [] [] same = refl
events_front seat before [] (p ∷ rest) [] same = refl
events_front seat before [] rest (r ∷ receipts) same = absurd (omega (arith, same))
events_front seat before (p ∷ front) rest [] same = absurd (omega (arith, same))
events_front seat before (p ∷ front) rest (r ∷ receipts) same =
    ap (λ l. record { seat = seat; plan = p; before = before; receipt = r } ∷ l)
    (events_front seat r.tag.stamp front rest receipts (omega (arith, same)))

-- so the events of the script are those of what the seats ran
pub events_same : (seat : ℕ) (seats ran : List (List CheckedView)) (receipts : List (List Receipt))
    → length seats ≡ length receipts → length ran ≡ length receipts
    → ((n : ℕ) (own front : List CheckedView) (its : List Receipt) → slice_get seats n ≡ Some own
    → slice_get ran n ≡ Some front → slice_get receipts n ≡ Some its
    → events_of (seat + n) 0 own its ≡ events_of (seat + n) 0 front its)
    → events_from seat seats receipts ≡ events_from seat ran receipts
events_same seat [] [] [] many all each = refl
events_same seat [] ran (r ∷ receipts) many all each = absurd (omega (arith, many))
events_same seat (o ∷ seats) ran [] many all each = absurd (omega (arith, many))
events_same seat [] (f ∷ ran) [] many all each = absurd (omega (arith, all))
events_same seat (o ∷ seats) [] (r ∷ receipts) many all each = absurd (omega (arith, all))
events_same seat (o ∷ seats) (f ∷ ran) (r ∷ receipts) many all each =
    let e : seat + 0 ≡ seat = omega arith in
    let first : events_of seat 0 o r ≡ events_of seat 0 f r =
    subst (λ k. events_of k 0 o r ≡ events_of k 0 f r) e (each 0 o f r refl refl refl) in
    let rest : events_from (suc seat) seats receipts ≡ events_from (suc seat) ran receipts =
    events_same (suc seat) seats ran receipts (omega (arith, many)) (omega (arith, all))
    (λ n own front its at at' at''.
    let k : seat + suc n ≡ suc seat + n = omega arith in
    subst (λ j. events_of j 0 own its ≡ events_of j 0 front its) k (each (suc n) own front its at at' at'')) in
    λ i. first i ++ rest i

-- the history of what the seats ran is one of the script
pub script_history : (decls : List Decl) (plans : List (List CheckedView)) (left : List DepartedSeatView)
    (ends : List SeatEnd)
    (report : Report) → length plans ≡ length report.receipts → length left ≡ length plans
    → HaveServed decls plans left ends → AreTheirs (commits_of left) report.receipts
    → IsOneHistory decls (commits_of left) report → (order : List Event) × IsOneOrder decls plans report order
script_history decls plans left ends report many here back theirs history = (
  history.serial.order,
  record {
    is_order = record {
      in_turn = history.serial.one.is_order.in_turn;
      each_once = subst (λ (es : List Event). IsPermutation es history.serial.order)
          (sym (events_same 0 plans history.plans report.receipts many
          (even_length history.plans report.receipts history.serial.even) each))
          history.serial.one.is_order.each_once;
      sorted = history.serial.one.is_order.sorted;
    };
    is_run = history.serial.one.is_run;
  },
)
  where
    number_at : (at : ℕ) (seat : SeatCommits) (n : ℕ) → slice_get (commits_of left) at ≡ Some seat → seat.number ≡ n
        → at ≡ n
    number_at at seat n is its =
        let it = found left at seat is in
        let within : at < length plans = subst (λ m. at < m) here it.0 in
        sym (back_number decls plans left ends back at nobody within) ∙ (ap (λ (s : SeatCommits). s.number) it.1 ∙ its)

    each : (n : ℕ) (own front : List CheckedView) (its : List Receipt) → slice_get plans n ≡ Some own
        → slice_get history.plans n ≡ Some front → slice_get report.receipts n ≡ Some its
        → events_of (0 + n) 0 own its ≡ events_of (0 + n) 0 front its
    each n own front its at at' at'' =
        let by = history.ran n front at' in
        let of = theirs.each n its at'' in
        let one : slice_get (commits_of left) n ≡ Some by.seat = subst
        (λ k. slice_get (commits_of left) k ≡ Some by.seat)
        (number_at by.at by.seat n by.here by.its) by.here in
        let other : slice_get (commits_of left) n ≡ Some of.seat = subst
        (λ k. slice_get (commits_of left) k ≡ Some of.seat)
        (number_at of.at of.seat n of.here of.its) of.here in
        let same_seat : by.seat ≡ of.seat = cc (one, other) in
        let below : n < length plans = slice_get_within plans n own at in
        let serves : Serves decls own (no_commits n) by.seat (slice_index_or ends n Finished) =
        subst (λ (ps : List CheckedView). Serves decls ps (no_commits n) by.seat (slice_index_or ends n Finished))
        (get_or_from_slice_get plans n own [] at)
        (subst (λ (s : SeatCommits). Serves decls (slice_index_or plans n []) (no_commits n) s
        (slice_index_or ends n Finished)) (found left n by.seat one).1 (back n nobody below)) in
        let run : SeatHasRun own (no_commits n) by.seat = has_run decls own (no_commits n) by.seat
        (slice_index_or ends n Finished) serves in
        let is : run.front ≡ front = sym run.ran ∙ by.theirs in
        let receipts : by.seat.receipts ≡ its = ap (λ (s : SeatCommits). s.receipts) same_seat ∙ of.theirs in
        let long : length run.front ≡ length its =
        omega (arith, run.counted, ap (λ (rs : List Receipt). length rs) receipts) in
        ap (λ (ps : List CheckedView). events_of (0 + n) 0 ps its) run.split
        ∙ (events_front (0 + n) 0 run.front run.rest its long
        ∙ ap (λ (ps : List CheckedView). events_of (0 + n) 0 ps its) is)
