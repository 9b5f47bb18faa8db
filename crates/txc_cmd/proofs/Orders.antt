-- What the threads of a script come to is the report of some order of its transactions.
use Rattle.std.proofs.Common.{◌≡◌, refl, sym, ◌∙◌, ap, subst, inl, inr, ⊎_elim, ℕ, zero, suc, ◌+◌, ◌<◌, ◌≤◌, All}
use Rattle.std.proofs.Common.{Option, List, [], ◌∷◌, ◌++◌, append-nil, length, length-append, length-drop, map, drop}
use Rattle.std.proofs.Common.{slice_get, slice_index_or, arith, zero-add}
use Rattle.std.proofs.lemmas.List.{get_or-map, get_or_default, length-map, same_lists}
use Rattle.std.proofs.lemmas.List.Elements.{All-tail}
use Rattle.std.proofs.lemmas.List.Sorted.{IsPermutation-sym}
use Rattle.std.proofs.lemmas.Option.{slice_get-get_or}
use Rattle.txc_base.specs.declared.kind.Kind.{Kind}
use Rattle.txc_chan.specs.declared.decl.Decl.{Decl}
use Rattle.txc_chan.specs.Decls.{kinds_in}
use Rattle.txc_txn_check.specs.Steps.{Fits}
use Rattle.txc_txn.specs.declared.receipt.Receipt.{Receipt}
use Rattle.txc_txn.specs.Limits.{CheckedView}
use Rattle.txc_txn.specs.Maps.{Map}
use Rattle.txc_txn.specs.Opening.{opening_map}
use Rattle.txc_table_report.specs.Finished.{AreTheirs}
use Rattle.txc_table_report.specs.Gathered.{AreReceiptsOfAll, count_all}
use Rattle.txc_txn_history.specs.Commits.{Has}
use Rattle.txc_txn_history.specs.Events.{Event, events_from, events_of}
use Rattle.txc_txn_history.specs.OneOrder.{IsOneOrder, IsOrder}
use Rattle.txc_txn_history.proofs.Turns.{has_either}
use Rattle.txc_table.specs.Seat.{commits_of}
use Rattle.txc_table_seat.specs.Seated.{AreReceiptsOf, SeatCommits, no_commits, with_receipt}
use Rattle.txc_cmd_report.specs.declared.outcome.Outcome.{Outcome as Ran}
use Rattle.txc_cmd_report.specs.declared.seat_end.SeatEnd.{SeatEnd}
use Rattle.txc_cmd_report.specs.declared.seat_end.SeatEnd.TheVariants.{Finished, Stalled, Stopped}
use Rattle.txc_cmd_report.specs.Outcome.{account_in, outcome_of, without_slots}
use Rattle.txc_cmd_replay.specs.Rounds.{Round, SeatProgress, accounts_from, last_stamp, untried}
use Rattle.txc_cmd_script.specs.Script.{IsSound, Script}
use Rattle.txc_cmd_threads.specs.Ran.{IsRan}
use Rattle.txc_cmd_threads.specs.Serves.{Serves}
use Rattle.txc_cmd_answer.specs.Answer.{Answer, reported}
use Rattle.txc_cmd.specs.Answer.{ComesOf}
use Rattle.txc_cmd.specs.InOrder.{IsOfSomeOrder, MayEnd, last_turn}
use Rattle.txc_cmd.proofs.InOrder.{ArePlacedEvents, Stands, Turned, turned}
use Rattle.txc_cmd.proofs.Accounts.{account_is, same_accounts}
use Rattle.txc_cmd.proofs.Lawful.{AreTrue, opening_true, runs_true}
use Rattle.txc_cmd.proofs.SeatOrder.{has_permuted, of_seat, own_order, within}

-- a seat that served these transactions has kept all of them, or ends by the next one
pub may_end : (lines : List Decl) (plans : List CheckedView) (before after : SeatCommits) (end : SeatEnd)
    → Serves lines plans before after end
    → MayEnd (length before.receipts + length plans) (length after.receipts) end
may_end lines [] before after end s =
    subst (λ e. MayEnd (length before.receipts + 0) (length after.receipts) e) (sym s.1)
    (omega (arith, ap (λ (x : SeatCommits). length x.receipts) s.0))
may_end lines (plan ∷ plans) before after end (inl s) =
    let one : length (before.receipts ++ s.0 ∷ []) + length plans ≡ length before.receipts + suc (length plans) =
    omega (arith, length-append before.receipts (s.0 ∷ [])) in
    subst (λ k. MayEnd k (length after.receipts) end) one
    (may_end lines plans (with_receipt before plan s.0) after end s.2)
may_end lines (plan ∷ plans) before after Finished (inr s) = absurd s.1
may_end lines (plan ∷ plans) before after (Stalled cause) (inr s) =
    omega (arith, ap (λ (x : SeatCommits). length x.receipts) s.0)
may_end lines (plan ∷ plans) before after (Stopped stop) (inr s) =
    omega (arith, ap (λ (x : SeatCommits). length x.receipts) s.0)

-- it has kept no more than there are
at_most : (all kept : ℕ) (end : SeatEnd) → MayEnd all kept end → kept ≤ all
at_most all kept Finished ends = omega (arith, ends)
at_most all kept (Stalled cause) ends = omega (arith, ends)
at_most all kept (Stopped stop) ends = omega (arith, ends)

-- the receipts of a seat are its own
own_at : (seat n : ℕ) (receipts : List (List Receipt)) → AreReceiptsOfAll seat receipts → n < length receipts
    → AreReceiptsOf (seat + n) 0 (slice_index_or receipts n [])
own_at seat n [] own lt = absurd (omega (arith, lt))
own_at seat zero (its ∷ receipts) own lt = let e : seat ≡ seat
    + 0 = omega arith in subst (λ k. AreReceiptsOf k 0 its) e own.0
own_at seat (suc n) (its ∷ receipts) own lt =
    let e : suc seat + n ≡ seat + suc n = omega arith in
    subst (λ k. AreReceiptsOf k 0 (slice_index_or receipts n [])) e
    (own_at (suc seat) n receipts own.1 (omega (arith, lt)))

-- before the first event each seat has done nothing
stand_first : (seats : List (List CheckedView)) (receipts : List (List Receipt)) (left : List SeatCommits)
    (order : List Event)
    → length receipts ≡ length seats → AreTheirs left receipts → IsOrder seats receipts order
    → ArePlacedEvents seats receipts (map (λ plans. untried) seats) order
stand_first seats receipts left order many theirs is = record {
  many = length-map seats (λ plans. untried);
  within = λ e h. subst (λ k. e.seat < k) (zero-add (length seats)) (within 0 seats receipts e
      (has_permuted order (events_from 0 seats receipts) e
      (IsPermutation-sym (events_from 0 seats receipts) order is.each_once) h));
  each = λ n lt.
      let here : n < length receipts = omega (arith, many, lt) in
      let it = theirs.each n (slice_index_or receipts n []) (slice_get-get_or receipts n [] here) in
      subst (λ s. Stands n (slice_index_or seats n []) (slice_index_or receipts n []) s (of_seat n order))
      (sym (get_or-map (λ plans. untried) seats n [] untried lt)) (record {
        later = slice_index_or receipts n [];
        split = refl;
        going = refl;
        its = own_order seats receipts order n it.seat.stamp is lt here it.stamps;
        own = subst (λ k. AreReceiptsOf k 0 (slice_index_or receipts n [])) (zero-add n)
            (own_at 0 n receipts theirs.own here);
      });
}

-- after the last one it has all its receipts
done_of : (seat before : ℕ) (plans left : List CheckedView) (receipts its later : List Receipt)
    → length receipts ≤ length plans → drop (length its) plans ≡ left → receipts ≡ its ++ later
    → [] ≡ events_of seat before left later → its ≡ receipts
done_of seat before plans left receipts its [] most dropped split none = sym (split ∙ append-nil its)
done_of seat before plans [] receipts its (r ∷ later) most dropped split none =
    absurd (omega (
      arith,
      most,
      ap (λ (l : List Receipt). length l) split,
      length-append its (r ∷ later),
      ap (λ (l : List CheckedView). length l) dropped,
      length-drop (length its) plans,
    ))
done_of seat before plans (p ∷ left) receipts its (r ∷ later) most dropped split none = absurd (cc)

-- so have all
all_done : (seats : List (List CheckedView)) (receipts : List (List Receipt)) (after : List SeatProgress)
    → length receipts ≡ length seats
    → ((n : ℕ) → n < length seats → length (slice_index_or receipts n []) ≤ length (slice_index_or seats n []))
    → ArePlacedEvents seats receipts after [] → receipts ≡ map (λ (s : SeatProgress). s.receipts) after
all_done seats receipts after many most all =
    same_lists receipts (map (λ (s : SeatProgress). s.receipts) after)
    (omega (arith, many, all.many, length-map after (λ (s : SeatProgress). s.receipts)))
    (λ k d lt.
    let here : k < length after = omega (arith, many, all.many, lt) in
    let there : k < length seats = omega (arith, many, lt) in
    let stand = all.each k there in
    get_or_default receipts k d [] lt
    ∙ (sym (done_of k (last_stamp (slice_index_or after k untried).receipts) (slice_index_or seats k [])
    (drop (length (slice_index_or after k untried).receipts) (slice_index_or seats k [])) (slice_index_or receipts k [])
    (slice_index_or after k untried).receipts stand.later (most k there) refl stand.split stand.its)
    ∙ sym (get_or-map (λ (s : SeatProgress). s.receipts) after k untried d here)))

-- the events of a seat whose transactions fit do
seat_fits : (kinds : ℕ → Option Kind) (seat before : ℕ) (plans : List CheckedView) (receipts : List Receipt) (e : Event)
    → All (λ (plan : CheckedView). Fits kinds plan.steps) plans → Has (events_of seat before plans receipts) e
    → Fits kinds e.plan.steps
seat_fits kinds seat before [] receipts e fits h = absurd h
seat_fits kinds seat before (plan ∷ plans) [] e fits h = absurd h
seat_fits kinds seat before (plan ∷ plans) (r ∷ receipts) e fits (inl is) =
    subst (λ (x : Event). Fits kinds x.plan.steps) is (fits 0 plan (omega arith))
seat_fits kinds seat before (plan ∷ plans) (r ∷ receipts) e fits (inr h) =
    seat_fits kinds seat r.tag.stamp plans receipts e
    (All-tail (λ (p : CheckedView). Fits kinds p.steps) plan plans fits) h

-- so do those of all seats
all_fit : (kinds : ℕ → Option Kind) (first : ℕ) (seats : List (List CheckedView)) (receipts : List (List Receipt))
    (e : Event) → All (All (λ (plan : CheckedView). Fits kinds plan.steps)) seats
    → Has (events_from first seats receipts) e
    → Fits kinds e.plan.steps
all_fit kinds first [] receipts e fits h = absurd h
all_fit kinds first (plans ∷ seats) [] e fits h = absurd h
all_fit kinds first (plans ∷ seats) (own ∷ receipts) e fits h =
    ⊎_elim
    (λ (l : Has (events_of first 0 plans own) e). seat_fits kinds first 0 plans own e (fits 0 plans (omega arith)) l)
    (λ (r : Has (events_from (suc first) seats receipts) e). all_fit kinds (suc first) seats receipts e
    (All-tail (All (λ (plan : CheckedView). Fits kinds plan.steps)) plans seats fits) r)
    (has_either (events_of first 0 plans own) (events_from (suc first) seats receipts) e h)

-- what the threads came to is what the script comes to in some order
pub of_some_order : (script : Script) (outcome : Ran) → IsSound script → IsRan script.decls script.seats outcome
    → IsOfSomeOrder script (outcome_of outcome)
of_some_order script outcome sound ran = record {
  order = order;
  kept = ap (λ (r : Round). r.kept) comes.comes;
  same = λ i. record { accounts = accounts i; receipts = receipts i; ends = outcome.ends };
  ends = ends;
}
  where
    events : List Event
    events = ran.history.0

    order : List ℕ
    order = map (λ (e : Event). e.seat) events

    one : IsOneOrder script.decls script.seats outcome.report events
    one = ran.history.1

    left : Map
    left = one.is_run.left

    ends : (n : ℕ) → n < length script.seats → MayEnd (length (slice_index_or script.seats n []))
        (length (slice_index_or outcome.report.receipts n [])) (slice_index_or outcome.ends n Finished)
    ends n lt =
        let served = ran.served n lt in
        subst (λ (rs : List Receipt). MayEnd (length (slice_index_or script.seats n [])) (length rs)
        (slice_index_or outcome.ends n Finished)) served.its
        (subst (λ k. MayEnd k (length served.after.receipts) (slice_index_or outcome.ends n Finished))
        (zero-add (length (slice_index_or script.seats n [])))
        (may_end script.decls (slice_index_or script.seats n []) (no_commits n) served.after
        (slice_index_or outcome.ends n Finished) served.serves))

    comes : Turned script.seats outcome.report.receipts (opening_map script.decls) left events
        (map (λ plans. untried) script.seats)
    comes = turned script.seats outcome.report.receipts (opening_map script.decls) left events
        (map (λ plans. untried) script.seats)
        (stand_first script.seats outcome.report.receipts (commits_of ran.left) events ran.report.seated
        ran.report.theirs one.is_order) one.is_run.runs

    receipts : outcome.report.receipts ≡ map (λ (s : SeatProgress). s.receipts) (last_turn script order).progress
    receipts = all_done script.seats outcome.report.receipts comes.after ran.report.seated
        (λ n lt. at_most (length (slice_index_or script.seats n []))
        (length (slice_index_or outcome.report.receipts n [])) (slice_index_or outcome.ends n Finished) (ends n lt))
        comes.stand
        ∙ sym (ap (λ (r : Round). map (λ (s : SeatProgress). s.receipts) r.progress) comes.comes)

    so : AreTrue script.decls left
    so = runs_true script.decls (opening_map script.decls) left events
        (λ e h. all_fit (slice_get (kinds_in script.decls)) 0 script.seats outcome.report.receipts e sound.fits
        (has_permuted events (events_from 0 script.seats outcome.report.receipts) e
        (IsPermutation-sym (events_from 0 script.seats outcome.report.receipts) events one.is_order.each_once) h))
        one.is_run.runs (opening_true script.decls)

    accounts : map without_slots outcome.report.accounts ≡ accounts_from 0 script.decls (last_turn script order).chans
    accounts = same_accounts 0 script.decls outcome.report.accounts left ran.report.many
        (λ n decl account at at'. subst (λ k. without_slots account ≡ account_in (left k)) (sym (zero-add n))
        (account_is script.decls n (count_all n outcome.report.receipts) decl account (left n) at
        (ran.report.accounts n account at').0 (one.is_run.tells n account at') (so n decl at)))
        ∙ sym (ap (λ (r : Round). accounts_from 0 script.decls r.chans) comes.comes)

-- so its report may be answered
pub comes_of : (script : Script) (outcome : Ran) (answer : Answer) → IsSound script
    → IsRan script.decls script.seats outcome → answer ≡ reported (outcome_of outcome) → ComesOf script answer
comes_of script outcome answer sound ran is = inl (outcome, ran, of_some_order script outcome sound ran, is)
