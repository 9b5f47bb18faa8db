-- The transactions of all seats are one history of one thread.
use Rattle.std.proofs.Common.{◌≡◌, refl, sym, ◌∙◌, ap, subst, inl, inr, ◌⊎◌, ⊎_elim, ℕ, zero, suc, ◌+◌, zero-add, ◌<◌}
use Rattle.std.proofs.Common.{◌≤◌}
use Rattle.std.proofs.Common.{Some, List, [], ◌∷◌, ◌++◌, length, map, take, AllPairs, slice_get, slice_index_or}
use Rattle.std.proofs.Common.{arith}
use Rattle.std.proofs.Math.ListN.{get_or-map}
use Rattle.std.proofs.lemmas.List.{take_all}
use Rattle.std.proofs.lemmas.Option.{slice_get-get_or}
use Rattle.txc_base.specs.declared.entry.Entry.{Entry}
use Rattle.txc_base.specs.declared.tag.Tag.{Tag}
use Rattle.txc_base.specs.Channel.{Channel, opening}
use Rattle.txc_base.specs.Log.{state}
use Rattle.txc_txn_check.specs.Limits.{CheckedView}
use Rattle.txc_chan.specs.declared.account.Account.{Account}
use Rattle.txc_chan.specs.declared.decl.Decl.{Decl}
use Rattle.txc_chan.specs.ChanView.{ChanView}
use Rattle.txc_chan.specs.Logged.{opened}
use Rattle.txc_table_line.specs.Account.{IsAccount}
use Rattle.txc_table_line.specs.Line.{decl_at, no_line}
use Rattle.txc_table_line.specs.Marks.{last_len}
use Rattle.txc_table_line.specs.declared.mark.Mark.{Mark}
use Rattle.txc_table_line.proofs.Listing.{get_push}
use Rattle.txc_txn.specs.Plain.{missing}
use Rattle.txc_txn.specs.declared.receipt.Receipt.{Receipt}
use Rattle.txc_txn.specs.declared.report.Report.{Report}
use Rattle.txc_txn.specs.InLog.{Logs}
use Rattle.txc_table_report.specs.Finished.{AreTheirs}
use Rattle.txc_table_report.specs.Gathered.{AreReceiptsOfAll}
use Rattle.txc_table_seat.specs.Seated.{AreReceiptsOf, SeatCommits, StampsRise}
use Rattle.txc_txn_history.specs.Commits.{Has, Rises}
use Rattle.txc_txn_history.specs.Events.{AreInTurn, Event, IsInTurn, events_from, events_of}
use Rattle.txc_txn_history.specs.Histories.{AreHistories}
use Rattle.txc_txn_history.specs.OneOrder.{IsOneOrder, Shows}
use Rattle.txc_txn_history.specs.Placed.{channel_after, channel_or, stood}
use Rattle.txc_txn_history.specs.Seats.{AreEven, all_uses_from, uses_all}
use Rattle.txc_txn_history.proofs.Histories.{one_order}
use Rattle.txc_txn_history.proofs.Seats.{all_count}
use Rattle.txc_txn_history.proofs.Turns.{has_either}
use Rattle.txc_table_line.specs.LineChan.{LineChanView, no_channel}
use Rattle.txc_table_lines.specs.Accounted.{AreAccounts}
use Rattle.txc_table_lines.specs.Locked.{AllMarked, AreClean, MarksCount, helds_of, line_marks_of}
use Rattle.txc_table.specs.Closing.{logs_in, marks_in}
use Rattle.txc_table.specs.Finished.{AreRanBy, IsOneHistory, IsRanBy}
use Rattle.txc_table.specs.Seat.{ArePlacedEvents}
use Rattle.txc_table.proofs.Placing.{mark_len, mark_tag}

pub even_length : (plans : List (List CheckedView)) (receipts : List (List Receipt)) → AreEven plans receipts
    → length plans ≡ length receipts
even_length [] [] even = refl
even_length [] (rs ∷ receipts) even = absurd even
even_length (ps ∷ plans) [] even = absurd even
even_length (ps ∷ plans) (rs ∷ receipts) even = omega (arith, even_length plans receipts even.1)

-- marks whose stamps rise
rises_from : (x : Mark) (ms : List Mark) → ((k : ℕ) (d : Mark) → k < length ms
    → x.tag.stamp < (slice_index_or ms k d).tag.stamp) → (g : Tag) → Has (map mark_tag ms) g → x.tag.stamp < g.stamp
rises_from x [] all g h = absurd h
rises_from x (m ∷ ms) all g (inl e) = omega (arith, all 0 m (omega arith), ap (λ (t : Tag). t.stamp) e)
rises_from x (m ∷ ms) all g (inr h) = rises_from x ms (λ k d lt. all (suc k) d (omega (arith, lt))) g h

rises_of : (ms : List Mark) → AllPairs (λ one other. one.tag.stamp < other.tag.stamp) ms
    → Rises (λ (t : Tag). t.stamp) (map mark_tag ms)
rises_of [] rise = tt
rises_of (m ∷ ms) rise = (
  rises_from m ms (λ k d lt. rise 0 (suc k) d (omega arith) (omega (arith, lt))),
  rises_of ms (λ i j d lt lt'. rise (suc i) (suc j) d (omega (arith, lt)) (omega (arith, lt'))),
)

rises_at : (channels : List LineChanView) → AllMarked (helds_of channels) (line_marks_of channels) → (n : ℕ)
    → Rises (λ (t : Tag). t.stamp) (map mark_tag (marks_in channels n))
rises_at [] all n = tt
rises_at (c ∷ channels) all zero = rises_of c.marks all.0.rise
rises_at (c ∷ channels) all (suc n) = rises_at channels all.1 n

-- the log is as long as the last mark says
whole_at : (channels : List LineChanView) → AllMarked (helds_of channels) (line_marks_of channels)
    → AreClean (helds_of channels) → (n : ℕ) → length (logs_in channels n) ≤ last_len (marks_in channels n)
whole_at [] all clean n = omega arith
whole_at (c ∷ channels) all clean zero = omega (arith, all.0.len, clean 0 c.held (omega arith))
whole_at (c ∷ channels) all clean (suc n) =
    whole_at channels all.1 (λ k d lt. clean (suc k) d (omega (arith, lt))) n

-- there are no more marks than turns
counted_at : (k : ℕ) (channels : List LineChanView) (seats : List (List CheckedView))
    → MarksCount (line_marks_of channels) (all_uses_from k (length channels) seats) → (n : ℕ)
    → length (marks_in channels n) ≤ uses_all (k + n) seats
counted_at k [] seats count n = omega arith
counted_at k (c ∷ channels) seats count zero =
    let e : k ≡ k + 0 = omega arith in omega (arith, count.0, ap (λ j. uses_all j seats) e)
counted_at k (c ∷ channels) seats count (suc n) =
    let e : suc k + n ≡ k + suc n = omega arith in
    omega (arith, counted_at (suc k) channels seats count.1 n, ap (λ j. uses_all j seats) e)

-- the receipts of a seat are in turn
own_at : (seat from : ℕ) (receipts : List Receipt) → AreReceiptsOf seat from receipts → (n : ℕ) (receipt : Receipt)
    → slice_get receipts n ≡ Some receipt → (receipt.tag.seat ≡ seat) × (receipt.tag.serial ≡ from + n)
own_at seat from [] own n receipt at = absurd (cc)
own_at seat from (r ∷ receipts) own zero receipt at =
    let is : r ≡ receipt = cc in (
      sym (ap (λ (x : Receipt). x.tag.seat) is) ∙ own.0,
      omega (arith, ap (λ (x : Receipt). x.tag.serial) is, own.1),
    )
own_at seat from (r ∷ receipts) own (suc n) receipt at =
    let rest = own_at seat (suc from) receipts own.3 n receipt at in (rest.0, omega (arith, rest.1))

stamp_next : (least last : ℕ) (receipts : List Receipt) → StampsRise least last receipts → (n : ℕ)
    (one next : Receipt) → slice_get receipts n ≡ Some one → slice_get receipts (n + 1) ≡ Some next
    → one.tag.stamp ≤ next.tag.stamp
stamp_next least last [] rise n one next at at' = absurd (cc)
stamp_next least last (r ∷ []) rise zero one next at at' = absurd (cc)
stamp_next least last (r ∷ s ∷ receipts) rise zero one next at at' =
    let is : r ≡ one = cc in
    let is' : s ≡ next = cc in
    omega (arith, rise.1.0, ap (λ (x : Receipt). x.tag.stamp) is, ap (λ (x : Receipt). x.tag.stamp) is')
stamp_next least last (r ∷ receipts) rise (suc n) one next at at' =
    let e : suc (n + 1) ≡ suc n + 1 = omega arith in
    stamp_next r.tag.stamp last receipts rise.1 n one next at (ap (slice_get (r ∷ receipts)) e ∙ at')

in_turn_of : (seat last : ℕ) (receipts : List Receipt) → AreReceiptsOf seat 0 receipts → StampsRise 0 last receipts
    → IsInTurn seat receipts
in_turn_of seat last receipts own rise = record {
  own = λ k d lt. (own_at seat 0 receipts own k (slice_index_or receipts k d) (slice_get-get_or receipts k d lt)).0;
  serials = λ n one next at at'. omega (
    arith,
    (own_at seat 0 receipts own n one at).1,
    (own_at seat 0 receipts own (n + 1) next at').1,
  );
  stamps = λ n one next at at'. stamp_next 0 last receipts rise n one next at at';
}

own_from : (from : ℕ) (seats : List (List Receipt)) → AreReceiptsOfAll from seats → (n : ℕ) (own : List Receipt)
    → slice_get seats n ≡ Some own → AreReceiptsOf (from + n) 0 own
own_from from [] are n own at = absurd (cc)
own_from from (rs ∷ seats) are zero own at =
    let is : rs ≡ own = cc in
    let e : from ≡ from + 0 = omega arith in
    subst (λ k. AreReceiptsOf k 0 own) e (subst (AreReceiptsOf from 0) is are.0)
own_from from (rs ∷ seats) are (suc n) own at =
    let e : suc from + n ≡ from + suc n = omega arith in
    subst (λ k. AreReceiptsOf k 0 own) e (own_from (suc from) seats are.1 n own at)

turns_of : (left : List SeatCommits) (receipts : List (List Receipt)) → AreTheirs left receipts → AreInTurn receipts
turns_of left receipts are n own at =
    let its = are.each n own at in
    in_turn_of n its.seat.stamp own (subst (λ k. AreReceiptsOf k 0 own) (zero-add n)
    (own_from 0 receipts are.own n own at))
    its.stamps

-- the log of a channel by its number
pub log_held : (channels : List LineChanView) (n : ℕ)
    → logs_in channels n ≡ (slice_index_or (helds_of channels) n missing).logged.log
log_held channels n = ap (λ (h : ChanView). h.logged.log)
    (sym (get_or-map (λ (c : LineChanView). c.held) channels n no_channel))

-- an account shows the channel that its log leaves
shows : (decl : Decl) (amount : ℕ) (log : List Entry) (marks : List Mark) (account : Account)
    → IsAccount decl amount account → account.log ≡ log → length log ≤ last_len marks
    → Shows account (stood mark_tag mark_len decl log marks)
shows decl amount log marks account is same long =
    let whole : take (last_len marks) log ≡ log = take_all (last_len marks) log long in
    let here : account.log ≡ is.held.logged.log = ap (λ (a : Account). a.log) is.is in
    let lawful : state (Some (opening decl.kind decl.bound decl.readers)) is.held.logged.log
    ≡ Some is.held.logged.channel =
    subst (λ (d : Decl). state (Some (opening d.kind d.bound d.readers)) is.held.logged.log
    ≡ Some is.held.logged.channel) is.declared is.lawful in
    let channel : channel_after decl (take (last_len marks) log) ≡ is.held.logged.channel =
    ap (channel_after decl) (whole ∙ (sym same ∙ here))
    ∙ ap (channel_or (opening decl.kind decl.bound decl.readers)) lawful in
    record {
      closed = ap (λ (a : Account). a.closed) is.is ∙ sym (ap (λ (c : Channel). c.closed) channel);
      log = same ∙ sym whole;
      lists = ap (λ (a : Account). a.remaining) is.is ∙ sym (ap (λ (c : Channel). c.lists) channel);
    }

-- the report of a table whose seats are all back is one history
pub one_history_of : (decls : List Decl) (channels : List LineChanView) (left : List SeatCommits)
    (accounts : List Account) (receipts : List (List Receipt)) (plans : List (List CheckedView)) (made : List ℕ)
    → AreAccounts decls (helds_of channels) (length channels) accounts → AreClean (helds_of channels)
    → AllMarked (helds_of channels) (line_marks_of channels) → MarksCount (line_marks_of channels) made
    → made ≡ all_uses_from 0 (length channels) plans → AreTheirs left receipts → AreEven plans receipts
    → AreRanBy left plans → ArePlacedEvents decls (logs_in channels) (marks_in channels) (events_from 0 plans receipts)
    → IsOneHistory decls left (record { accounts = accounts; receipts = receipts })
one_history_of decls channels left accounts receipts plans made are clean all count same theirs even ran placed =
    record {
      plans = plans;
      ran = ran;
      serial = record { even = even; order = found.0; one = found.1 };
    }
  where
    report : Report
    report = record { accounts = accounts; receipts = receipts }

    histories : AreHistories mark_tag mark_len decls (decl_at decls) (logs_in channels) (marks_in channels) plans report
    histories = record {
      opening = λ n. sym (get_or-map opened decls n no_line);
      rises = rises_at channels all;
      in_turn = turns_of left receipts theirs;
      placed = λ event h. (placed event h).placed;
      counted = λ n. omega (
        arith,
        counted_at 0 channels plans (subst (MarksCount (line_marks_of channels)) same count) n,
        ap (λ k. uses_all k plans) (zero-add n),
        all_count n 0 plans receipts even,
      );
      shown = λ n account at.
          (let is = are.each n account at in
          shows (decl_at decls n) (length (slice_index_or (helds_of channels) n missing).logged.log)
          (logs_in channels n) (marks_in channels n) account is.0
          (ap (λ (a : Account). a.log) is.1 ∙ sym (log_held channels n)) (whole_at channels all clean n));
    }

    found : (order : List Event) × IsOneOrder decls plans report order
    found = one_order mark_tag mark_len decls (decl_at decls) (logs_in channels) (marks_in channels) plans report
        histories

has_left : {X : Type 0} (xs ys : List X) (x : X) → Has xs x → Has (xs ++ ys) x
has_left [] ys x h = absurd h
has_left (z ∷ xs) ys x (inl e) = inl e
has_left (z ∷ xs) ys x (inr h) = inr (has_left xs ys x h)

has_right : {X : Type 0} (xs ys : List X) (x : X) → Has ys x → Has (xs ++ ys) x
has_right [] ys x h = h
has_right (z ∷ xs) ys x h = inr (has_right xs ys x h)

pub even_push : (plans : List (List CheckedView)) (receipts : List (List Receipt)) (one : List CheckedView)
    (own : List Receipt) → AreEven plans receipts → length one ≡ length own
    → AreEven (plans ++ one ∷ []) (receipts ++ own ∷ [])
even_push [] [] one own even same = (same, tt)
even_push [] (rs ∷ receipts) one own even same = absurd even
even_push (ps ∷ plans) [] one own even same = absurd even
even_push (ps ∷ plans) (rs ∷ receipts) one own even same = (even.0, even_push plans receipts one own even.1 same)

from_push : (seat : ℕ) (plans : List (List CheckedView)) (receipts : List (List Receipt)) (one : List CheckedView)
    (own : List Receipt) → AreEven plans receipts → (event : Event)
    → Has (events_from seat (plans ++ one ∷ []) (receipts ++ own ∷ [])) event
    → Has (events_from seat plans receipts) event ⊎ Has (events_of (seat + length plans) 0 one own) event
from_push seat [] [] one own even event h =
    ⊎_elim
    (λ (l : Has (events_of seat 0 one own) event).
    let e : seat ≡ seat + 0 = omega arith in inr (subst (λ k. Has (events_of k 0 one own) event) e l))
    (λ (none : ⊥). absurd none) (has_either (events_of seat 0 one own) [] event h)
from_push seat [] (rs ∷ receipts) one own even event h = absurd even
from_push seat (ps ∷ plans) [] one own even event h = absurd even
from_push seat (ps ∷ plans) (rs ∷ receipts) one own even event h =
    ⊎_elim
    (λ (l : Has (events_of seat 0 ps rs) event).
    inl (has_left (events_of seat 0 ps rs) (events_from (suc seat) plans receipts) event l))
    (λ (r : Has (events_from (suc seat) (plans ++ one ∷ []) (receipts ++ own ∷ [])) event). ⊎_elim
    (λ a. inl (has_right (events_of seat 0 ps rs) (events_from (suc seat) plans receipts) event a))
    (λ b. let e : suc seat + length plans ≡ seat + suc (length plans) = omega arith in
    inr (subst (λ k. Has (events_of k 0 one own) event) e b))
    (from_push (suc seat) plans receipts one own even.1 event r))
    (has_either (events_of seat 0 ps rs) (events_from (suc seat) (plans ++ one ∷ []) (receipts ++ own ∷ [])) event h)

-- one seat more that is back: its transactions are placed too
pub all_stand_more : (decls : List Decl) (logs : Logs) (marks : ℕ → List Mark) (plans plans' : List (List CheckedView))
    (receipts receipts' : List (List Receipt)) (one : List CheckedView) (own : List Receipt) (number : ℕ)
    → plans' ≡ plans ++ one ∷ [] → receipts' ≡ receipts ++ own ∷ [] → AreEven plans receipts
    → number ≡ length plans → ArePlacedEvents decls logs marks (events_from 0 plans receipts)
    → ArePlacedEvents decls logs marks (events_of number 0 one own)
    → ArePlacedEvents decls logs marks (events_from 0 plans' receipts')
all_stand_more decls logs marks plans plans' receipts receipts' one own number push push' even is all last event h =
    ⊎_elim (λ (l : Has (events_from 0 plans receipts) event). all event l)
    (λ (r : Has (events_of (0 + length plans) 0 one own) event).
    last event (subst (λ k. Has (events_of k 0 one own) event) (zero-add (length plans) ∙ sym is) r))
    (from_push 0 plans receipts one own even event
    (subst (λ (rs : List (List Receipt)). Has (events_from 0 (plans ++ one ∷ []) rs) event) push'
    (subst (λ (ps : List (List CheckedView)). Has (events_from 0 ps receipts') event) push h)))

pub ran_more : (left : List SeatCommits) (plans plans' : List (List CheckedView)) (one : List CheckedView)
    → plans' ≡ plans ++ one ∷ [] → AreRanBy left plans → IsRanBy left (length plans) one → AreRanBy left plans'
ran_more left plans plans' one push ran last n own at =
    elim (get_push plans one n own (ap (λ ps. slice_get ps n) (sym push) ∙ at)) [
      | inl t ↦ ran n own t
      | inr t ↦ subst (λ k. IsRanBy left k own) (sym t.0) (subst (IsRanBy left (length plans)) t.1 last)
    ]
