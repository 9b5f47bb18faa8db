-- The end of a run.
use Rattle.std.proofs.Common.{◌≡◌, ◌∙◌, subst, sym, ap, ℕ, ◌<◌, List, [], length, map}
use Rattle.std.proofs.Common.{slice_index_or}
use Rattle.std.proofs.lemmas.List.{ext_get_or, get_or-map, length-map}
use Rattle.std.proofs.lemmas.Option.{get_or_from_slice_get, slice_get-get_or, slice_get_within}
use Rattle.txc_chan.specs.declared.summary.Summary.{Summary}
use Rattle.txc_chan.specs.declared.decl.Decl.{Decl}
use Rattle.txc_txn_check.specs.Limits.{CheckedView}
use Rattle.txc_table_report.specs.Sorted.{AreTakenOnce}
use Rattle.txc_table_seat.specs.Seated.{SeatCommits}
use Rattle.txc_txn.specs.declared.report.Report.{Report}
use Rattle.txc_table.specs.Built.{IsBuilt}
use Rattle.txc_table.specs.Finished.{IsFinished, IsFinishedInSummary, IsOneHistory, IsSerialHistory}
use Rattle.txc_table.specs.Seat.{SeatView, DepartedSeatView, commits_of}
use Rattle.txc_table.specs.Refused.{AreAllSeats}
use Rattle.txc_table.specs.Table.{TableLines, TableView}
use Rattle.txc_table.proofs.Left.{are_of, none_missing, reports, commits_at}
use Rattle.txc_table.proofs.OneHistory.{even_length}
use Rattle.txc_base_threads.proofs.Added.{some_of}
use Rattle.yalwythen_work.specs.Plans.{PlansView}
use Rattle.yalwythen_work.specs.Ran.{IsRun, IsService, all_noted}

-- as many seats as a table has, each at its number, are all back
pub all_back : (lines : TableLines) (seats : ℕ) (left : List DepartedSeatView) → length left ≡ seats
    → ((k : ℕ) (l : DepartedSeatView) → k < seats → (slice_index_or left k l).commits.number ≡ k)
    → ((k : ℕ) (l : DepartedSeatView) → k < seats → (slice_index_or left k l).lines ≡ lines)
    → AreAllSeats lines seats left
all_back lines seats left many numbered of = record {
  of = are_of lines left (λ k l below. of k l (subst (λ n. k < n) many below));
  all = none_missing seats left many numbered;
}

module _ (table : TableView) (decls : List Decl) (seats : ℕ) (made : List SeatView) (left : List DepartedSeatView) where
  -- a finished table that was made for these channels and seats is one history on these channels
  pub on_declared : (report : Report) → IsBuilt decls seats table made → IsFinished table left report
      → IsOneHistory decls (commits_of left) report
  on_declared report built is =
      subst (λ (ds : List Decl). IsOneHistory ds (commits_of left) report) built.its_lines is.history

  -- .. and is that of a run
  pub concluded : (report : Report) → IsBuilt decls seats table made → IsFinished table left report
      → IsRun decls seats report
  concluded report built is = record {
    left = commits_of left;
    its_report = reports table decls seats made left report built is.its_report;
    gathered = is.gathered;
    summed = is.summed;
    once = subst (λ (ds : List Decl). AreTakenOnce ds report) built.its_lines is.once;
    history = on_declared report built is;
  }

  -- .. and these are its summaries
  pub served : (summaries : List Summary) → IsBuilt decls seats table made → IsFinishedInSummary table left summaries
      → IsService decls seats summaries
  served summaries built is = record {
    report = is.report;
    run = concluded is.report built is.finished;
    summarized = is.summarized;
  }

-- if each of these seats is at its number, a history of what they committed is one of what was noted of each
in_ledgers : (decls : List Decl) (seats : ℕ) (left : List SeatCommits) (lists : List PlansView) (report : Report)
    → IsOneHistory decls left report → length report.receipts ≡ seats → length left ≡ seats → length lists ≡ seats
    → ((k : ℕ) (d : SeatCommits) → k < seats → (slice_index_or left k d).number ≡ k)
    → ((k : ℕ) (d : SeatCommits) (b : PlansView) → k < seats
    → (slice_index_or lists k b).kept ≡ (slice_index_or left k d).plans)
    → IsSerialHistory decls (all_noted lists) report
in_ledgers decls seats left lists report history many here all each noted =
    subst (λ (ps : List (List CheckedView)). IsSerialHistory decls ps report) (sym same) history.serial
  where
    long : length (all_noted lists) ≡ length history.plans
    long = length-map lists (λ (plans : PlansView). plans.kept) ∙ all ∙ sym many
        ∙ sym (even_length history.plans report.receipts history.serial.even)

    at : (k : ℕ) → k < length (all_noted lists)
        → slice_index_or (all_noted lists) k [] ≡ slice_index_or history.plans k []
    at k below =
        let in_all : k < length lists = subst (λ n. k < n) (length-map lists (λ (plans : PlansView). plans.kept))
        below in
        let within : k < seats = subst (λ n. k < n) all in_all in
        let in_plans : k < length history.plans = subst (λ n. k < n) long below in
        let by = history.ran k (slice_index_or history.plans k []) (slice_get-get_or history.plans k [] in_plans) in
        let at_seats : by.at < seats = subst (λ n. by.at < n) here (slice_get_within left by.at by.seat by.here) in
        let found : slice_index_or left by.at by.seat ≡ by.seat =
        get_or_from_slice_get left by.at by.seat by.seat by.here in
        let number : by.at ≡ k = sym (each by.at by.seat at_seats) ∙ ap (λ (s : SeatCommits). s.number) found
        ∙ by.its in
        let is : slice_index_or left k by.seat ≡ by.seat =
        subst (λ n. slice_index_or left n by.seat ≡ by.seat) number found in
        let d : PlansView = some_of lists k in_all in
        get_or-map (λ (plans : PlansView). plans.kept) lists k d [] in_all
        ∙ noted k by.seat d within ∙ ap (λ (s : SeatCommits). s.plans) is ∙ by.theirs

    same : all_noted lists ≡ history.plans
    same = ext_get_or [] (all_noted lists) history.plans long at

-- .. also if the seats have left a table
pub serial : (decls : List Decl) (seats : ℕ) (left : List DepartedSeatView) (lists : List PlansView) (report : Report)
    → IsOneHistory decls (commits_of left) report → length report.receipts ≡ seats → length left ≡ seats
    → length lists ≡ seats
    → ((k : ℕ) (l : DepartedSeatView) → k < seats → (slice_index_or left k l).commits.number ≡ k)
    → ((k : ℕ) (l : DepartedSeatView) (b : PlansView) → k < seats
    → (slice_index_or lists k b).kept ≡ (slice_index_or left k l).commits.plans)
    → IsSerialHistory decls (all_noted lists) report
serial decls seats left lists report history many here all each noted =
    in_ledgers decls seats (commits_of left) lists report history many
    (length-map left (λ (seat : DepartedSeatView). seat.commits) ∙ here) all
    (λ k d below. let within : k < length left = subst (λ n. k < n) (sym here) below in
    let l : DepartedSeatView = some_of left k within in
    ap (λ (s : SeatCommits). s.number) (commits_at left k l d within) ∙ each k l below)
    (λ k d b below. let within : k < length left = subst (λ n. k < n) (sym here) below in
    let l : DepartedSeatView = some_of left k within in
    noted k l b below ∙ ap (λ (s : SeatCommits). s.plans) (sym (commits_at left k l d within)))
