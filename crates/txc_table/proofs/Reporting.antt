-- The report of a table whose seats are back.
use Rattle.std.proofs.Common.{◌≡◌, ◌↔◌, refl, sym, ◌∙◌, ap, subst, inl, inr, ◌⊎◌, ℕ, zero, suc, ◌+◌, zero-add, ◌≤◌, ◌<◌}
use Rattle.std.proofs.Common.{Bool, Some, List, [], ◌∷◌, append-nil, length, arith, slice_get, slice_index_or}
use Rattle.std.proofs.lemmas.List.{length-map}
use Rattle.std.proofs.lemmas.Option.{slice_get_within}
use Rattle.std.proofs.lemmas.Simd.{map-map}
use mathlib.Core.List.{IsPrefix}
use Rattle.txc_base.specs.declared.kind.Kind.{Kind}
use Rattle.txc_chan.specs.declared.account.Account.{Account}
use Rattle.txc_chan.specs.declared.summary.Summary.{Summary}
use Rattle.txc_chan.specs.declared.decl.Decl.{Decl}
use Rattle.txc_chan.specs.Decls.{kinds_in}
use Rattle.txc_chan.specs.ChanView.{ChanView}
use Rattle.txc_table_report.proofs.Gathering.{gathered, get_there, none_there}
use Rattle.txc_table_report.proofs.Standing.{all_since}
use Rattle.txc_table_report.proofs.Weighing.{summed, taken_by_seats}
use Rattle.txc_table_report.specs.Finished.{AreTheirs, IsReport}
use Rattle.txc_table_report.specs.Gathered.{IsGathered, SeatsAreInLogs, count_all, log_in, logs_of, totals_from}
use Rattle.txc_table_line.specs.Account.{IsAccount}
use Rattle.txc_table_line.specs.Line.{decl_at}
use Rattle.txc_table_seat.specs.Seated.{SeatCommits}
use Rattle.txc_txn.specs.declared.receipt.Receipt.{Receipt}
use Rattle.txc_txn.specs.declared.report.Report.{Report}
use Rattle.txc_txn.specs.Plain.{missing}
use Rattle.txc_table_line.specs.LineChan.{LineChanView}
use Rattle.txc_table_line.specs.Line.{LineId}
use Rattle.txc_table_lines.specs.Accounted.{AreAccounts}
use Rattle.txc_table_lines.specs.Locked.{AreClean, LogsCount, line_decls_of as held_decls, helds_of, lines_of}
use Rattle.txc_table.specs.Closing.{CanClose, IsConsistentReport, IsConsistentSummary, logs_in}
use Rattle.txc_table.specs.Finished.{IsFinished, IsFinishedInSummary}
use Rattle.txc_table.specs.Refused.{HaveAllNumbers, AreAllSeats, IsMissing}
use Rattle.txc_table.specs.Seat.{AreOf, DepartedSeatView, commits_of}
use Rattle.txc_table.specs.Table.{IsValidTable, TableSeatsView, TableView, line_decls, decls_of, table_lines}
use Rattle.txc_table.proofs.OneHistory.{log_held}

-- the declarations of channels are those of their lines
pub declared_in : (channels : List LineChanView) → held_decls channels ≡ line_decls (lines_of channels)
declared_in channels = sym (map-map (λ (line : LineId). line.decl) (λ (c : LineChanView). c.line) channels)

-- there are as many lines as channels
pub lines_long : (channels : List LineChanView) → length (lines_of channels) ≡ length channels
lines_long channels = length-map channels (λ (c : LineChanView). c.line)

logs_at : (k m : ℕ) (helds : List ChanView) (seats : List (List Receipt)) (chan : ℕ)
    → LogsCount helds (totals_from k m seats) → chan < m
    → length (slice_index_or helds chan missing).logged.log ≡ count_all (k + chan) seats
logs_at k zero helds seats chan count l = absurd (omega (arith, l))
logs_at k (suc m) [] seats chan count l = absurd count
logs_at k (suc m) (h ∷ hs) seats zero count l = count.0 ∙ ap (λ j. count_all j seats) (omega arith)
logs_at k (suc m) (h ∷ hs) seats (suc chan) count l = logs_at (suc k) m hs seats chan count.1 (omega (arith, l))
    ∙ ap (λ j. count_all j seats) (omega arith)

with_amount : (decl : Decl) (amount amount' : ℕ) (account : Account) → IsAccount decl amount account
    → amount' ≤ length account.log → IsAccount decl amount' account
with_amount decl amount amount' account is long = record {
  held = is.held;
  is = is.is;
  lawful = is.lawful;
  declared = is.declared;
  long = long;
  laws = is.laws;
  slots = is.slots;
  stamps = is.stamps;
}

-- the accounts and the receipts of all seats are the report
pub reported : (decls : List Decl) (helds : List ChanView) (left : List SeatCommits) (accounts : List Account)
    (receipts : List (List Receipt)) (channels seats : ℕ) (amounts : List ℕ)
    → AreAccounts decls helds channels accounts → LogsCount helds amounts
    → amounts ≡ totals_from 0 channels receipts → AreTheirs left receipts
    → length receipts ≡ seats → length left ≡ seats
    → IsReport decls channels seats left (record { accounts = accounts; receipts = receipts })
reported decls helds left accounts receipts channels seats amounts are count same theirs many all = record {
  many = are.many;
  accounts = λ chan account here.
      (let at = are.each chan account here in
      let below : chan < channels = omega (arith, slice_get_within accounts chan account here, are.many) in
      let long : length account.log ≡ count_all chan receipts =
      ap (λ (a : Account). length a.log) at.1
      ∙ logs_at 0 channels helds receipts chan (subst (LogsCount helds) same count) below
      ∙ ap (λ j. count_all j receipts) (zero-add chan) in (
        with_amount (decl_at decls chan) (length (slice_index_or helds chan missing).logged.log)
            (count_all chan receipts) account at.0 (omega (arith, long)),
        long,
      ));
  seated = many;
  all = all;
  theirs = theirs;
}

-- the entries in the channels' logs are those in their accounts
pub reported_stand : (decls : List Decl) (channels : List LineChanView) (accounts : List Account)
    (seats : List (List Receipt)) → AreAccounts decls (helds_of channels) (length channels) accounts
    → SeatsAreInLogs (logs_in channels) seats → SeatsAreInLogs (logs_of accounts) seats
reported_stand decls channels accounts seats are stand s receipts here =
    all_since (logs_in channels) (logs_of accounts) since receipts (stand s receipts here)
  where
    none : (cs : List LineChanView) (n : ℕ) → length cs ≤ n → logs_in cs n ≡ []
    none [] n past = refl
    none (c ∷ cs) zero past = absurd (omega (arith, past))
    none (c ∷ cs) (suc n) past = none cs n (omega (arith, past))

    below_or : (n m : ℕ) → (n < m) ⊎ (m ≤ n)
    below_or n zero = inr (omega arith)
    below_or zero (suc m) = inl (omega arith)
    below_or (suc n) (suc m) = elim (below_or n m) [ inl t ↦ inl (omega (arith, t)) | inr t ↦ inr (omega (arith, t)) ]

    since : (n : ℕ) → IsPrefix (logs_in channels n) (logs_of accounts n)
    since n =
        elim (below_or n (length channels)) [
          | inl below ↦
              (let at = get_there accounts n (omega (arith, below, are.many)) in (
                [],
                append-nil (logs_in channels n) ∙ log_held channels n
                    ∙ sym (ap (λ (a : Account). a.log) (are.each n at.0 at.1).1) ∙ sym (ap log_in at.1),
              ))
          | inr past ↦
              subst (λ log. IsPrefix log (logs_of accounts n)) (sym (none channels n past)) (logs_of accounts n, refl)
        ]

there_or_not : (accounts : List Account) (chan : ℕ)
    → ((account : Account) × (slice_get accounts chan ≡ Some account)) ⊎ (length (logs_of accounts chan) ≡ 0)
there_or_not [] chan = inr refl
there_or_not (a ∷ rest) zero = inl (a, refl)
there_or_not (a ∷ rest) (suc chan) = there_or_not rest chan

gathers : (decls : List Decl) (channels seats : ℕ) (left : List SeatCommits) (accounts : List Account)
    (receipts : List (List Receipt))
    → IsReport decls channels seats left (record { accounts = accounts; receipts = receipts })
    → SeatsAreInLogs (logs_of accounts) receipts → IsGathered (logs_of accounts) receipts
gathers decls channels seats left accounts receipts is stand =
    gathered (logs_of accounts) receipts is.theirs.own stand
    (λ chan. elim (there_or_not accounts chan) [
      | inl t ↦ ap (λ o. length (log_in o)) t.1 ∙ (is.accounts chan t.0 t.1).1
      | inr t ↦ none_there (logs_of accounts) chan receipts stand t
    ])

-- there is a kind for each line
pub as_many_kinds : (lines : List LineId) (kinds : List Kind) → kinds ≡ kinds_in (line_decls lines)
    → length lines ≡ length kinds
as_many_kinds lines kinds declared = omega (
  arith,
  ap length declared,
  length-map (line_decls lines) (λ (decl : Decl). decl.kind),
  length-map lines (λ (line : LineId). line.decl),
)

-- the report of a table whose receipts' acts are all in its logs
pub finished : {shelves : Bool} (inside table : TableView) (left : List DepartedSeatView) (report : Report) → inside
    ≡ table
    → IsValidTable shelves inside.lines.all inside.made inside.kinds inside.seats
    → IsConsistentReport inside.lines.all inside.seats left report → IsFinished table left report
finished inside table left report is tabled standing =
    let gathered = gathers (decls_of inside.lines) (length inside.lines.all) inside.seats (commits_of left)
    report.accounts report.receipts standing.its_report standing.stand in
    subst (λ (t : TableView). IsFinished t left report) is (record {
      its_report = subst (λ n. IsReport (decls_of inside.lines) n inside.seats (commits_of left) report)
          (as_many_kinds inside.lines.all inside.kinds tabled.declared) standing.its_report;
      gathered = gathered;
      summed = summed (logs_of report.accounts) report.receipts gathered;
      once = taken_by_seats (decls_of inside.lines) (length inside.lines.all) inside.seats (commits_of left)
          report.accounts report.receipts standing.its_report gathered;
      history = standing.history;
    })

-- .. if its end is in summary
pub finished_in_brief : {shelves : Bool} (inside table : TableView) (left : List DepartedSeatView)
    (summaries : List Summary)
    → inside ≡ table → IsValidTable shelves inside.lines.all inside.made inside.kinds inside.seats
    → IsConsistentSummary inside.lines.all inside.seats left summaries → IsFinishedInSummary table left summaries
finished_in_brief inside table left summaries is tabled standing = record {
  report = standing.report;
  finished = finished inside table left standing.report is tabled standing.standing;
  summarized = standing.summarized;
}

-- a table can be closed whose seats are all back
pub can_close : {shelves : Bool} {made : List ChanView} {kinds : List Kind} (table : TableView)
    (table_seats : TableSeatsView)
    (channels : List LineChanView) (left : List DepartedSeatView)
    → table ≡ record {
      lines = table_lines table_seats (lines_of channels);
      made = made;
      kinds = kinds;
      seats = table_seats.seats;
    } → IsValidTable shelves (lines_of channels) made kinds table_seats.seats → AreClean (helds_of channels)
    → AreAllSeats table.lines table.seats left → CanClose channels table_seats left
can_close table table_seats channels left is tabled clean back = record {
  seated = tabled.seated;
  clean = clean;
  some = tabled.some;
  back = subst (λ (t : TableView). AreAllSeats t.lines t.seats left) is back;
}

-- what was found of the seats that were looked at is so of the table's
pub all_back : (many : ℕ) (table : TableView) (seen left : List DepartedSeatView) → many ≡ table.seats → seen ≡ left
    → HaveAllNumbers many (commits_of seen) → HaveAllNumbers table.seats (commits_of left)
all_back many table seen left same all back =
    subst (λ n. HaveAllNumbers n (commits_of left)) same
    (subst (λ (ss : List DepartedSeatView). HaveAllNumbers many (commits_of ss)) all back)

-- .. so they are the seats of the table
pub are_back : (many : ℕ) (table : TableView) (seen left : List DepartedSeatView) → many ≡ table.seats → seen ≡ left
    → HaveAllNumbers many (commits_of seen) → AreOf table.lines left → AreAllSeats table.lines table.seats left
are_back many table seen left same all back of = record {
  of = of;
  all = all_back many table seen left same all back;
}

-- .. and none is missing
pub not_missing : (many : ℕ) (table : TableView) (seen left : List DepartedSeatView) → many ≡ table.seats → seen ≡ left
    → HaveAllNumbers many (commits_of seen) → ⊥ ↔ IsMissing table.seats (commits_of left)
not_missing many table seen left same all back =
    let there = all_back many table seen left same all back in
    (λ no. absurd no, λ missing. omega (arith, there missing.number missing.below, missing.none))
