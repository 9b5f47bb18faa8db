-- Seats that have left their table.
use Rattle.std.proofs.Common.{◌≡◌, ◌∙◌, subst, sym, ap, ℕ, ◌<◌, List, [], length, slice_index_or}
use Rattle.std.proofs.lemmas.List.{get_or_default, get_or-map, length-map}
use Rattle.std.proofs.lemmas.List.Elements.{All-from_get_or}
use Rattle.txc_table_report.proofs.Leaving.{numbered_index}
use Rattle.txc_chan.specs.declared.decl.Decl.{Decl}
use Rattle.txc_table_report.specs.Finished.{IsReport, numbered}
use Rattle.txc_table_seat.specs.Seated.{SeatCommits, no_commits}
use Rattle.txc_txn.specs.declared.report.Report.{Report}
use Rattle.txc_table.specs.Built.{IsBuilt}
use Rattle.txc_table.specs.Seat.{AreOf, SeatView, DepartedSeatView, commits_of}
use Rattle.txc_table.specs.Table.{TableLines, TableView, decls_of}

-- some seat that has left
pub nobody : DepartedSeatView
nobody = record { commits = no_commits 0; lines = record { ledger = 0; seats = 0; all = [] } }

-- if each of these seats is of the table with these lines, then all are
pub are_of : (lines : TableLines) (left : List DepartedSeatView)
    → ((k : ℕ) (l : DepartedSeatView) → k < length left → (slice_index_or left k l).lines ≡ lines) → AreOf lines left
are_of lines left each =
    All-from_get_or (λ (seat : DepartedSeatView). seat.lines ≡ lines) left nobody (λ k below. each k nobody below)

-- what the seat at an index has committed
pub commits_at : (left : List DepartedSeatView) (k : ℕ) (l : DepartedSeatView) (s : SeatCommits) → k < length left
    → slice_index_or (commits_of left) k s ≡ (slice_index_or left k l).commits
commits_at left k l s below = get_or-map (λ (seat : DepartedSeatView). seat.commits) left k l s below

-- if each seat that has left is at its number, none is missing
pub none_missing : (seats : ℕ) (left : List DepartedSeatView) → length left ≡ seats
    → ((k : ℕ) (l : DepartedSeatView) → k < seats → (slice_index_or left k l).commits.number ≡ k) → (k : ℕ) → k < seats
    → 0 < numbered k (commits_of left)
none_missing seats left many each k below =
    let within : k < length left = subst (λ n. k < n) (sym many) below in
    let long : length (commits_of left) ≡ length left = length-map left (λ (seat : DepartedSeatView). seat.commits) in
    let here : k < length (commits_of left) = subst (λ n. k < n) (sym long) within in
    let seat : SeatCommits = slice_index_or (commits_of left) k (no_commits k) in
    numbered_index k k (commits_of left) seat here (get_or_default (commits_of left) k seat (no_commits k) here)
    (ap (λ (s : SeatCommits). s.number) (commits_at left k nobody (no_commits k) within) ∙ each k nobody below)

-- the report of a table that was made for these channels and seats
pub reports : (table : TableView) (decls : List Decl) (seats : ℕ) (made : List SeatView) (left : List DepartedSeatView)
    (report : Report) → IsBuilt decls seats table made
    → IsReport (decls_of table.lines) (length table.kinds) table.seats (commits_of left) report
    → IsReport decls (length decls) seats (commits_of left) report
reports table decls seats made left report built is =
    subst (λ m. IsReport decls (length decls) m (commits_of left) report) built.its_seats
    (subst (λ m. IsReport decls m table.seats (commits_of left) report) (ap length built.its_kinds
    ∙ length-map decls (λ decl. decl.kind))
    (subst (λ (ds : List Decl). IsReport ds (length table.kinds) table.seats (commits_of left) report)
    built.its_lines is))
