-- The model of a seat.
use Rattle.std.specs.Prelude.{◌≡◌, ℕ, ◌<◌, zero, suc, true, List, [], ◌∷◌, ◌++◌, Some, map, length, slice_get}
use Rattle.std.specs.Prelude.{All, slice_index_or}
use mathlib.Core.List.{IsPrefix}
use Rattle.txc_base.specs.declared.entry.Entry.{Entry}
use Rattle.txc_chan.specs.declared.account.Account.{Account}
use Rattle.txc_chan.specs.declared.decl.Decl.{Decl}
use Rattle.txc_table_line.specs.Account.{IsAccount}
use Rattle.txc_table_line.specs.Line.{decl_at}
use Rattle.txc_table_line.specs.declared.mark.Mark.{Mark}
use Rattle.txc_txn.specs.declared.deed.Deed.{Deed}
use Rattle.txc_txn.specs.declared.receipt.Receipt.{Receipt}
use Rattle.txc_txn.specs.InLog.{Logs}
use Rattle.txc_table_report.specs.Gathered.{ReceiptsAreInLogs}
use Rattle.txc_table_seat.specs.Seated.{HistoryView, SeatCommits, count, no_commits}
use Rattle.txc_txn_history.specs.Commits.{Has}
use Rattle.txc_txn_history.specs.Events.{Event, events_of}
use Rattle.txc_txn_history.specs.Placed.{IsPlacedIn, is_among}
use Rattle.txc_txn_history.specs.Seats.{uses_in}
use Rattle.txc_table_line.specs.SeatShare.{SeatShareView}
use Rattle.txc_table_lines.specs.Lines.{line_ids, share_at}
use Rattle.txc_table.specs.Table.{TableLines, line_decls, decls_of}

-- a seat: what it has committed, the lines of its table, and what it has seen of the log of each line
pub record SeatView : Type 0 where
  pub commits : SeatCommits
  pub lines : TableLines
  pub seen : List (List Entry)

-- a seat that has left its table: what it has committed, and the lines of the table
pub record DepartedSeatView : Type 0 where
  pub commits : SeatCommits
  pub lines : TableLines

-- what each of these seats has committed
abbrev pub commits_of : List DepartedSeatView → List SeatCommits
commits_of left = map (λ seat. seat.commits) left

-- each of these seats is of the table with these lines
abbrev pub AreOf : TableLines → List DepartedSeatView → Type 0
AreOf lines left = All (λ seat. seat.lines ≡ lines) left

-- what was seen of each log, as a list
abbrev pub seen_in : List SeatShareView → List (List Entry)
seen_in shares = map (λ share. share.log) shares

-- the log with each number
abbrev pub log_at : List (List Entry) → Logs
log_at logs n = slice_index_or logs n []

-- what a seat has seen of the log of each channel
abbrev pub seen_at : SeatView → Logs
seen_at seat = log_at seat.seen

-- a seat of the table with these lines that has this number, has committed nothing and has seen no entry
abbrev pub new_seat : TableLines → ℕ → SeatView
new_seat lines number = record { commits = no_commits number; lines = lines; seen = map (λ line. []) lines.all }

-- this number of new seats, numbered from 0
abbrev pub new_seats : TableLines → ℕ → List SeatView
new_seats lines zero = []
new_seats lines (suc n) = new_seats lines n ++ new_seat lines n ∷ []

-- these are the histories of new seats of a table with this number of channels, numbered from this one on
abbrev pub AreNewHistories : ℕ → ℕ → List HistoryView → Type 0
AreNewHistories number channels [] = Unit {0}
AreNewHistories number channels (one ∷ ones) =
    (one.commits ≡ no_commits number) × (one.channels ≡ channels) × AreNewHistories (suc number) channels ones

-- what was seen of each log begins with what had been seen of it
abbrev pub SeesMore : Logs → Logs → Type 0
SeesMore before after = (n : ℕ) → IsPrefix (before n) (after n)

-- what the seat with these shares has seen of the log of each channel
abbrev pub seen_logs : List SeatShareView → Logs
seen_logs shares n = (share_at shares n).log

-- what the seat with these shares has seen of the marks of each channel
abbrev pub seen_marks : List SeatShareView → ℕ → List Mark
seen_marks shares n = (share_at shares n).marks

-- the transaction of an event names only these channels and is placed in the seen part of their histories
pub record IsPlacedEvent (decls : List Decl) (logs : Logs) (marks : ℕ → List Mark) (event : Event) : Type 0 where
  pub within : (n : ℕ) → is_among event.plan.declared n ≡ true → n < length decls
  pub placed : IsPlacedIn (λ (mark : Mark). mark.tag) (λ (mark : Mark). mark.len) (decl_at decls) logs marks event

-- `IsPlacedEvent` holds for each of these events
abbrev pub ArePlacedEvents : List Decl → Logs → (ℕ → List Mark) → List Event → Type 0
ArePlacedEvents decls logs marks events = (event : Event) → Has events event → IsPlacedEvent decls logs marks event

-- each transaction that a seat committed is placed in the histories of its channels: it gave its receipt on channels as
-- declared, whose logs the seat has since seen, and it left each declared channel with the receipt's stamp
abbrev pub AllPlaced : SeatView → Type 0
AllPlaced seat = (marks : ℕ → List Mark) × ArePlacedEvents (decls_of seat.lines) (seen_at seat) marks
    (events_of seat.commits.number 0 seat.commits.plans seat.commits.receipts)

-- the invariant of a seat with these shares, counts of this number of channels, and this number of parts of its table's
-- own ledger: the shares count its acts, and each act is the entry at its place in what the seat has seen of the logs;
-- they count its transactions, and each transaction is placed in the histories of its channels
pub record IsSeated (shares : List SeatShareView) (commits : SeatCommits) (channels parts : ℕ) : Type 0 where
  pub counted : (n : ℕ) → (share_at shares n).amount ≡ count n commits.receipts
  pub stand : ReceiptsAreInLogs (seen_logs shares) commits.receipts
  pub made : (n : ℕ) → (share_at shares n).made ≡ uses_in n commits.plans
  pub placed : ArePlacedEvents (line_decls (line_ids shares)) (seen_logs shares) (seen_marks shares)
      (events_of commits.number 0 commits.plans commits.receipts)
  pub each : channels ≡ length shares
  pub part : parts ≡ 1

-- each act of these receipts in a channel is the entry at its place of this log
abbrev pub IsInLogAt : ℕ → List Entry → List Receipt → Type 0
IsInLogAt chan log receipts = (n : ℕ) (receipt : Receipt) → slice_get receipts n ≡ Some receipt
    → (i : ℕ) (deed : Deed) → slice_get receipt.acts i ≡ Some deed → deed.chan ≡ chan
    → slice_get log deed.place ≡ Some (record { tag = receipt.tag; act = deed.act })

-- an account of one of these channels that a seat gets: it is lawful, its log is no shorter than the seat's share, its
-- log begins with what the seat has seen of it, and its log has the seat's acts
pub record IsAccountTo (seat : SeatView) (decls : List Decl) (chan : ℕ) (account : Account) : Type 0 where
  pub lawful : IsAccount (decl_at decls chan) (count chan seat.commits.receipts) account
  pub since : IsPrefix (seen_at seat chan) account.log
  pub stand : IsInLogAt chan account.log seat.commits.receipts
