-- The model of a seat, told by its shares.
use Rattle.std.proofs.Common.{◌≡◌, ◌∙◌, sym, ap, subst, ℕ, List, [], length, map, slice_index_or}
use Rattle.std.proofs.Math.ListN.{get_or-map}
use Rattle.std.proofs.lemmas.List.{length-map, map-id}
use Rattle.std.proofs.lemmas.Simd.{map-map}
use Rattle.txc_base.specs.declared.entry.Entry.{Entry}
use Rattle.txc_table_line.specs.Line.{decl_at}
use Rattle.txc_txn.specs.InLog.{Logs}
use Rattle.txc_table_report.specs.Gathered.{ReceiptsAreInLogs}
use Rattle.txc_table_seat.specs.Seated.{SeatCommits, no_commits}
use Rattle.txc_table_line.specs.Line.{LineId}
use Rattle.txc_table_line.specs.SeatShare.{SeatShareView}
use Rattle.txc_table_lines.specs.Lines.{OnlyGrew, fresh_share, line_ids, no_share, share_at}
use Rattle.txc_table.specs.Seat.{SeatView, IsSeated, SeesMore, log_at, new_seat, seen_at}
use Rattle.txc_table.specs.Seat.{seen_in, seen_logs}
use Rattle.txc_table.specs.Table.{TableLines, line_decls}

-- what a seat has seen of each log is what its share of the line has
pub seen_is : (shares : List SeatShareView) → log_at (seen_in shares) ≡ seen_logs shares
seen_is shares = λ i n. get_or-map (λ (share : SeatShareView). share.log) shares n no_share i

-- the declaration of a line is that of the share
pub decl_is : (shares : List SeatShareView) (n : ℕ)
    → decl_at (line_decls (line_ids shares)) n ≡ (share_at shares n).line.decl
decl_is shares n = get_or-map (λ (line : LineId). line.decl) (line_ids shares) n no_share.line
    ∙ ap (λ (line : LineId). line.decl) (get_or-map (λ (share : SeatShareView). share.line) shares n no_share)

-- there are as many declarations as shares of lines
pub decls_long : (shares : List SeatShareView) (lines : List LineId) → line_ids shares ≡ lines
    → length (line_decls lines) ≡ length shares
decls_long shares lines of = length-map lines (λ (line : LineId). line.decl) ∙ ap length (sym of)
    ∙ length-map shares (λ (share : SeatShareView). share.line)

-- each fresh share counts nothing
fresh_at : (shares : List SeatShareView) (lines : List LineId) (n : ℕ) → shares ≡ map fresh_share lines
    → share_at shares n ≡ fresh_share (slice_index_or lines n no_share.line)
fresh_at shares lines n fresh = ap (λ (all : List SeatShareView). share_at all n) fresh
    ∙ get_or-map fresh_share lines n no_share.line

-- fresh shares are of the lines that they were made for
fresh_lines : (lines : List LineId) → line_ids (map fresh_share lines) ≡ lines
fresh_lines lines = map-map (λ (share : SeatShareView). share.line) fresh_share lines ∙ map-id lines

-- .. and are fresh shares of their own lines
pub fresh_own : (shares : List SeatShareView) (lines : List LineId) → shares ≡ map fresh_share lines
    → shares ≡ map fresh_share (line_ids shares)
fresh_own shares lines fresh = fresh ∙ ap (map fresh_share) (sym (ap line_ids fresh ∙ fresh_lines lines))

-- a seat that is new on the lines of such shares is new on these lines
pub new_on : (ledger many : ℕ) (shares : List SeatShareView) (lines : List LineId) (number : ℕ) (seat : SeatView)
    → shares ≡ map fresh_share lines
    → seat ≡ new_seat (record { ledger = ledger; seats = many; all = line_ids shares }) number
    → seat ≡ new_seat (record { ledger = ledger; seats = many; all = lines }) number
new_on ledger many shares lines number seat fresh new = new
    ∙ ap (λ (ls : List LineId). new_seat (record { ledger = ledger; seats = many; all = ls }) number)
    (ap line_ids fresh ∙ fresh_lines lines)

-- fresh shares are those of a seat that has committed nothing
pub new_seated : {channels parts : ℕ} (shares : List SeatShareView) (number : ℕ) (commits : SeatCommits)
    → shares ≡ map fresh_share (line_ids shares) → commits ≡ no_commits number → channels ≡ length shares → parts ≡ 1
    → IsSeated shares commits channels parts
new_seated {channels} {parts} shares number commits fresh new each part =
    subst (λ (s : SeatCommits). IsSeated shares s channels parts) (sym new) (record {
      counted = λ n. ap (λ (share : SeatShareView). share.amount) (fresh_at shares (line_ids shares) n fresh);
      stand = λ n receipt here. absurd (cc);
      made = λ n. ap (λ (share : SeatShareView). share.made) (fresh_at shares (line_ids shares) n fresh);
      placed = λ event h. absurd h;
      each = each;
      part = part;
    })

-- what a new seat has seen of each line
abbrev unseen : List LineId → List (List Entry)
unseen lines = map (λ line. []) lines

-- such a seat is new
pub new_is : (lines : TableLines) (shares : List SeatShareView) (number : ℕ) (commits : SeatCommits)
    → lines.all ≡ line_ids shares
    → shares ≡ map fresh_share (line_ids shares) → commits ≡ no_commits number
    → record { commits = commits; lines = lines; seen = seen_in shares } ≡ new_seat lines number
new_is lines shares number commits of fresh new =
    let seen = ap seen_in fresh ∙ map-map (λ (share : SeatShareView). share.log) fresh_share (line_ids shares)
    ∙ ap unseen (sym of) in
    λ i. record { commits = new i; lines = lines; seen = seen i }

-- what is so by a seat's shares is so by its view
pub seen_by : (P : Logs → Type 0) (shares : List SeatShareView) → P (seen_logs shares) → P (log_at (seen_in shares))
seen_by P shares is = subst P (sym (seen_is shares)) is

-- shares that only grew are those of a seat that sees more
pub sees_by : (before after : List SeatShareView) → OnlyGrew before after
    → SeesMore (log_at (seen_in before)) (log_at (seen_in after))
sees_by before after grew =
    seen_by (λ logs. SeesMore logs (log_at (seen_in after))) before
    (seen_by (SeesMore (seen_logs before)) after grew)

-- the acts of a seat are the entries at their places in what it has seen
pub stand_by : {lines : TableLines} {channels parts : ℕ} (shares : List SeatShareView) (commits : SeatCommits)
    (seat : SeatView)
    → record { commits = commits; lines = lines; seen = seen_in shares } ≡ seat
    → IsSeated shares commits channels parts
    → ReceiptsAreInLogs (seen_at seat) seat.commits.receipts
stand_by shares commits seat view seated =
    subst (λ (s : SeatView). ReceiptsAreInLogs (seen_at s) s.commits.receipts) view
    (seen_by (λ logs. ReceiptsAreInLogs logs commits.receipts) shares seated.stand)
