-- What a seat has of the lines after an attempt, and what it learns of a channel.
use Rattle.std.proofs.Common.{◌≡◌, refl, sym, ◌∙◌, ap, subst, inl, inr, ℕ, zero, suc, ◌+◌, ◌≤◌, ◌<◌, Bool, true}
use Rattle.std.proofs.Common.{false, List, []}
use Rattle.std.proofs.Common.{◌∷◌, ◌++◌, append-nil, append_assoc, length, arith, Contains, Result, Ok, Err, IfOk}
use Rattle.std.proofs.Common.{All, Some, slice_get}
use Rattle.std.proofs.lemmas.List.{length-map}
use Rattle.std.proofs.lemmas.Option.{slice_get-get_or}
use mathlib.Core.List.{IsPrefix}
use Rattle.txc_base.specs.declared.entry.Entry.{Entry}
use Rattle.txc_base.specs.declared.limits.TheConstants.{GREATEST_NUMBER}
use Rattle.txc_base.specs.declared.stop.Stop.{Stop}
use Rattle.txc_base.specs.declared.tag.Tag.{Tag}
use Rattle.txc_txn_check.proofs.Containing.{tells}
use Rattle.txc_txn_check.specs.Limits.{CheckedView}
use Rattle.txc_txn_check.specs.Steps.{NamesOnly}
use Rattle.txc_chan.specs.Reserved.{one_if}
use Rattle.txc_chan.specs.declared.account.Account.{Account}
use Rattle.txc_chan.specs.declared.decl.Decl.{Decl}
use Rattle.txc_chan.specs.Chan.{account_of}
use Rattle.txc_chan.specs.ChanView.{ChanView}
use Rattle.txc_table_line.specs.Account.{IsAccount, IsSnapshotOf}
use Rattle.txc_table_line.specs.Line.{decl_at}
use Rattle.txc_table_line.specs.Known.{IsKnown}
use Rattle.txc_table_line.specs.declared.mark.Mark.{Mark}
use Rattle.txc_txn.specs.declared.deed.Deed.{Deed}
use Rattle.txc_txn.specs.declared.ran.Ran.{Ran}
use Rattle.txc_txn.specs.declared.ran.Ran.TheVariants.{Kept, Retry}
use Rattle.txc_txn.specs.declared.receipt.Receipt.{Receipt}
use Rattle.txc_txn.specs.InLog.{ReceiptIsInLog}
use Rattle.txc_txn.specs.Maps.{Map}
use Rattle.txc_txn.specs.Run.{IfKept, PlacesRise, RanSettled, count_deeds}
use Rattle.txc_txn.specs.Transaction.{kept_tag, transaction}
use Rattle.txc_txn.proofs.Placing.{get_front}
use Rattle.txc_txn_history.specs.Events.{events_of}
use Rattle.txc_txn_history.specs.Placed.{is_among}
use Rattle.txc_txn_history.proofs.Locality.{among_contains, contains_among}
use Rattle.txc_table_report.specs.Gathered.{ReceiptsAreInLogs}
use Rattle.txc_table_report.proofs.Standing.{all_since, stand_more}
use Rattle.txc_table_seat.specs.Seated.{SeatCommits, StampsRise, count, next_tag, with_receipt}
use Rattle.txc_table_line.specs.Line.{LineId}
use Rattle.txc_table_line.specs.SeatShare.{SeatShareView}
use Rattle.txc_table_lines.specs.Committed.{AreCommitted, HasItsMark, HasNoneOutside}
use Rattle.txc_table_lines.specs.Lines.{AreValidShares, OnlyGrew, line_ids, share_at}
use Rattle.txc_table_lines.specs.OneOperation.{AreKnown}
use Rattle.txc_table.specs.Attempt.{IsKeptWith, OnlyMarked}
use Rattle.txc_table.specs.Seat.{ArePlacedEvents, SeatView, IsAccountTo, IsSeated, IsPlacedEvent, log_at, seen_at}
use Rattle.txc_table.specs.Seat.{seen_in}
use Rattle.txc_table.specs.Seat.{seen_logs, seen_marks}
use Rattle.txc_table.specs.Table.{TableLines, line_decls, decls_of}
use Rattle.txc_table.proofs.Placing.{all_stand_on, all_stand_push, stands_kept, uses_push}
use Rattle.txc_table.proofs.Views.{decl_is, decls_long, seen_by}

none_among : (declared : List ℕ) (n : ℕ) → ¬ Contains declared n → (b : Bool) → is_among declared n ≡ b → one_if b ≡ 0
none_among declared n none true is = absurd (none (among_contains declared n is))
none_among declared n none false is = refl

-- what was seen of the marks of a channel only grew
put_since : (old new before : List Mark) (mark : Mark) → IsPrefix old before → new ≡ before ++ mark ∷ []
    → IsPrefix old new
put_since old new before mark since now = (
  since.0 ++ mark ∷ [],
  sym (append_assoc old since.0 (mark ∷ [])) ∙ ap (λ (l : List Mark). l ++ mark ∷ []) since.1
      ∙ sym now,
)

module _ (declared : List ℕ) (found left : Map) (receipt : Receipt) (before after : List SeatShareView)
    (committed : (n : ℕ) → AreCommitted declared found left receipt before after n) where
  -- a commit counts its acts in the shares
  amounts_more : HasNoneOutside declared receipt → (n : ℕ)
      → (share_at after n).amount ≡ (share_at before n).amount + count_deeds n receipt.acts
  amounts_more none n =
      elim (tells declared n) [
        | inl is ↦ ((committed n).inside is).amount
        | inr not ↦
            omega (arith, none n not, ap (λ (s : SeatShareView). s.amount) ((committed n).outside not))
      ]

  -- .. and itself
  made_more : (n : ℕ) → (share_at after n).made ≡ (share_at before n).made + one_if (is_among declared n)
  made_more n =
      elim (tells declared n) [
        | inl is ↦ omega (arith, ((committed n).inside is).made, ap one_if (contains_among declared n is))
        | inr not ↦ omega (
          arith,
          ap (λ (s : SeatShareView). s.made) ((committed n).outside not),
          none_among declared n not (is_among declared n) refl,
        )
      ]

  -- .. and only adds to the marks
  marks_more : OnlyMarked before after
  marks_more n =
      elim (tells declared n) [
        | inl is ↦
            (let put : HasItsMark (found n) (left n) receipt.tag (seen_marks before n) (seen_marks after n)
            = ((committed n).inside is).marked in
            put_since (seen_marks before n) (seen_marks after n) put.before _ put.since put.now)
        | inr not ↦
            subst (λ (s : SeatShareView). IsPrefix (seen_marks before n) s.marks) (sym ((committed n).outside not))
            ([], append-nil (seen_marks before n))
      ]

-- what is so of the receipt of a transaction that committed, and of the shares then
pub kept_with : (tag : Tag) (plan : CheckedView) (m left : Map) (before after : List SeatShareView)
    (result : Result Ran Stop)
    → ((n : ℕ) → Contains plan.declared n → n < length before) → NamesOnly plan.declared plan.steps
    → AreKnown before m → line_ids after ≡ line_ids before
    → IfOk result (λ ran. RanSettled (kept_tag m tag plan.declared) plan.declared
    (transaction m tag plan.declared plan.steps) ran m left)
    → IfOk result (λ ran. IfKept ran (λ receipt. (n : ℕ) → AreCommitted plan.declared m left receipt before after n))
    → IfOk result (λ ran. IfKept ran (λ receipt. OnlyGrew before after))
    → IfOk result (λ ran. IfKept ran (ReceiptIsInLog (seen_logs after)))
    → IfOk result (λ ran. IfKept ran (HasNoneOutside plan.declared))
    → IfOk result (λ ran. IfKept ran PlacesRise)
    → IfOk result (λ ran. IfKept ran (λ receipt. tag.stamp < receipt.tag.stamp))
    → IfOk result (λ ran. IfKept ran (IsKeptWith tag plan before after))
kept_with tag plan m left before after (Ok (Kept receipt)) there names found lines ran committed grew stand none rise
    later = record {
      counted = amounts_more plan.declared m left receipt before after committed none;
      grew = grew;
      stand = stand;
      rise = rise;
      later = later;
      made = made_more plan.declared m left receipt before after committed;
      marked = marks_more plan.declared m left receipt before after committed;
      placed = stands_kept (line_decls (line_ids after)) (λ n. (share_at before n).amount) tag plan m left before after
          receipt (λ n is. omega (arith, there n is, long)) names
          (λ n below. subst (λ (d : Decl). IsKnown d (share_at before n).amount (m n))
          (sym (decl_is before n) ∙ ap (λ (ls : List LineId). decl_at (line_decls ls) n) (sym lines))
          (found.known n (omega (arith, below, long)))) ran committed;
    }
  where
    long : length (line_decls (line_ids after)) ≡ length before
    long = decls_long before (line_ids after) (sym lines)
kept_with tag plan m left before after (Ok (Retry cause)) there names found lines ran committed grew stand none rise
    later = tt
kept_with tag plan m left before after (Err stop) there names found lines ran committed grew stand none rise later = tt

count_push : (n : ℕ) (receipts : List Receipt) (receipt : Receipt)
    → count n (receipts ++ receipt ∷ []) ≡ count n receipts + count_deeds n receipt.acts
count_push n [] receipt = omega arith
count_push n (r ∷ receipts) receipt = omega (arith, count_push n receipts receipt)

-- shares of the same lines are as many
pub same_many : (before after : List SeatShareView) → line_ids after ≡ line_ids before → length after ≡ length before
same_many before after lines = omega (
  arith,
  ap length lines,
  length-map before (λ (share : SeatShareView). share.line),
  length-map after (λ (share : SeatShareView). share.line),
)

-- the invariant of a seat after one more receipt
pub seated_more : {channels parts : ℕ} (tag : Tag) (plan : CheckedView) (before after : List SeatShareView)
    (commits commits' : SeatCommits) (receipt : Receipt) → IsSeated before commits channels parts → IsKeptWith tag plan
    before after receipt
    → line_ids after ≡ line_ids before → tag ≡ next_tag commits → length commits.plans ≡ length commits.receipts
    → StampsRise 0 commits.stamp commits.receipts → commits' ≡ with_receipt commits plan receipt
    → IsSeated after commits' channels parts
seated_more {channels} {parts} tag plan before after commits commits' receipt seated is lines tagged even rise now =
    subst (λ (s : SeatCommits). IsSeated after s channels parts) (sym now) (record {
      counted = λ n. is.counted n ∙ ap (λ k. k + count_deeds n receipt.acts) (seated.counted n)
          ∙ sym (count_push n commits.receipts receipt);
      stand = stand_more (seen_logs after) commits.receipts (commits.receipts ++ receipt ∷ []) receipt refl
          (all_since (seen_logs before) (seen_logs after) is.grew commits.receipts seated.stand) is.stand;
      made = λ n. is.made n ∙ ap (λ k. k + one_if (is_among plan.declared n)) (seated.made n)
          ∙ sym (uses_push n commits.plans plan);
      placed = all_stand_push (line_decls (line_ids after)) (seen_logs after) (seen_marks after) commits.number
          commits.stamp commits.plans commits.receipts plan receipt even rise
          (subst (λ (ls : List LineId). ArePlacedEvents (line_decls ls) (seen_logs after) (seen_marks after)
          (events_of commits.number 0 commits.plans commits.receipts)) (sym lines)
          (all_stand_on (line_decls (line_ids before)) (seen_logs before) (seen_logs after) (seen_marks before)
          (seen_marks after) (events_of commits.number 0 commits.plans commits.receipts) is.grew is.marked
          seated.placed))
          (subst (λ (t : Tag). IsPlacedEvent (line_decls (line_ids after)) (seen_logs after) (seen_marks after)
          (record {
            seat = t.seat;
            plan = plan;
            before = t.stamp;
            receipt = receipt;
          })) tagged is.placed);
      each = seated.each ∙ sym (same_many before after lines);
      part = seated.part;
    })

-- these shares differ only in what was seen of the logs and in the channels known
abbrev pub SameButSeen : List SeatShareView → List SeatShareView → Type 0
SameButSeen before after = (n : ℕ) → ((share_at after n).line ≡ (share_at before n).line)
    × ((share_at after n).amount ≡ (share_at before n).amount) × ((share_at after n).made ≡ (share_at before n).made)
    × ((share_at after n).marks ≡ (share_at before n).marks)

-- the invariant of a seat that has seen more
pub seated_on : {channels parts : ℕ} (before after : List SeatShareView) (commits : SeatCommits)
    → IsSeated before commits channels parts → OnlyGrew before after → SameButSeen before after
    → line_ids after ≡ line_ids before → IsSeated after commits channels parts
seated_on before after commits seated grew same lines = record {
  counted = λ n. (same n).1 ∙ seated.counted n;
  stand = all_since (seen_logs before) (seen_logs after) grew commits.receipts seated.stand;
  made = λ n. (same n).2 ∙ seated.made n;
  placed = subst (λ (ls : List LineId). ArePlacedEvents (line_decls ls) (seen_logs after) (seen_marks after)
      (events_of commits.number 0 commits.plans commits.receipts)) (sym lines)
      (all_stand_on (line_decls (line_ids before)) (seen_logs before) (seen_logs after) (seen_marks before)
      (seen_marks after) (events_of commits.number 0 commits.plans commits.receipts) grew
      (λ n. subst (IsPrefix (seen_marks before n)) (sym (same n).3) ([], append-nil (seen_marks before n)))
      seated.placed);
  each = seated.each ∙ sym (same_many before after lines);
  part = seated.part;
}

-- what the receipts of a seat and one more have in each channel is few if its shares are true
pub few_more : (tag : Tag) (plan : CheckedView) (before after : List SeatShareView) (receipts : List Receipt)
    (receipt : Receipt)
    → ((n : ℕ) → (share_at before n).amount ≡ count n receipts) → IsKeptWith tag plan before after receipt
    → AreValidShares after → (n : ℕ) → count n receipts + count_deeds n receipt.acts ≤ GREATEST_NUMBER
few_more tag plan before after receipts receipt counted is true_shares n =
    omega (arith, few after true_shares n, is.counted n, counted n)
  where
    few : (shares : List SeatShareView) → AreValidShares shares → (k : ℕ) → (share_at shares k).amount ≤ GREATEST_NUMBER
    few [] all k = omega arith
    few (share ∷ shares) all zero = (all 0 (omega arith)).few
    few (share ∷ shares) all (suc k) = few shares (λ j below. all (suc j) (omega (arith, below))) k

-- a snapshot of a line is one for the seat whose shares these are
pub snapshot_by : {T : Type 0} {ledger many channels parts : ℕ} (of : ChanView → T) (shares after : List SeatShareView)
    (commits : SeatCommits) (seat : SeatView) (lines : TableLines) (chan : ℕ) (result : Result T Stop)
    → record {
      commits = commits;
      lines = record { ledger = ledger; seats = many; all = line_ids shares };
      seen = seen_in shares;
    } ≡ seat → seat.lines ≡ lines → IsSeated shares commits channels parts
    → IfOk result (IsSnapshotOf of (share_at shares chan).line.decl (share_at shares chan).amount
    (share_at after chan).log)
    → IfOk result (IsSnapshotOf of (decl_at (decls_of lines) chan) (count chan seat.commits.receipts)
    (log_at (seen_in after) chan))
snapshot_by of shares after commits seat lines chan result view its seated snapshot =
    let same : line_ids shares ≡ lines.all = ap (λ (s : SeatView). s.lines.all) view
    ∙ ap (λ (l : TableLines). l.all) its in
    let decl : (share_at shares chan).line.decl ≡ decl_at (decls_of lines) chan =
    sym (decl_is shares chan) ∙ ap (λ (ls : List LineId). decl_at (line_decls ls) chan) same in
    let amount : (share_at shares chan).amount ≡ count chan seat.commits.receipts =
    seated.counted chan ∙ ap (λ (s : SeatView). count chan s.commits.receipts) view in
    subst (λ d. IfOk result (IsSnapshotOf of d (count chan seat.commits.receipts) (log_at (seen_in after) chan))) decl
    (subst (λ k. IfOk result (IsSnapshotOf of (share_at shares chan).line.decl k (log_at (seen_in after) chan))) amount
    (seen_by (λ logs. IfOk result (IsSnapshotOf of (share_at shares chan).line.decl (share_at shares chan).amount
    (logs chan))) after snapshot))

-- an account whose log the seat has then seen is one to the seat
pub account_to : (seat : SeatView) (decls : List Decl) (chan : ℕ) (log : List Entry) (result : Result Account Stop)
    → ReceiptsAreInLogs (seen_at seat) seat.commits.receipts → IsPrefix (seen_at seat chan) log
    → IfOk result (IsSnapshotOf account_of (decl_at decls chan) (count chan seat.commits.receipts) log)
    → IfOk result (IsAccountTo seat decls chan)
account_to seat decls chan log (Ok account) stand more snapshot =
    let seen : log ≡ account.log = sym snapshot.log_is ∙ sym (ap (λ (a : Account). a.log) snapshot.its) in
    let since : IsPrefix (seen_at seat chan) account.log = subst (IsPrefix (seen_at seat chan)) seen more in
    record {
      lawful = subst (IsAccount (decl_at decls chan) (count chan seat.commits.receipts)) (sym snapshot.its)
          snapshot.account;
      since = since;
      stand = λ n receipt here i deed there at.
          (let stands = stand n receipt here i deed there in
          ap (λ entries. slice_get entries deed.place) (sym since.1)
          ∙ get_front (seen_at seat chan) since.0 deed.place _
          (ap (λ k. slice_get (seen_at seat k) deed.place) (sym at) ∙ stands));
    }
account_to seat decls chan log (Err stop) stand more snapshot = tt

-- the acts of a receipt that stands in logs that a seat has seen are in channels of which the seat has a share
pub acts_inside : (shares : List SeatShareView) (receipt : Receipt) → ReceiptIsInLog (seen_logs shares) receipt
    → All (λ (deed : Deed). deed.chan < length shares) receipt.acts
acts_inside shares receipt stand k d below =
    within shares _ _ _ (stand k _ (slice_get-get_or receipt.acts k d below))
  where
    nothing : (place : ℕ) (entry : Entry) → slice_get [] place ≡ Some entry → ⊥
    nothing place entry is = absurd (cc)

    within : (all : List SeatShareView) (chan place : ℕ) (entry : Entry)
        → slice_get (seen_logs all chan) place ≡ Some entry
        → chan < length all
    within [] chan place entry is = absurd (nothing place entry is)
    within (share ∷ all) zero place entry is = omega arith
    within (share ∷ all) (suc chan) place entry is =
        let less = within all chan place entry is in omega (arith, less)
