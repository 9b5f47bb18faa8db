-- Steps of the proof of an attempt.
use Rattle.std.proofs.Common.{◌≡◌, sym, ◌∙◌, ap, subst, ℕ, ◌<◌, List, length, arith, Some, slice_get}
use Rattle.std.proofs.lemmas.List.{length-map}
use Rattle.std.proofs.lemmas.Option.{slice_get-get_or, slice_get-map}
use Rattle.std.specs.Prelude.{◌≢◌, option_map, Result, Ok, Err, IfOk, IfErr}
use Rattle.txc_base.specs.declared.cause.Cause.{Cause}
use Rattle.txc_base.specs.declared.kind.Kind.{Kind}
use Rattle.txc_base.specs.declared.stop.Stop.{Stop}
use Rattle.txc_base.specs.declared.stop.Stop.TheVariants.{NoMemory}
use Rattle.txc_base.specs.declared.tag.Tag.{Tag}
use Rattle.txc_chan.specs.declared.decl.Decl.{Decl}
use Rattle.txc_chan.specs.Decls.{kinds_in}
use Rattle.txc_txn_check.specs.declared.step.Step.{Step}
use Rattle.txc_txn_check.specs.Limits.{CheckedView}
use Rattle.txc_table_line.specs.Line.{decl_at, no_line}
use Rattle.txc_table_line.specs.Known.{IsKnown}
use Rattle.txc_txn.specs.declared.ran.Ran.{Ran}
use Rattle.txc_txn.specs.declared.ran.Ran.TheVariants.{Kept as RanKept, Retry as RanRetry}
use Rattle.txc_txn.specs.declared.receipt.Receipt.{Receipt}
use Rattle.txc_txn.specs.Maps.{Map, kinds_of}
use Rattle.txc_txn.specs.Run.{RanSettled}
use Rattle.txc_txn.specs.Transaction.{Ending, Kept, Again, Aborted, kept_tag, transaction}
use Rattle.txc_table_seat.specs.Seated.{SeatCommits, count}
use Rattle.txc_table_line.specs.Line.{LineId}
use Rattle.txc_table_line.specs.SeatShare.{SeatShareView}
use Rattle.txc_table_lines.specs.Lines.{AreSince, line_ids, share_at}
use Rattle.txc_table_lines.specs.OneOperation.{AreKnown}
use Rattle.txc_table.specs.Seat.{SeatView, IsSeated, SeesMore, seen_at, seen_in}
use Rattle.txc_table.specs.Table.{TableLines, line_decls, decls_of}
use Rattle.txc_table.specs.Outcome.{Answers, AreFound, IsAttempted, IsTransacted, Tells}
use Rattle.txc_table.specs.declared.tried.Tried.{Tried}
use Rattle.txc_table.proofs.Views.{decl_is, decls_long, seen_by}

kind_at : (decls : List Decl) (n : ℕ) → n < length decls → slice_get (kinds_in decls) n ≡ Some (decl_at decls n).kind
kind_at decls n below = slice_get-map (λ (decl : Decl). decl.kind) decls n
    ∙ ap (option_map (λ (decl : Decl). decl.kind)) (slice_get-get_or decls n no_line below)

-- there is a line for each kind
pub kinds_within : (kinds : List Kind) (lines : List LineId) (n : ℕ) → kinds ≡ kinds_in (line_decls lines)
    → n < length kinds → n < length lines
kinds_within kinds lines n declared below = omega (
  arith,
  below,
  ap length declared,
  length-map (line_decls lines) (λ (decl : Decl). decl.kind),
  length-map lines (λ (line : LineId). line.decl),
)

-- what is known of channels whose lines are those of the shares
pub known_of : (shares : List SeatShareView) (lines : List LineId) (m : Map) → line_ids shares ≡ lines
    → ((n : ℕ) → n < length lines → IsKnown (share_at shares n).line.decl (share_at shares n).amount (m n))
    → AreSince shares m → AreKnown shares m
known_of shares lines m of known since = record {
  known = λ n below. known n
      (omega (arith, below, ap length of, length-map shares (λ (share : SeatShareView). share.line)));
  since = since;
}

-- the kinds of channels that a seat found are the table's
pub kinds_agree : (shares : List SeatShareView) (lines : List LineId) (kinds : List Kind) (m : Map)
    → line_ids shares ≡ lines
    → kinds ≡ kinds_in (line_decls lines) → AreKnown shares m → (n : ℕ) → n < length kinds
    → kinds_of m n ≡ slice_get kinds n
kinds_agree shares lines kinds m of declared found n below =
    let there : n < length lines = kinds_within kinds lines n declared below in
    let here : n < length (line_decls lines) = omega (arith, there, length-map lines (λ (line : LineId). line.decl)) in
    let within : n < length shares = omega (arith, here, decls_long shares lines of) in
    ap (λ (d : Decl). Some d.kind) ((found.known n within).declared ∙ sym (decl_is shares n)
    ∙ ap (λ (ls : List LineId). decl_at (line_decls ls) n) of)
    ∙ sym (kind_at (line_decls lines) n here) ∙ ap (λ (ks : List Kind). slice_get ks n) (sym declared)

-- channels that a seat found are lawful, and their logs begin with what the seat has seen
pub found_by : {ledger many channels parts : ℕ} (shares : List SeatShareView) (commits : SeatCommits) (seat : SeatView)
    (lines : TableLines) (m : Map)
    → record {
      commits = commits;
      lines = record { ledger = ledger; seats = many; all = line_ids shares };
      seen = seen_in shares;
    } ≡ seat → seat.lines ≡ lines → IsSeated shares commits channels parts → AreKnown shares m
    → AreFound (decls_of lines) seat.commits.receipts (seen_at seat) m
found_by shares commits seat lines m view of seated found =
    subst (λ (s : SeatView). AreFound (decls_of lines) s.commits.receipts (seen_at s) m) view (
      λ n below.
          (let within : n < length shares = omega (arith, below, decls_long shares lines.all same) in
          let decl : (share_at shares n).line.decl ≡ decl_at (decls_of lines) n
          = sym (decl_is shares n) ∙ ap (λ (ls : List LineId). decl_at (line_decls ls) n) same in
          subst (λ d. IsKnown d (count n commits.receipts) (m n)) decl
          (subst (λ k. IsKnown (share_at shares n).line.decl k (m n)) (seated.counted n) (found.known n within))),
      seen_by (λ logs. SeesMore logs (λ n. (m n).log)) shares found.since,
    )
  where
    same : line_ids shares ≡ lines.all
    same = ap (λ (s : SeatView). s.lines.all) view ∙ ap (λ (l : TableLines). l.all) of

-- what a transaction answers, of what it answers and leaves
settled_answers : (tag : Tag) (declared : List ℕ) (o : Ending) (x : Ran) (before after : Map)
    → RanSettled tag declared o x before after → Answers tag o x
settled_answers tag declared (Kept s) (RanKept r) before after h = h.0
settled_answers tag declared (Kept s) (RanRetry c) before after h = absurd h
settled_answers tag declared (Again c) (RanKept r) before after h = absurd h
settled_answers tag declared (Again c) (RanRetry why) before after h = h.0
settled_answers tag declared (Aborted stop) (RanKept r) before after h = absurd h
settled_answers tag declared (Aborted stop) (RanRetry c) before after h = absurd h

-- .. of what it answers while the locks of its channels are held
pub held_answers : (shares : List SeatShareView) (m after : Map) (tag : Tag) (declared : List ℕ) (steps : List Step)
    (result : Result Ran Stop) → AreKnown shares m
    → IfOk result (λ ran. RanSettled (kept_tag m tag declared) declared (transaction m tag declared steps) ran m after)
    → IfOk result (λ ran. (x : Map) × AreKnown shares x
    × Answers (kept_tag x tag declared) (transaction x tag declared steps) ran)
held_answers shares m after tag declared steps (Ok ran) found h =
    (m, found, settled_answers (kept_tag m tag declared) declared (transaction m tag declared steps) ran m after h)
held_answers shares m after tag declared steps (Err stop) found h = tt

-- .. and of what stops it
pub held_stop : (shares : List SeatShareView) (m : Map) (tag : Tag) (declared : List ℕ) (steps : List Step)
    (result : Result Ran Stop) → AreKnown shares m
    → IfErr result (λ stop. stop ≢ NoMemory → transaction m tag declared steps ≡ Aborted stop)
    → IfErr result (λ stop. stop ≢ NoMemory → (x : Map) × AreKnown shares x
    × (transaction x tag declared steps ≡ Aborted stop))
held_stop shares m tag declared steps (Ok ran) found h = tt
held_stop shares m tag declared steps (Err stop) found h = λ ne. (m, found, h ne)

answers_again : (tag : Tag) (o : Ending) (cause : Cause) → Answers tag o (RanRetry cause) → o ≡ Again cause
answers_again tag (Kept s) cause h = absurd h
answers_again tag (Again c) cause h = ap Again (sym h)
answers_again tag (Aborted stop) cause h = absurd h

-- a run that must be retried had that ending
pub answers_retry : (tag : Tag) (o : Ending) (x : Ran) (cause : Cause) → x ≡ RanRetry cause → Answers tag o x
    → o ≡ Again cause
answers_retry tag o x cause is h = answers_again tag o cause (subst (λ (y : Ran). Answers tag o y) is h)

-- a run that committed gave this receipt
pub answers_kept : (tag : Tag) (o : Ending) (x : Ran) (r : Receipt) → x ≡ RanKept r → Answers tag o x
    → Answers tag o (RanKept r)
answers_kept tag o x r is h = subst (λ (y : Ran). Answers tag o y) is h

-- what a call that runs a transaction returns, without what the seat had seen
pub as_transacted : {T : Type 0} (tried : T → Tried) (decls : List Decl) (plan : CheckedView) (before : SeatView)
    (result : Result T Stop) (after : SeatView)
    → IsAttempted tried decls plan before result after
    → IsTransacted tried decls plan before.commits result after.commits
as_transacted tried decls plan before (Ok answer) after is =
    record { returned = (is.returned.0, is.returned.1.0, is.returned.2); stopped = tt; unchanged = tt }
as_transacted tried decls plan before (Err stop) after is = record {
  returned = tt;
  stopped = λ ne. (let stops = is.stopped ne in (stops.0, stops.1.0, stops.2));
  unchanged = ap (λ (s : SeatView). s.commits) is.unchanged;
}

-- .. and the seat's number stays
pub number_stays : {T : Type 0} (tried : T → Tried) (decls : List Decl) (plan : CheckedView) (before : SeatCommits)
    (result : Result T Stop) (after : SeatCommits)
    → IsTransacted tried decls plan before result after → after.number ≡ before.number
number_stays tried decls plan before (Ok answer) after is = same_number is.returned.0 before plan (tried answer) after
    is.returned.2
  where
    same_number : (m : Map) (one : SeatCommits) (p : CheckedView) (t : Tried) (other : SeatCommits)
        → Tells m one p t other
        → other.number ≡ one.number
    same_number m one p (Tried.Kept number) other tells = ap (λ (s : SeatCommits). s.number) tells.2
    same_number m one p (Tried.Retry cause) other tells = ap (λ (s : SeatCommits). s.number) tells.0
number_stays tried decls plan before (Err stop) after is = ap (λ (s : SeatCommits). s.number) is.unchanged
