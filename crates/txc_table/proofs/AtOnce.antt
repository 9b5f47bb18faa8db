-- Steps of the proof of an attempt that commits at once.
use Rattle.std.proofs.Common.{◌≡◌, refl, sym, subst, ℕ, ◌<◌, true, List, [], ◌∷◌, length, arith, Contains, slice_get}
use Rattle.std.specs.Prelude.{Result, Ok, Err, IfOk}
use Rattle.txc_base.specs.declared.cause.Cause.{Cause}
use Rattle.txc_base.specs.declared.kind.Kind.{Kind}
use Rattle.txc_base.specs.declared.op.Op.{Op}
use Rattle.txc_base.specs.declared.tag.Tag.{Tag}
use Rattle.txc_base.specs.Kinds.{supports}
use Rattle.txc_base.specs.Op.{chan_of}
use Rattle.txc_chan.specs.declared.decl.Decl.{Decl}
use Rattle.txc_chan.specs.Decls.{kinds_in}
use Rattle.txc_txn_check.proofs.Folds.{at_do}
use Rattle.txc_txn_check.specs.declared.step.Step.{Step}
use Rattle.txc_txn_check.specs.declared.step.Step.TheVariants.{Do}
use Rattle.txc_txn_check.specs.Limits.{CheckedView}
use Rattle.txc_txn_check.specs.Steps.{Fits, NamesOnly, is_fit, supported_there}
use Rattle.txc_txn.specs.declared.ran.Ran.TheVariants.{Kept as RanKept}
use Rattle.txc_txn.specs.declared.receipt.Receipt.{Receipt}
use Rattle.txc_txn.specs.Maps.{Map}
use Rattle.txc_txn.specs.Run.{RanSettled}
use Rattle.txc_txn.specs.Transaction.{Again, kept_tag, transaction}
use Rattle.txc_table_line.specs.Line.{LineId}
use Rattle.txc_table_line.specs.SeatShare.{SeatShareView}
use Rattle.txc_table_lines.specs.Committed.{AreCommitted, HasNoneOutside}
use Rattle.txc_table_lines.specs.Guards.{known_of}
use Rattle.txc_table_lines.specs.Lines.{AreValidShares, line_ids, share_at}
use Rattle.txc_table_lines.specs.OneOperation.{AreKnown, IsCommittedOne, MustRetryOne}
use Rattle.txc_table_lines.proofs.OneCommit.{only_number}
use Rattle.txc_table_lines.proofs.Taking.{known_since}
use Rattle.txc_table.specs.Attempt.{IsKeptWith}
use Rattle.txc_table.specs.Table.{line_decls}
use Rattle.txc_table.specs.Outcome.{Answers}
use Rattle.txc_table.proofs.Standing.{kept_with}
use Rattle.txc_table.proofs.Trying.{held_answers, kinds_agree}

-- what follows from what is true of a result
pub ok_map : {A E : Type 0} (P Q : A → Type 0) (r : Result A E) → ((x : A) → P x → Q x) → IfOk r P → IfOk r Q
ok_map P Q (Ok x) f is = f x is
ok_map P Q (Err e) f is = tt

-- the channel of the only operation is declared
pub only_declared : (declared : List ℕ) (op : Op) → declared ≡ chan_of op ∷ [] → Contains declared (chan_of op)
only_declared declared op is = subst (λ ds. Contains ds (chan_of op)) (sym is) (0, omega arith, refl)

-- the kind of its line has the operation
pub line_supports : (shares : List SeatShareView) (lines : List LineId) (kinds : List Kind) (op : Op)
    (steps : List Step)
    → line_ids shares ≡ lines → kinds ≡ kinds_in (line_decls lines) → AreValidShares shares → chan_of op < length kinds
    → chan_of op < length shares → steps ≡ Do op ∷ [] → Fits (slice_get kinds) steps
    → supports (share_at shares (chan_of op)).line.decl.kind op ≡ true
line_supports shares lines kinds op steps of declared are below there is fits =
    let n = chan_of op in
    let found : AreKnown shares (known_of shares) = record {
      known = λ k lt. (are k lt).known;
      since = known_since shares are;
    } in
    let fit : is_fit (slice_get kinds) op ≡ true =
    at_do (is_fit (slice_get kinds)) (Do op) op refl (subst (λ ss. Fits (slice_get kinds) ss) is fits 0 (Do op)
    (omega arith)) in
    let known : supports (known_of shares n).decl.kind op ≡ true =
    subst (λ kind. supported_there kind op ≡ true)
    (sym (kinds_agree shares lines kinds (known_of shares) of declared found n below)) fit in
    subst (λ (d : Decl). supports d.kind op ≡ true) ((are n there).known.declared) known

-- the transaction of the operation is the whole one
ran_as : (tag : Tag) (plan : CheckedView) (op : Op) (before after : List SeatShareView) (receipt : Receipt)
    → plan.steps ≡ Do op ∷ [] → plan.declared ≡ chan_of op ∷ [] → (is : IsCommittedOne tag op before after receipt)
    → RanSettled (kept_tag is.found tag plan.declared) plan.declared
    (transaction is.found tag plan.declared plan.steps) (RanKept receipt) is.found is.left
ran_as tag plan op before after receipt steps declared is =
    subst (λ ds. RanSettled (kept_tag is.found tag ds) ds (transaction is.found tag ds plan.steps) (RanKept receipt)
    is.found is.left) (sym declared)
    (subst (λ ss. RanSettled (kept_tag is.found tag (chan_of op ∷ [])) (chan_of op ∷ [])
    (transaction is.found tag (chan_of op ∷ []) ss) (RanKept receipt) is.found is.left) (sym steps) is.ran)

-- what a transaction that was committed at once returns, and what it leaves of the seat
pub returned_at_once : (tag : Tag) (plan : CheckedView) (op : Op) (before after : List SeatShareView)
    (receipt : Receipt)
    → plan.steps ≡ Do op ∷ [] → plan.declared ≡ chan_of op ∷ [] → IsCommittedOne tag op before after receipt
    → (m : Map) × AreKnown before m
    × Answers (kept_tag m tag plan.declared) (transaction m tag plan.declared plan.steps) (RanKept receipt)
returned_at_once tag plan op before after receipt steps declared is =
    held_answers before is.found is.left tag plan.declared plan.steps (Ok (RanKept receipt)) is.are
    (ran_as tag plan op before after receipt steps declared is)

-- a transaction whose only operation waits must be retried
pub retried_at_once : (tag : Tag) (plan : CheckedView) (op : Op) (before : List SeatShareView) (cause : Cause)
    → plan.steps ≡ Do op ∷ [] → plan.declared ≡ chan_of op ∷ [] → MustRetryOne tag op before cause
    → (m : Map) × AreKnown before m × (transaction m tag plan.declared plan.steps ≡ Again cause)
retried_at_once tag plan op before cause steps declared is = (
  is.found,
  is.are,
  subst (λ ds. transaction is.found tag ds plan.steps ≡ Again cause) (sym declared)
      (subst (λ ss. transaction is.found tag (chan_of op ∷ []) ss ≡ Again cause) (sym steps) is.again),
)

pub kept_at_once : (tag : Tag) (plan : CheckedView) (op : Op) (before after : List SeatShareView) (receipt : Receipt)
    → plan.steps ≡ Do op ∷ [] → plan.declared ≡ chan_of op ∷ [] → chan_of op < length before
    → NamesOnly plan.declared plan.steps → line_ids after ≡ line_ids before
    → IsCommittedOne tag op before after receipt → IsKeptWith tag plan before after receipt
kept_at_once tag plan op before after receipt steps declared there names lines is =
    kept_with tag plan is.found is.left before after (Ok (RanKept receipt))
    (λ n here. subst (λ k. k < length before) (sym (only_number (chan_of op) n
    (subst (λ ds. Contains ds n) declared here))) there) names is.are lines
    (ran_as tag plan op before after receipt steps declared is)
    (λ n. subst (λ ds. AreCommitted ds is.found is.left receipt before after n) (sym declared) (is.committed n))
    is.grew is.stand (subst (λ ds. HasNoneOutside ds receipt) (sym declared) is.inside) is.rise is.later
