-- Steps of the proof of an attempt of a move, or of a choice between two moves, that commits at once.
use Rattle.std.proofs.Common.{◌≡◌, refl, sym, subst, ⊎_elim, ℕ, ◌<◌, true, List, [], ◌∷◌, All, length, arith, Contains}
use Rattle.std.proofs.Common.{slice_get}
use Rattle.std.specs.Prelude.{Ok}
use Rattle.txc_base.specs.declared.cause.Cause.{Cause}
use Rattle.txc_base.specs.declared.kind.Kind.{Kind}
use Rattle.txc_base.specs.declared.op.Op.{Op}
use Rattle.txc_base.specs.declared.op.Op.TheVariants.{Read, Write}
use Rattle.txc_base.specs.declared.source.Source.TheVariants.{Last}
use Rattle.txc_base.specs.declared.tag.Tag.{Tag}
use Rattle.txc_base.specs.Kinds.{supports}
use Rattle.txc_base.specs.Op.{chan_of}
use Rattle.txc_chan.specs.declared.decl.Decl.{Decl}
use Rattle.txc_chan.specs.Decls.{kinds_in}
use Rattle.txc_txn_check.proofs.Folds.{at_do, at_or}
use Rattle.txc_txn_check.specs.declared.step.Step.{Step}
use Rattle.txc_txn_check.specs.declared.step.Step.TheVariants.{Do, Or}
use Rattle.txc_txn_check.specs.Limits.{CheckedView}
use Rattle.txc_txn_check.specs.Steps.{Every, Fits, NamesOnly, is_fit, supported_there}
use Rattle.txc_txn.specs.declared.ran.Ran.TheVariants.{Kept as RanKept}
use Rattle.txc_txn.specs.declared.receipt.Receipt.{Receipt}
use Rattle.txc_txn.specs.Choice.{choice_steps, in_order}
use Rattle.txc_txn.specs.Maps.{Map}
use Rattle.txc_txn.specs.Run.{RanSettled}
use Rattle.txc_txn.specs.Transaction.{Again, kept_tag, transaction}
use Rattle.txc_txn.specs.TwoOperations.{lower_first, move_steps}
use Rattle.txc_txn.proofs.Choice.{only_three, three_contain}
use Rattle.txc_txn.proofs.TwoOperations.{both_contain, only_both}
use Rattle.txc_table_line.specs.Line.{LineId}
use Rattle.txc_table_line.specs.SeatShare.{SeatShareView}
use Rattle.txc_table_lines.specs.Committed.{AreCommitted, HasNoneOutside}
use Rattle.txc_table_lines.specs.Guards.{known_of}
use Rattle.txc_table_lines.specs.Lines.{AreValidShares, line_ids, share_at}
use Rattle.txc_table_lines.specs.OneOperation.{AreKnown}
use Rattle.txc_table_lines.specs.TwoOperations.{IsCommittedAs, MustRetryAs}
use Rattle.txc_table_lines.proofs.Taking.{known_since}
use Rattle.txc_table.specs.Attempt.{IsKeptWith}
use Rattle.txc_table.specs.Table.{line_decls}
use Rattle.txc_table.specs.Outcome.{Answers}
use Rattle.txc_table.proofs.Standing.{kept_with}
use Rattle.txc_table.proofs.Trying.{held_answers, kinds_agree}

-- both channels are declared
pub from_declared : (declared : List ℕ) (from to : ℕ) → declared ≡ lower_first from to → Contains declared from
from_declared declared from to is = subst (λ ds. Contains ds from) (sym is) (both_contain from to).0

pub to_declared : (declared : List ℕ) (from to : ℕ) → declared ≡ lower_first from to → Contains declared to
to_declared declared from to is = subst (λ ds. Contains ds to) (sym is) (both_contain from to).1

-- the kinds have both operations
pub read_fits : (kinds : List Kind) (steps : List Step) (from reader to : ℕ) → steps ≡ move_steps from reader to
    → Fits (slice_get kinds) steps → is_fit (slice_get kinds) (Read from reader) ≡ true
read_fits kinds steps from reader to is fits =
    at_do (is_fit (slice_get kinds)) (Do (Read from reader)) (Read from reader) refl
    (subst (λ ss. Fits (slice_get kinds) ss) is fits 0 (Do (Read from reader)) (omega arith))

pub write_fits : (kinds : List Kind) (steps : List Step) (from reader to : ℕ) → steps ≡ move_steps from reader to
    → Fits (slice_get kinds) steps → is_fit (slice_get kinds) (Write to Last) ≡ true
write_fits kinds steps from reader to is fits =
    at_do (is_fit (slice_get kinds)) (Do (Write to Last)) (Write to Last) refl
    (subst (λ ss. Fits (slice_get kinds) ss) is fits 1 (Do (Write to Last)) (omega arith))

-- the kind of a line has the operation
pub line_fits : (shares : List SeatShareView) (lines : List LineId) (kinds : List Kind) (op : Op)
    → line_ids shares ≡ lines → kinds ≡ kinds_in (line_decls lines) → AreValidShares shares → chan_of op < length kinds
    → chan_of op < length shares → is_fit (slice_get kinds) op ≡ true
    → supports (share_at shares (chan_of op)).line.decl.kind op ≡ true
line_fits shares lines kinds op of declared are below there fit =
    let n = chan_of op in
    let found : AreKnown shares (known_of shares) = record {
      known = λ k lt. (are k lt).known;
      since = known_since shares are;
    } in
    let known : supports (known_of shares n).decl.kind op ≡ true =
    subst (λ kind. supported_there kind op ≡ true)
    (sym (kinds_agree shares lines kinds (known_of shares) of declared found n below)) fit in
    subst (λ (d : Decl). supports d.kind op ≡ true) ((are n there).known.declared) known

-- the transaction of these steps is the whole one
ran_as : (tag : Tag) (plan : CheckedView) (ds : List ℕ) (steps : List Step) (before after : List SeatShareView)
    (receipt : Receipt)
    → plan.steps ≡ steps → plan.declared ≡ ds
    → (is : IsCommittedAs tag ds steps before after receipt)
    → RanSettled (kept_tag is.found tag plan.declared) plan.declared
    (transaction is.found tag plan.declared plan.steps) (RanKept receipt) is.found is.left
ran_as tag plan ds steps before after receipt same declared is =
    subst (λ es. RanSettled (kept_tag is.found tag es) es (transaction is.found tag es plan.steps) (RanKept receipt)
    is.found is.left) (sym declared)
    (subst (λ ss. RanSettled (kept_tag is.found tag ds) ds
    (transaction is.found tag ds ss) (RanKept receipt) is.found is.left) (sym same) is.ran)

-- what a transaction that was committed at once returns, and what it leaves of the seat
pub returned_as : (tag : Tag) (plan : CheckedView) (ds : List ℕ) (steps : List Step) (before after : List SeatShareView)
    (receipt : Receipt)
    → plan.steps ≡ steps → plan.declared ≡ ds
    → IsCommittedAs tag ds steps before after receipt
    → (m : Map) × AreKnown before m
    × Answers (kept_tag m tag plan.declared) (transaction m tag plan.declared plan.steps) (RanKept receipt)
returned_as tag plan ds steps before after receipt same declared is =
    held_answers before is.found is.left tag plan.declared plan.steps (Ok (RanKept receipt)) is.are
    (ran_as tag plan ds steps before after receipt same declared is)

-- a transaction of which an operation waits must be retried
pub retried_as : (tag : Tag) (plan : CheckedView) (ds : List ℕ) (steps : List Step) (before : List SeatShareView)
    (cause : Cause)
    → plan.steps ≡ steps → plan.declared ≡ ds
    → MustRetryAs tag ds steps before cause
    → (m : Map) × AreKnown before m × (transaction m tag plan.declared plan.steps ≡ Again cause)
retried_as tag plan ds steps before cause same declared is = (
  is.found,
  is.are,
  subst (λ es. transaction is.found tag es plan.steps ≡ Again cause) (sym declared)
      (subst (λ ss. transaction is.found tag ds ss ≡ Again cause) (sym same) is.again),
)

pub kept_as : (tag : Tag) (plan : CheckedView) (ds : List ℕ) (steps : List Step) (before after : List SeatShareView)
    (receipt : Receipt)
    → plan.steps ≡ steps → plan.declared ≡ ds
    → ((n : ℕ) → Contains ds n → n < length before) → NamesOnly plan.declared plan.steps
    → line_ids after ≡ line_ids before → IsCommittedAs tag ds steps before after receipt
    → IsKeptWith tag plan before after receipt
kept_as tag plan ds steps before after receipt same declared there names lines is =
    kept_with tag plan is.found is.left before after (Ok (RanKept receipt))
    (λ n here. there n (subst (λ es. Contains es n) declared here)) names is.are lines
    (ran_as tag plan ds steps before after receipt same declared is)
    (λ n. subst (λ es. AreCommitted es is.found is.left receipt before after n) (sym declared) (is.committed n))
    is.grew is.stand (subst (λ es. HasNoneOutside es receipt) (sym declared) is.inside) is.rise is.later

-- both channels of a move are there
pub both_there : (before : List SeatShareView) (from to : ℕ) → from < length before → to < length before
    → (n : ℕ) → Contains (lower_first from to) n → n < length before
both_there before from to source target n here =
    ⊎_elim (λ e. subst (λ k. k < length before) (sym e) source) (λ e. subst (λ k. k < length before) (sym e) target)
    (only_both from to n here)

-- .. and the three of a choice
pub three_there : (before : List SeatShareView) (one other to : ℕ) → one < length before → other < length before
    → to < length before → (n : ℕ) → Contains (in_order one other to) n → n < length before
three_there before one other to first second target n here =
    ⊎_elim (λ e. subst (λ k. k < length before) (sym e) first)
    (λ c. ⊎_elim (λ e. subst (λ k. k < length before) (sym e) second)
    (λ e. subst (λ k. k < length before) (sym e) target) c) (only_three one other to n here)

-- they are declared
pub three_declared : (declared : List ℕ) (one other to : ℕ) → declared ≡ in_order one other to
    → Contains declared one × Contains declared other × Contains declared to
three_declared declared one other to is =
    subst (λ ds. Contains ds one × Contains ds other × Contains ds to) (sym is) (three_contain one other to)

-- the kinds have the operations of both moves
pub moves_fit : (kinds : List Kind) (steps : List Step) (one reader other its to : ℕ)
    → steps ≡ choice_steps one reader other its to → Fits (slice_get kinds) steps
    → Fits (slice_get kinds) (move_steps one reader to) × Fits (slice_get kinds) (move_steps other its to)
moves_fit kinds steps one reader other its to is fits =
    let first : List Step = move_steps one reader to in
    let second : List Step = move_steps other its to in
    let whole : Step = Or (first ∷ second ∷ []) in
    let both : All (Every (is_fit (slice_get kinds))) (first ∷ second ∷ []) =
    at_or (is_fit (slice_get kinds)) whole (first ∷ second ∷ []) refl
    (subst (λ ss. Fits (slice_get kinds) ss) is fits 0 whole (omega arith)) in (
      both 0 first (omega arith),
      both 1 first (omega arith),
    )
