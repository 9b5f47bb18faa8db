-- What a read that was kept replied.
use Rattle.std.proofs.Common.{◌≡◌, sym, ◌∙◌, ap, subst, inl, inr, ◌⊎◌, ℕ, Bool, true, false, ◌||◌, if◌then◌else◌}
use Rattle.std.proofs.Common.{Option, Some, None, List, [], ◌∷◌, ◌++◌, length, length-append, slice_get, arith}
use Rattle.std.proofs.Math.Seq.{get_or-append_seam}
use Rattle.std.proofs.lemmas.Option.{slice_get-get_or}
use Rattle.txc_base.specs.declared.cause.Cause.TheVariants.{Empty}
use Rattle.txc_base.specs.declared.item.Item.{Item}
use Rattle.txc_base.specs.declared.op.Op.TheVariants.{Read}
use Rattle.txc_base.specs.declared.reply.Reply.{Reply}
use Rattle.txc_base.specs.declared.reply.Reply.TheVariants.{Closed}
use Rattle.txc_base.specs.declared.stop.Stop.TheVariants.{Worn}
use Rattle.txc_base.specs.declared.tag.Tag.{Tag}
use Rattle.txc_base.specs.Channel.{Channel, list_of}
use Rattle.txc_base.specs.Operation.{Waits, says, taking, with_list}
use Rattle.txc_txn_check.specs.declared.step.Step.{Step}
use Rattle.txc_txn_check.specs.declared.step.Step.TheVariants.{Do}
use Rattle.yalwythen_work.specs.Committed.{HasCommittedSteps, last_item, replies_in}
use Rattle.yalwythen_work.specs.Session.{SessionView}
use Rattle.yalwythen_work.specs.ReadOutcome.{IsOfItem}
use Rattle.txc_table.specs.Outcome.{Answers}
use Rattle.txc_table_seat.specs.Seated.{SeatCommits, next_tag}
use Rattle.txc_txn.proofs.Running.{step_in-Do}
use Rattle.txc_txn.specs.declared.ran.Ran.TheVariants.{Kept as RanKept}
use Rattle.txc_txn.specs.declared.receipt.Receipt.{Receipt}
use Rattle.txc_txn.specs.Maps.{Map}
use Rattle.txc_txn.specs.Transaction.{Aborted, Ending, after_did, and_then, greatest, is_worn, kept_tag, sequence}
use Rattle.txc_txn.specs.Transaction.{start}
use Rattle.txc_txn.specs.Transaction.{steps_in, transaction}

-- the replies of a read
abbrev IsReplied : List Reply → Type 0
IsReplied replies = IsOfItem replies ⊎ (replies ≡ Closed ∷ [])

-- with nothing to read it is kept where the channel is closed
of_nothing : (m : Map) (chan : ℕ) (under tag : Tag) (c : Channel) (receipt : Receipt) (closed : Bool)
    → Answers tag (and_then (after_did (start m) chan under (if closed then says Closed c else Waits Empty))
    (sequence [])) (RanKept receipt) → IsReplied receipt.replies
of_nothing m chan under tag c receipt true is = inr (ap (λ (r : Receipt). r.replies) is)
of_nothing m chan under tag c receipt false is = absurd is

-- .. and else it gets the first item
of_list : (m : Map) (chan : ℕ) (under tag : Tag) (c : Channel) (receipt : Receipt) (list : Option (List Item))
    → Answers tag (and_then (after_did (start m) chan under (with_list list (taking c 0 (Waits Empty)))) (sequence []))
    (RanKept receipt) → IsReplied receipt.replies
of_list m chan under tag c receipt None is = absurd is
of_list m chan under tag c receipt (Some []) is = of_nothing m chan under tag c receipt c.closed is
of_list m chan under tag c receipt (Some (item ∷ rest)) is = inl (item, ap (λ (r : Receipt). r.replies) is)

-- what is kept isn't worn
unworn : (tag : Tag) (receipt : Receipt) (outcome : Ending) (worn : Bool)
    → Answers tag (if worn then Aborted Worn else outcome) (RanKept receipt) → Answers tag outcome (RanKept receipt)
unworn tag receipt outcome true is = absurd is
unworn tag receipt outcome false is = is

of_read : (m : Map) (tag : Tag) (declared : List ℕ) (chan : ℕ) (receipt : Receipt)
    → Answers (kept_tag m tag declared) (transaction m tag declared (Do (Read chan 0) ∷ [])) (RanKept receipt)
    → IsReplied receipt.replies
of_read m tag declared chan receipt is =
    of_list m chan (kept_tag m tag declared) (kept_tag m tag declared) (m chan).channel receipt
    (list_of (m chan).channel 0)
    (subst (λ (outcome : Ending). Answers (kept_tag m tag declared) (and_then outcome (sequence [])) (RanKept receipt))
    (step_in-Do (kept_tag m tag declared) (Read chan 0) (start m))
    (unworn (kept_tag m tag declared) receipt (steps_in (kept_tag m tag declared) (Do (Read chan 0) ∷ []) (start m))
    (is_worn tag.serial || is_worn (greatest m tag.stamp declared)) is))

-- what was added last stands there
at_seam : {X : Type 0} (xs : List X) (x : X) → slice_get (xs ++ x ∷ []) (length xs) ≡ Some x
at_seam xs x = slice_get-get_or (xs ++ x ∷ []) (length xs) x (omega (arith, length-append xs (x ∷ [])))
    ∙ ap Some (get_or-append_seam xs x [] x)

-- the replies of a session's read that was kept
pub replied : (before after : SessionView) (chan number : ℕ)
    → HasCommittedSteps before (Do (Read chan 0) ∷ []) number after
    → IsReplied (replies_in (slice_get after.seat.receipts number))
replied before after chan number committed =
    let tells = committed.tells in
    let here : slice_get after.seat.receipts number ≡ Some tells.0 =
    subst (λ (s : SeatCommits). slice_get s.receipts number ≡ Some tells.0) (sym tells.2)
    (subst (λ n. slice_get (before.seat.receipts ++ tells.0 ∷ []) n ≡ Some tells.0) (sym tells.1)
    (at_seam before.seat.receipts tells.0)) in
    subst (λ (r : Option Receipt). IsReplied (replies_in r)) (sym here)
    (of_read committed.channels (next_tag before.seat) committed.plan.declared chan tells.0
    (subst (λ (steps : List Step). Answers (kept_tag committed.channels (next_tag before.seat) committed.plan.declared)
    (transaction committed.channels (next_tag before.seat) committed.plan.declared steps) (RanKept tells.0))
    committed.its tells.3))

-- .. where an item was read last
pub got : (replies : List Reply) (item : Item) → Some item ≡ last_item replies → IsReplied replies → IsOfItem replies
got replies item is (inl its) = its
got replies item is (inr closed) = let none : last_item replies ≡ None = ap last_item closed in absurd (cc)

-- .. or none
pub ended : (replies : List Reply) → None ≡ last_item replies → IsReplied replies → replies ≡ Closed ∷ []
ended replies is (inl its) = let some : last_item replies ≡ Some its.0 = ap last_item its.1 in absurd (cc)
ended replies is (inr closed) = closed
