-- An open transaction goes on: its operations are one transaction's steps, and its savepoints stay.
use Rattle.std.proofs.Common.{◌≡◌, refl, sym, ◌∙◌, ap, subst, ℕ, ◌≤◌, arith}
use Rattle.std.proofs.Common.{List, [], ◌∷◌, ◌++◌, length, map, take, drop}
use Rattle.std.proofs.Common.{Result, Ok, Err, IfOk, OnErr}
use Rattle.std.proofs.Math.Seq.{take-length}
use Rattle.std.proofs.lemmas.List.{length-take, take-append-drop, take-append-le}
use Rattle.txc_base.specs.declared.kind.Kind.{Kind}
use Rattle.txc_base.specs.declared.op.Op.{Op}
use Rattle.txc_base.specs.declared.tag.Tag.{Tag}
use Rattle.txc_chan.specs.ChanView.{ChanView}
use Rattle.txc_txn_check.specs.declared.step.Step.TheVariants.{Do}
use Rattle.txc_txn.specs.declared.open_savepoint.OpenSavepoint.{OpenSavepoint}
use Rattle.txc_txn.specs.declared.open_transaction.OpenTransaction.{OpenTransaction}
use Rattle.txc_txn.specs.declared.trace.Trace.{Trace}
use Rattle.txc_txn.specs.Growth.{AllGrow, IsMarked}
use Rattle.txc_txn.specs.Maps.{Map}
use Rattle.txc_txn.specs.OpenTransaction.{IsMarkedSince}
use Rattle.txc_txn.specs.Plain.{chan_in}
use Rattle.txc_txn.specs.Run.{KeepsTrace, state_of}
use Rattle.txc_txn.specs.Transaction.{Ending, Kept, Again, Aborted, State}
use Rattle.txc_txn.specs.Transaction.{and_then, op_in, sequence, start, step_in, steps_in}
use Rattle.txc_txn.proofs.Running.{states_equal, step_in-Do}
use Rattle.yalwythen_domain.specs.Channels.{DomainChannels}
use Rattle.yalwythen_domain.specs.Opened.{IsOpenAt, IsRolledBackTo, IsSavedAt, Precedes}

-- where one step runs as this operation, it and nothing else is that operation
then_nothing : (step ending : Ending) → step ≡ ending → and_then step (sequence []) ≡ ending
then_nothing step (Kept state) same = ap (λ e. and_then e (sequence [])) same
then_nothing step (Again cause) same = ap (λ e. and_then e (sequence [])) same
then_nothing step (Aborted stop) same = ap (λ e. and_then e (sequence [])) same

-- where all is the first part and then the last one, it is so behind anything
then_both : (ending : Ending) (all first last : State → Ending)
    → ((state : State) → all state ≡ and_then (first state) last)
    → and_then ending all ≡ and_then (and_then ending first) last
then_both (Kept state) all first last each = each state
then_both (Again cause) all first last each = refl
then_both (Aborted stop) all first last each = refl

-- one operation more runs where those before it end
pub one_operation_more : (tag : Tag) (ops : List Op) (op : Op) (state : State)
    → steps_in tag (map Do (ops ++ op ∷ [])) state ≡ and_then (steps_in tag (map Do ops) state) (op_in tag op)
one_operation_more tag [] op state =
    then_nothing (step_in tag (Do op) state) (op_in tag op state) (step_in-Do tag op state)
one_operation_more tag (first ∷ ops) op state =
    then_both (step_in tag (Do first) state) (steps_in tag (map Do (ops ++ op ∷ []))) (steps_in tag (map Do ops))
    (op_in tag op) (one_operation_more tag ops op)

-- a transaction that ran these operations has run one more
pub goes_on : (began : Map) (ops : List Op) (op : Op) (old new : DomainChannels) → IsOpenAt began ops old
    → op_in old.txn.tag op (state_of (chan_in old.held) old.txn.trace)
    ≡ Kept (state_of (chan_in new.held) new.txn.trace)
    → new.txn.tag ≡ old.txn.tag → IsMarkedSince [] new.txn began (chan_in new.held)
    → IsOpenAt began (ops ++ op ∷ []) new
goes_on began ops op old new opened ran same marked = record {
  runs = subst (λ (tag : Tag). steps_in tag (map Do (ops ++ op ∷ [])) (start began)
      ≡ Kept (state_of (chan_in new.held) new.txn.trace)) (sym same)
      (one_operation_more old.txn.tag ops op (start began)
      ∙ ap (λ (ending : Ending). and_then ending (op_in old.txn.tag op)) opened.runs ∙ ran);
  marked = marked;
}

-- a front of what was there is a front of what has it in front
still_front : {A : Type 0} (n : ℕ) (front all more : List A) → n ≡ length front → take n all ≡ front
    → take (length all) more ≡ all → take n more ≡ front
still_front n front all more same front_is all_is =
    let taken = length-take n all in let as_long = ap length front_is in
    let short : n ≤ length all = omega (arith, taken, as_long, same) in
    ap (take n) (sym (take-append-drop (length all) more) ∙ ap (λ xs. xs ++ drop (length all) more) all_is)
    ∙ take-append-le n all (drop (length all) more) short ∙ front_is

-- a savepoint stays where more ran
pub still_saved : (savepoint : OpenSavepoint) (at : Map) (trace : Trace) (old new : DomainChannels)
    → KeepsTrace old.txn.trace new.txn.trace
    → (IsMarkedSince savepoint.marks.items old.txn at (chan_in old.held)
    → IsMarkedSince savepoint.marks.items new.txn at (chan_in new.held))
    → IsSavedAt savepoint at trace old → IsSavedAt savepoint at trace new
still_saved savepoint at trace old new keeps marked saved = record {
  marked = marked saved.marked;
  last = saved.last;
  counts = saved.counts;
  replies = still_front savepoint.replies trace.replies.items old.txn.trace.replies.items new.txn.trace.replies.items
      saved.counts.0 saved.replies keeps.0;
  deeds = still_front savepoint.deeds trace.deeds.items old.txn.trace.deeds.items new.txn.trace.deeds.items
      saved.counts.1 saved.deeds keeps.1;
}

-- a savepoint is of where it was set
pub saved_here : (savepoint : OpenSavepoint) (held : List ChanView) (kinds : List Kind) (txn : OpenTransaction)
    (savepoints : List OpenSavepoint) → IsMarkedSince savepoint.marks.items txn (chan_in held) (chan_in held)
    → (savepoint.last ≡ txn.trace.last) × (savepoint.replies ≡ length txn.trace.replies.items)
    × (savepoint.deeds ≡ length txn.trace.deeds.items)
    → IsSavedAt savepoint (chan_in held) txn.trace (record {
      held = held;
      kinds = kinds;
      txn = txn;
      savepoints =
          savepoints;
    })
saved_here savepoint held kinds txn savepoints marked counts = record {
  marked = marked;
  last = counts.0;
  counts = (counts.1, counts.2);
  replies = ap (λ n. take n txn.trace.replies.items) counts.1 ∙ take-length txn.trace.replies.items;
  deeds = ap (λ n. take n txn.trace.deeds.items) counts.2 ∙ take-length txn.trace.deeds.items;
}

-- a savepoint that was set before precedes where the open transaction is now
pub precedes_now : (savepoint : OpenSavepoint) (at : Map) (trace : Trace) (c : DomainChannels)
    → IsSavedAt savepoint at trace c → Precedes c.txn.tag at trace (chan_in c.held) c.txn.trace
precedes_now savepoint at trace c saved = record {
  grown = saved.marked.1.grows;
  keeps = (
    ap (λ n. take n c.txn.trace.replies.items) (sym saved.counts.0) ∙ saved.replies,
    ap (λ n. take n c.txn.trace.deeds.items) (sym saved.counts.1) ∙ saved.deeds,
  );
}

-- channels that are at a later mark again can still be undone to an earlier one
marked_back : (tag : Tag) (touched marks marks' : List ℕ) (before at now : Map) → IsMarked tag touched marks before now
    → IsMarked tag touched marks' at now → AllGrow tag before at → IsMarked tag touched marks before at
marked_back tag touched marks marks' before at now one other grown = record {
  made = one.made;
  lawful = one.lawful;
  others = λ n no. sym (other.others n no) ∙ one.others n no;
  grows = grown;
}

-- the same of the marks of an open transaction
since_back : (saved saved' : List ℕ) (txn txn' : OpenTransaction) (before at now now' : Map) → txn'.tag ≡ txn.tag
    → txn'.touched ≡ txn.touched → txn'.marks ≡ txn.marks → now' ≡ at → IsMarkedSince saved txn before now
    → IsMarkedSince saved' txn at now → AllGrow txn.tag before at → IsMarkedSince saved txn' before now'
since_back saved saved' txn txn' before at now now' tag touched marks here one other grown =
    subst (λ (m : Map). IsMarkedSince saved txn' before m) (sym here)
    (rw (tag, touched, marks) (one.0, marked_back txn.tag txn.touched.items _ _ before at now one.1 other.1 grown))

-- an open transaction that was rolled back to a savepoint
pub rolled_back : (savepoint : OpenSavepoint) (c c' : DomainChannels)
    → ((at : Map) → IsMarkedSince savepoint.marks.items c.txn at (chan_in c.held) → chan_in c'.held ≡ at)
    → c'.txn.trace.last ≡ savepoint.last
    → c'.txn.trace.replies.items ≡ take savepoint.replies c.txn.trace.replies.items
    → c'.txn.trace.deeds.items ≡ take savepoint.deeds c.txn.trace.deeds.items
    → (c'.txn.tag ≡ c.txn.tag) × (c'.txn.touched ≡ c.txn.touched) × (c'.txn.marks ≡ c.txn.marks)
    → IsRolledBackTo savepoint c c'
rolled_back savepoint c c' back last replies deeds rest = record {
  back = λ at trace saved. (back at saved.marked, state_back at trace saved);
  touched = (rest.1, rest.2);
  marked = λ began at trace saved grown marked.
      since_back [] savepoint.marks.items c.txn c'.txn began at (chan_in c.held) (chan_in c'.held) rest.0 rest.1 rest.2
      (back at saved.marked) marked saved.marked grown;
  goes_on = λ began at ops trace saved had marked. record {
    runs = rw rest.0 (had.runs ∙ ap Kept (sym (states_equal (chan_in c'.held) at c'.txn.trace trace
        (back at saved.marked) (last ∙ saved.last) (replies ∙ saved.replies) (deeds ∙ saved.deeds))));
    marked = since_back [] savepoint.marks.items c.txn c'.txn began at (chan_in c.held) (chan_in c'.held) rest.0 rest.1
        rest.2 (back at saved.marked) marked saved.marked had.grown;
  };
  saved = λ point at at' trace trace' saved' saved precedes. record {
    marked = since_back point.marks.items savepoint.marks.items c.txn c'.txn at at' (chan_in c.held) (chan_in c'.held)
        rest.0 rest.1 rest.2 (back at' saved'.marked) saved.marked saved'.marked precedes.grown;
    last = saved.last;
    counts = saved.counts;
    replies = ap (take point.replies) (replies ∙ saved'.replies)
        ∙ ap (λ n. take n trace'.replies.items) saved.counts.0 ∙ precedes.keeps.0;
    deeds = ap (take point.deeds) (deeds ∙ saved'.deeds)
        ∙ ap (λ n. take n trace'.deeds.items) saved.counts.1 ∙ precedes.keeps.1;
  };
}
  where
    state_back : (at : Map) (trace : Trace) → IsSavedAt savepoint at trace c
        → state_of at c'.txn.trace ≡ state_of at trace
    state_back at trace saved = states_equal at at c'.txn.trace trace refl (last ∙ saved.last) (replies ∙ saved.replies)
        (deeds ∙ saved.deeds)

-- two facts of what is well give a third one
pub both_ok : {A E : Type 0} (result : Result A E) (P Q R : A → Type 0) → IfOk result P → IfOk result Q
    → ((value : A) → P value → Q value → R value) → IfOk result R
both_ok (Ok value) P Q R p q r = r value p q
both_ok (Err fault) P Q R p q r = tt

-- a fact where there is a fault gives another one
pub then_on_err : {A E : Type 0} (result : Result A E) (P R : Type 0) → OnErr result P → (P → R) → OnErr result R
then_on_err (Ok value) P R p r = tt
then_on_err (Err fault) P R p r = r p
