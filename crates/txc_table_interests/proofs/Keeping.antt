-- The kinds of channels stay, whatever comes to a channel and whatever a transaction does.
use Rattle.std.proofs.Common.{◌≡◌, refl, sym, ◌∙◌, ap, subst, ℕ, Bool, true, false, ◌&&◌, Option, Some, None, List, []}
use Rattle.std.proofs.Common.{◌∷◌, map, length, is_none, slice_get, nat_le, if◌then◌else◌}
use Rattle.std.proofs.lemmas.Bool.Decides.{eqb_tells}
use Rattle.std.proofs.Common.{inl, inr}
use Rattle.txc_base.specs.declared.act.Act.{Act}
use Rattle.txc_base.specs.declared.act.Act.TheVariants as act
use Rattle.txc_base.specs.declared.cause.Cause.{Cause}
use Rattle.txc_base.specs.declared.cause.Cause.TheVariants.{Full, Empty, Asked}
use Rattle.txc_base.specs.declared.item.Item.{Item}
use Rattle.txc_base.specs.declared.op.Op.{Op}
use Rattle.txc_base.specs.declared.op.Op.TheVariants.{Write, TryWrite, Read, TryRead, Peek, TryPeek, PutBack, Close}
use Rattle.txc_base.specs.declared.op.Op.TheVariants.{IsClosed, IsEmpty, IsFull, Dup, CloneReader, Flush, Length}
use Rattle.txc_base.specs.declared.reply.Reply.TheVariants as reply
use Rattle.txc_base.specs.declared.tag.Tag.{Tag}
use Rattle.txc_base.specs.Channel.{Channel, list_of}
use Rattle.txc_base.specs.declared.limits.TheConstants.{MAX_READERS}
use Rattle.txc_base.specs.Kinds.{is_bounded}
use Rattle.txc_base.specs.Op.{chan_of}
use Rattle.txc_base.specs.Operation.{Did, Replies, Waits, Stops, says, body_of, with_body, with_list, while_open}
use Rattle.txc_base.specs.Operation.{is_full, with_room, is_plain_bounded, next_written, next_back, with_left}
use Rattle.txc_base.specs.Operation.{with_reader, wrote, put_back, taking, showing, reader_made, operate}
use Rattle.txc_chan.specs.Logged.{grown}
use Rattle.txc_txn_check.specs.declared.step.Step.{Step}
use Rattle.txc_txn_check.proofs.Induction.{EachStep, EachBranch, by_steps}
use Rattle.txc_base_laws.proofs.Acts.{Leads}
use Rattle.txc_txn.proofs.Running.{step_in-Do, step_in-Or, step_in-Retry}
use Rattle.txc_txn.specs.Maps.{Map}
use Rattle.txc_txn.specs.Run.{alternatives}
use Rattle.txc_txn.specs.Transaction.{State, Ending, Kept, Again, Aborted, after_did, step_in, steps_in, and_then}
use Rattle.txc_txn.specs.Transaction.{or_else}

-- a lawful act keeps the kind
pub act_keeps : (c : Channel) (seat : ℕ) (a : Act) (c' : Channel) → Leads c seat a c' → c'.kind ≡ c.kind
act_keeps c seat (act.Wrote item) c' h = ap (λ (x : Channel). x.kind) h.1.1.1
act_keeps c seat (act.Took reader item) c' h = ap (λ (x : Channel). x.kind) h.1.1
act_keeps c seat (act.PutBack reader item) c' h = ap (λ (x : Channel). x.kind) h.1.1.1.1.1
act_keeps c seat act.Closed c' h = ap (λ (x : Channel). x.kind) h.1.1
act_keeps c seat (act.Begun reader) c' h = ap (λ (x : Channel). x.kind) h.1.1.1
act_keeps c seat (act.Cloned source reader) c' h = ap (λ (x : Channel). x.kind) h.1.1.1.1.1

-- what was done left a channel of the same kind
abbrev KindStays : Channel → Did → Type 0
KindStays c (Replies answer acts left) = left.kind ≡ c.kind
KindStays c (Waits cause) = Unit {0}
KindStays c (Stops stop) = Unit {0}

-- past the test for a body
body_keeps : (c : Channel) (o : Option ℕ) (next : ℕ → Did) → ((b : ℕ) → KindStays c (next b))
    → KindStays c (with_body o next)
body_keeps c None next h = tt
body_keeps c (Some b) next h = h b

-- past the test for a reader
list_keeps : (c : Channel) (o : Option (List Item)) (next : List Item → Did) → ((l : List Item) → KindStays c (next l))
    → KindStays c (with_list o next)
list_keeps c None next h = tt
list_keeps c (Some l) next h = h l

-- past any test
if_keeps : (c : Channel) (test : Bool) (x y : Did) → KindStays c x → KindStays c y → KindStays c (if test then x else y)
if_keeps c true x y h k = h
if_keeps c false x y h k = k

-- past the test for an open channel
open_keeps : (c : Channel) (next : Did) → KindStays c next → KindStays c (while_open c next)
open_keeps c next h = if_keeps c c.closed (says reply.Closed c) next refl h

-- a write
write_keeps : (c : Channel) (o : Option ℕ) (item : ℕ → Item) (without : Did) → KindStays c without
    → KindStays c (with_body o (λ b. while_open c (with_room c without (wrote c (item b)))))
write_keeps c o item without h =
    body_keeps c o (λ b. while_open c (with_room c without (wrote c (item b))))
    (λ b. open_keeps c (with_room c without (wrote c (item b)))
    (if_keeps c (is_bounded c.kind && is_full c) without (wrote c (item b)) h refl))

-- a put-back
back_keeps : (c : Channel) (o : Option ℕ) (reader : ℕ) (item : ℕ → Item)
    → KindStays c (with_body o (λ b. with_list (list_of c reader)
    (λ list. while_open c (if is_plain_bounded c.kind && is_full c then Waits Full else put_back c reader list
    (item b)))))
back_keeps c o reader item =
    body_keeps c o (λ b. with_list (list_of c reader)
    (λ list. while_open c (if is_plain_bounded c.kind && is_full c then Waits Full else put_back c reader list
    (item b))))
    (λ b. list_keeps c (list_of c reader)
    (λ list. while_open c (if is_plain_bounded c.kind && is_full c then Waits Full else put_back c reader list
    (item b)))
    (λ list. open_keeps c (if is_plain_bounded c.kind && is_full c then Waits Full else put_back c reader list (item b))
    (if_keeps c (is_plain_bounded c.kind && is_full c) (Waits Full) (put_back c reader list (item b)) tt refl)))

-- a read of a list
taking_keeps : (c : Channel) (reader : ℕ) (without : Did) → KindStays c without → (list : List Item)
    → KindStays c (taking c reader without list)
taking_keeps c reader without h [] = open_keeps c without h
taking_keeps c reader without h (item ∷ rest) = refl

-- a peek at a list
showing_keeps : (c : Channel) (without : Did) → KindStays c without → (list : List Item)
    → KindStays c (showing c without list)
showing_keeps c without h [] = open_keeps c without h
showing_keeps c without h (item ∷ rest) = refl

-- a new reader
reader_keeps : (c : Channel) (made : ℕ → Act) (list : List Item) → KindStays c (reader_made c made list)
reader_keeps c made list =
    if_keeps c (nat_le MAX_READERS (length c.lists)) _
    (Replies (reply.Reader (length c.lists)) (made (length c.lists) ∷ []) (with_reader c list)) tt refl

-- an operation
operate_keeps : (c : Channel) (seat : ℕ) (last : Option ℕ) (op : Op) → KindStays c (operate c seat last op)
operate_keeps c seat last (Write chan body) = write_keeps c (body_of last body) (next_written c seat) (Waits Full) tt
operate_keeps c seat last (TryWrite chan body) = write_keeps c (body_of last body) (next_written c seat)
    (says reply.Full c) refl
operate_keeps c seat last (Read chan reader) = list_keeps c (list_of c reader) (taking c reader (Waits Empty))
    (taking_keeps c reader (Waits Empty) tt)
operate_keeps c seat last (TryRead chan reader) = list_keeps c (list_of c reader) (taking c reader (says reply.Empty c))
    (taking_keeps c reader (says reply.Empty c) refl)
operate_keeps c seat last (Peek chan reader) = list_keeps c (list_of c reader) (showing c (Waits Empty))
    (showing_keeps c (Waits Empty) tt)
operate_keeps c seat last (TryPeek chan reader) = list_keeps c (list_of c reader) (showing c (says reply.Empty c))
    (showing_keeps c (says reply.Empty c) refl)
operate_keeps c seat last (PutBack chan reader body) = back_keeps c (body_of last body) reader (next_back c seat)
operate_keeps c seat last (Close chan) =
    if_keeps c c.closed (says reply.Done c) (Replies reply.Done (act.Closed ∷ []) (record c { closed = true })) refl
    refl
operate_keeps c seat last (IsClosed chan) = refl
operate_keeps c seat last (IsEmpty chan reader) =
    list_keeps c (list_of c reader) (λ list. says (reply.Flag (is_none (slice_get list 0))) c) (λ list. refl)
operate_keeps c seat last (IsFull chan) = refl
operate_keeps c seat last (Dup chan) = reader_keeps c act.Begun []
operate_keeps c seat last (CloneReader chan reader) =
    list_keeps c (list_of c reader) (reader_made c (act.Cloned reader)) (reader_keeps c (act.Cloned reader))
operate_keeps c seat last (Flush chan reader) =
    list_keeps c (list_of c reader)
    (λ list. Replies (reply.All list) (map (act.Took reader) list) (with_left c reader [])) (λ list. refl)
operate_keeps c seat last (Length chan) = refl

-- where it goes on, each channel has the kind that it had
abbrev pub SameKinds : Map → Ending → Type 0
SameKinds m (Kept s) = (n : ℕ) → (s.chans n).channel.kind ≡ (m n).channel.kind
SameKinds m (Again cause) = Unit {0}
SameKinds m (Aborted stop) = Unit {0}

-- what was done to a channel in a transaction
did_keeps : (s : State) (chan : ℕ) (tag : Tag) (did : Did) → KindStays (s.chans chan).channel did
    → SameKinds s.chans (after_did s chan tag did)
did_keeps s chan tag (Replies answer acts left) h = λ n.
    elim (eqb_tells n chan) [
      | inl t ↦ ap (λ (b : Bool). (if b then grown (s.chans chan) tag acts left else s.chans n).channel.kind) t.0 ∙ h
          ∙ ap (λ k. (s.chans k).channel.kind) (sym t.1)
      | inr t ↦ ap (λ (b : Bool). (if b then grown (s.chans chan) tag acts left else s.chans n).channel.kind) t.0
    ]
did_keeps s chan tag (Waits cause) h = tt
did_keeps s chan tag (Stops stop) h = tt

-- from an earlier map
from_earlier : (m n : Map) (o : Ending) → ((k : ℕ) → (n k).channel.kind ≡ (m k).channel.kind) → SameKinds n o
    → SameKinds m o
from_earlier m n (Kept s) h e = λ k. e k ∙ h k
from_earlier m n (Again cause) h e = tt
from_earlier m n (Aborted stop) h e = tt

-- one after another
then_keeps : (m : Map) (o : Ending) (next : State → Ending) → SameKinds m o → ((s : State) → SameKinds s.chans (next s))
    → SameKinds m (and_then o next)
then_keeps m (Kept s) next h k = from_earlier m s.chans (next s) h (k s)
then_keeps m (Again cause) next h k = tt
then_keeps m (Aborted stop) next h k = tt

-- one or another
else_keeps : (m : Map) (o : Ending) (other : Cause → Ending) → SameKinds m o → ((c : Cause) → SameKinds m (other c))
    → SameKinds m (or_else o other)
else_keeps m (Kept s) other h k = h
else_keeps m (Again cause) other h k = k cause
else_keeps m (Aborted stop) other h k = tt

-- a step keeps the kinds
abbrev Keeps : Step → Type 0
Keeps step = (tag : Tag) (s : State) → SameKinds s.chans (step_in tag step s)

steps_keep : (steps : List Step) → EachStep Keeps steps → (tag : Tag) (s : State)
    → SameKinds s.chans (steps_in tag steps s)
steps_keep [] each tag s = λ n. refl
steps_keep (step ∷ steps) each tag s = then_keeps s.chans (step_in tag step s) (steps_in tag steps) (each.0 tag s)
    (λ t. steps_keep steps each.1 tag t)

branches_keep : (bs : List (List Step)) → EachBranch Keeps bs → (tag : Tag) (cause : Cause) (s : State)
    → SameKinds s.chans (alternatives tag cause bs s)
branches_keep [] each tag cause s = tt
branches_keep (b ∷ bs) each tag cause s =
    else_keeps s.chans (steps_in tag b s) (λ why. alternatives tag why bs s) (steps_keep b each.0 tag s)
    (λ why. branches_keep bs each.1 tag why s)

-- every step keeps the kinds
pub keeps : (step : Step) → Keeps step
keeps = by_steps Keeps
    (λ op tag s. subst (SameKinds s.chans) (sym (step_in-Do tag op s))
    (did_keeps s (chan_of op) tag (operate (s.chans (chan_of op)).channel tag.seat s.last op)
    (operate_keeps (s.chans (chan_of op)).channel tag.seat s.last op)))
    (λ bs each tag s. subst (SameKinds s.chans) (sym (step_in-Or tag bs s)) (branches_keep bs each tag Asked s))
    (λ tag s. subst (SameKinds s.chans) (sym (step_in-Retry tag s)) tt)
