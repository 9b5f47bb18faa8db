-- What follows of a receipt from its being a transaction's: a clause says that it is, and this is had from there.
use Rattle.std.proofs.Common.{◌≡◌, ◌≢◌, refl, sym, ◌∙◌, ap, subst, inl, inr, ℕ, ◌<◌, ◌+◌, Bool, true, false, ◌||◌, List}
use Rattle.std.proofs.Common.{[], ◌∷◌, ◌++◌, length, All, arith, if◌then◌else◌}
use Rattle.std.proofs.lemmas.Bool.Decides.{eqb_tells}
use Rattle.txc_base.specs.declared.act.Act.{Act}
use Rattle.txc_base.specs.declared.cause.Cause.{Cause}
use Rattle.txc_base.specs.declared.cause.Cause.TheVariants.{Asked}
use Rattle.txc_base.specs.declared.op.Op.{Op}
use Rattle.txc_base.specs.declared.stop.Stop.TheVariants.{Worn}
use Rattle.txc_base.specs.declared.tag.Tag.{Tag}
use Rattle.txc_base.specs.Log.{entries}
use Rattle.txc_base.specs.Op.{chan_of}
use Rattle.txc_base.specs.Operation.{Did, Replies, Waits, Stops, operate}
use Rattle.txc_chan.specs.Logged.{Logged, grown}
use Rattle.txc_txn_check.specs.declared.step.Step.{Step}
use Rattle.txc_txn_check.proofs.Induction.{EachBranch, EachStep, by_steps, each_of}
use Rattle.txc_txn.specs.declared.deed.Deed.{Deed}
use Rattle.txc_txn.specs.declared.ran.Ran.{Ran}
use Rattle.txc_txn.specs.declared.ran.Ran.TheVariants.{Kept as RanKept}
use Rattle.txc_txn.specs.declared.receipt.Receipt.{Receipt}
use Rattle.txc_txn.specs.Growth.{AllGrow, Grows}
use Rattle.txc_txn.specs.InLog.{ReceiptIsInLog}
use Rattle.txc_txn.specs.Maps.{Map, put_at, settle_all}
use Rattle.txc_txn.specs.Run.{PlacesRise, RanAs, RanSettled, alternatives, count_deeds, receipt_of}
use Rattle.txc_txn.specs.Transaction.{State, Ending, Kept, Again, Aborted, after_did, and_then, deeds_at, greatest}
use Rattle.txc_txn.specs.Transaction.{is_worn, kept_tag, op_in, or_else, start, step_in, steps_in, transaction}
use Rattle.txc_txn.proofs.Counting.{count_append, count_others, count_these}
use Rattle.txc_txn.proofs.Growing.{grow_on, grows_refl, grows_same}
use Rattle.txc_txn.proofs.Placing.{ArePlaced, logs_in, placed_more, stand_settled}
use Rattle.txc_txn.proofs.Running.{step_in-Do, step_in-Or, step_in-Retry}
use Rattle.txc_txn.proofs.Settling.{settle_keeps}
use Rattle.txc_txn.proofs.Stamps.{greatest_each, greatest_first}

-- a fact of where a transaction, or a part of it, goes on
abbrev pub IfGoesOn : Ending → (State → Type 0) → Type 0
IfGoesOn (Kept state) P = P state
IfGoesOn (Again cause) P = Unit {0}
IfGoesOn (Aborted stop) P = Unit {0}

-- a part of a transaction keeps a fact of where it stands
abbrev pub KeepsFact : (State → Type 0) → (State → Ending) → Type 0
KeepsFact P part = (s : State) → P s → IfGoesOn (part s) P

on_then : (P : State → Type 0) (ending : Ending) (next : State → Ending) → IfGoesOn ending P → KeepsFact P next
    → IfGoesOn (and_then ending next) P
on_then P (Kept s) next h keeps = keeps s h
on_then P (Again cause) next h keeps = tt
on_then P (Aborted stop) next h keeps = tt

on_else : (P : State → Type 0) (ending : Ending) (other : Cause → Ending) → IfGoesOn ending P
    → ((cause : Cause) → IfGoesOn (other cause) P)
    → IfGoesOn (or_else ending other) P
on_else P (Kept s) other h keeps = h
on_else P (Again cause) other h keeps = keeps cause
on_else P (Aborted stop) other h keeps = tt

on_steps : (P : State → Type 0) (tag : Tag) (steps : List Step)
    → EachStep (λ step. KeepsFact P (step_in tag step)) steps → KeepsFact P (steps_in tag steps)
on_steps P tag [] each s h = h
on_steps P tag (step ∷ steps) each s h = on_then P (step_in tag step s) (steps_in tag steps) (each.0 s h)
    (on_steps P tag steps each.1)

on_branches : (P : State → Type 0) (tag : Tag) (cause : Cause) (branches : List (List Step))
    → EachBranch (λ step. KeepsFact P (step_in tag step)) branches
    → KeepsFact P (alternatives tag cause branches)
on_branches P tag cause [] each s h = tt
on_branches P tag cause (branch ∷ branches) each s h =
    on_else P (steps_in tag branch s) (λ why. alternatives tag why branches s) (on_steps P tag branch each.0 s h)
    (λ why. on_branches P tag why branches each.1 s h)

-- what each operation keeps, steps keep
pub steps_keep : (P : State → Type 0) (tag : Tag) → ((op : Op) → KeepsFact P (op_in tag op)) → (steps : List Step)
    → KeepsFact P (steps_in tag steps)
steps_keep P tag on_op steps = on_steps P tag steps (each_of (λ step. KeepsFact P (step_in tag step)) on_step steps)
  where
    on_step : (step : Step) → KeepsFact P (step_in tag step)
    on_step = by_steps (λ step. KeepsFact P (step_in tag step))
        (λ op s h. subst (λ e. IfGoesOn e P) (sym (step_in-Do tag op s)) (on_op op s h))
        (λ branches each s h. subst (λ e. IfGoesOn e P) (sym (step_in-Or tag branches s))
        (on_branches P tag Asked branches each s h))
        (λ s h. subst (λ e. IfGoesOn e P) (sym (step_in-Retry tag s)) tt)

put_here : (m : Map) (n chan : ℕ) (l : Logged) → n ≡ chan → put_at m chan l n ≡ l
put_here m n chan l is = elim (eqb_tells n chan)
    [ inl t ↦ ap (λ b. if b then l else m n) t.0 | inr t ↦ absurd (t.1 is) ]

put_there : (m : Map) (n chan : ℕ) (l : Logged) → n ≢ chan → put_at m chan l n ≡ m n
put_there m n chan l other = elim (eqb_tells n chan)
    [ inl t ↦ absurd (other t.1) | inr t ↦ ap (λ b. if b then l else m n) t.0 ]

grows_put : (tag : Tag) (m : Map) (chan : ℕ) (l : Logged) → Grows tag (m chan) l → AllGrow tag m (put_at m chan l)
grows_put tag m chan l g n =
    elim (eqb_tells n chan) [
      | inl t ↦ subst (Grows tag (m n)) (sym (put_here m n chan l t.1)) (subst (λ k. Grows tag (m k) l) (sym t.1) g)
      | inr t ↦ grows_same tag (m n) (put_at m chan l n) (put_there m n chan l t.1)
    ]

-- where a transaction stands that began on these channels: they only grew, by entries under the tag, by as many as it
-- has
-- acts in each, which are in their places
pub record IsFrom (tag : Tag) (m : Map) (s : State) : Type 0 where
  pub grows : AllGrow tag m s.chans
  pub counted : (n : ℕ) → (s.chans n).pending ≡ (m n).pending + count_deeds n s.deeds
  pub placed : ArePlaced tag s.chans s.deeds

from_start : (tag : Tag) (m : Map) → IsFrom tag m (start m)
from_start tag m = record {
  grows = λ n. grows_refl tag (m n);
  counted = λ n. omega arith;
  placed = record { rise = λ i j one other lt h. cc; stand = λ i deed h. cc };
}

from_did : (tag : Tag) (m : Map) (chan : ℕ) (did : Did) (s : State) → IsFrom tag m s
    → IfGoesOn (after_did s chan tag did) (IsFrom tag m)
from_did tag m chan (Replies reply acts channel) s from = record {
  grows = grow_on tag m s.chans now from.grows more;
  counted = counted;
  placed = placed_more tag s.chans now s.deeds chan acts
      (ap (λ (k : Logged). k.log) (put_here s.chans chan chan l refl)) more from.placed;
}
  where
    l : Logged
    l = grown (s.chans chan) tag acts channel

    now : Map
    now = put_at s.chans chan l

    more : AllGrow tag s.chans now
    more = grows_put tag s.chans chan l (record { acts = acts; log = refl; pending = refl; stamp = refl; decl = refl })

    new : List Deed
    new = deeds_at chan (length (s.chans chan).log) acts

    counted : (n : ℕ) → (now n).pending ≡ (m n).pending + count_deeds n (s.deeds ++ new)
    counted n =
        elim (eqb_tells chan n) [
          | inl t ↦
              let here : (now n).pending ≡ (s.chans chan).pending + length acts =
              ap (λ (k : Logged). k.pending) (put_here s.chans n chan l (sym t.1)) in
              omega (
                arith,
                here,
                from.counted n,
                count_append n s.deeds new,
                count_these n chan (length (s.chans chan).log) acts t.0,
                ap (λ k. (s.chans k).pending) t.1,
              )
          | inr t ↦
              let there : (now n).pending ≡ (s.chans n).pending =
              ap (λ (k : Logged). k.pending) (put_there s.chans n chan l (λ is. t.1 (sym is))) in
              omega (
                arith,
                there,
                from.counted n,
                count_append n s.deeds new,
                count_others n chan (length (s.chans chan).log) acts t.0,
              )
        ]
from_did tag m chan (Waits cause) s from = tt
from_did tag m chan (Stops stop) s from = tt

-- a transaction that is kept stands where one does that began on its channels
from_transaction : (m : Map) (tag : Tag) (declared : List ℕ) (steps : List Step)
    → IfGoesOn (transaction m tag declared steps) (IsFrom (kept_tag m tag declared) m)
from_transaction m tag declared steps = of (is_worn tag.serial || is_worn (greatest m tag.stamp declared))
  where
    kept : Tag
    kept = kept_tag m tag declared

    of : (b : Bool) → IfGoesOn (if b then Aborted Worn else steps_in kept steps (start m)) (IsFrom kept m)
    of true = tt
    of false = steps_keep (IsFrom kept m) kept
        (λ op s. from_did kept m (chan_of op) (operate (s.chans (chan_of op)).channel kept.seat s.last op) s) steps
        (start m) (from_start kept m)

-- a receipt on channels that were such before, by a seat whose last stamp is the tag's: all that came to the logs bears
-- its
-- tag, of two acts in one channel the later has the higher place, each act is the entry at its place, and its stamp is
-- greater than the seat's and that of each declared channel
pub record IsOnLogs (m : Map) (tag : Tag) (declared : List ℕ) (after : Map) (receipt : Receipt) : Type 0 where
  pub tagged : (n : ℕ) → (acts : List Act) × ((after n).log ≡ (m n).log ++ entries receipt.tag acts)
  pub rise : PlacesRise receipt
  pub stand : ReceiptIsInLog (logs_in after) receipt
  pub seat : tag.stamp < receipt.tag.stamp
  pub later : All (λ n. (m n).stamp < receipt.tag.stamp) declared

-- .. whose acts can be undone: they are as many in each channel as it has entries more
pub record IsPending (m : Map) (tag : Tag) (declared : List ℕ) (after : Map) (receipt : Receipt) : Type 0 where
  pub grows : AllGrow receipt.tag m after
  pub counted : (n : ℕ) → (after n).pending ≡ (m n).pending + count_deeds n receipt.acts
  pub logs : IsOnLogs m tag declared after receipt

pending_of : (m : Map) (tag : Tag) (declared : List ℕ) (state : State) → IsFrom (kept_tag m tag declared) m state
    → IsPending m tag declared state.chans (receipt_of (kept_tag m tag declared) state)
pending_of m tag declared state from = record {
  grows = from.grows;
  counted = from.counted;
  logs = record {
    tagged = λ n. ((from.grows n).acts, (from.grows n).log);
    rise = from.placed.rise;
    stand = from.placed.stand;
    seat = omega (arith, greatest_first m tag.stamp declared);
    later = λ k d lt. omega (arith, greatest_each m tag.stamp declared k d lt);
  };
}

-- a receipt that is a transaction's can be undone so
pub is_pending : (m after : Map) (tag : Tag) (declared : List ℕ) (steps : List Step) (ran : Ran) (receipt : Receipt)
    → ran ≡ RanKept receipt
    → RanAs (kept_tag m tag declared) (transaction m tag declared steps) ran m after
    → IsPending m tag declared after receipt
is_pending m after tag declared steps ran receipt is h =
    of (transaction m tag declared steps) (from_transaction m tag declared steps)
    (subst (λ (x : Ran). RanAs (kept_tag m tag declared) (transaction m tag declared steps) x m after) is h)
  where
    of : (o : Ending) → IfGoesOn o (IsFrom (kept_tag m tag declared) m)
        → RanAs (kept_tag m tag declared) o (RanKept receipt) m after
        → IsPending m tag declared after receipt
    of (Kept state) from gave =
        subst (IsPending m tag declared after) (sym gave.0)
        (subst (λ (now : Map). IsPending m tag declared now (receipt_of (kept_tag m tag declared) state)) (sym gave.1)
        (pending_of m tag declared state from))
    of (Again cause) from gave = absurd gave
    of (Aborted stop) from gave = absurd gave

-- .. and one whose channels are settled is on the logs
pub is_on_logs : (m after : Map) (tag : Tag) (declared : List ℕ) (steps : List Step) (ran : Ran) (receipt : Receipt)
    → ran ≡ RanKept receipt
    → RanSettled (kept_tag m tag declared) declared (transaction m tag declared steps) ran m after
    → IsOnLogs m tag declared after receipt
is_on_logs m after tag declared steps ran receipt is h =
    of (transaction m tag declared steps) (from_transaction m tag declared steps)
    (subst (λ (x : Ran). RanSettled kept declared (transaction m tag declared steps) x m after) is h)
  where
    kept : Tag
    kept = kept_tag m tag declared

    settled_logs : (state : State) → IsFrom kept m state
        → IsOnLogs m tag declared (settle_all state.chans kept.stamp declared) (receipt_of kept state)
    settled_logs state from =
        let p = pending_of m tag declared state from in
        record {
          tagged = λ n. (
            (from.grows n).acts,
            settle_keeps (λ l. l.log) kept.stamp (λ l. refl) state.chans declared n
                ∙ (from.grows n).log,
          );
          rise = p.logs.rise;
          stand = stand_settled state.chans kept.stamp declared (receipt_of kept state) p.logs.stand;
          seat = p.logs.seat;
          later = p.logs.later;
        }

    of : (o : Ending) → IfGoesOn o (IsFrom kept m) → RanSettled kept declared o (RanKept receipt) m after
        → IsOnLogs m tag declared after receipt
    of (Kept state) from gave =
        subst (IsOnLogs m tag declared after) (sym gave.0)
        (subst (λ (now : Map). IsOnLogs m tag declared now (receipt_of kept state)) (sym gave.1)
        (settled_logs state from))
    of (Again cause) from gave = absurd gave
    of (Aborted stop) from gave = absurd gave
