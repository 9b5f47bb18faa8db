-- The acts that a run reads back from a log are those of the operation.
use Rattle.std.proofs.Common.{◌≡◌, refl, sym, ◌∙◌, ap, ℕ, zero, suc, ◌≤◌, ◌+◌, ◌-◌, Some, List, [], ◌∷◌, ◌++◌, length}
use Rattle.std.proofs.Common.{take, drop, arith, slice_get, append_assoc}
use Rattle.std.proofs.lemmas.Grind.{common_steps}
use Rattle.txc_base.specs.declared.act.Act.{Act}
use Rattle.txc_base.specs.declared.entry.Entry.{Entry}
use Rattle.txc_base.specs.declared.reply.Reply.{Reply}
use Rattle.txc_base.specs.declared.tag.Tag.{Tag}
use Rattle.txc_base.specs.Log.{entries}
use Rattle.txc_base.specs.Operation.{Did, Replies, Waits, Stops}
use Rattle.txc_base.specs.Reply.{last_read_after}
use Rattle.txc_chan.specs.Logged.{Logged, on_log, Left, grown}
use Rattle.txc_txn.specs.declared.deed.Deed.{Deed}
use Rattle.txc_txn.specs.Maps.{put_at}
use Rattle.txc_txn.specs.Run.{deeds_of}
use Rattle.txc_txn.specs.Transaction.{State, Kept, after_did, deeds_at}

pub drop_entries : (xs ys : List Entry) → drop (length xs) (xs ++ ys) ≡ ys
drop_entries xs ys = grind (arith, common_steps)

deeds_entries : (tag : Tag) (chan place : ℕ) (acts : List Act)
    → deeds_at chan place acts ≡ deeds_of chan place (entries tag acts)
deeds_entries tag chan place [] = refl
deeds_entries tag chan place (act ∷ acts) = ap (λ l. record { chan = chan; place = place; act = act } ∷ l)
    (deeds_entries tag chan (suc place) acts)

-- where an operation's reply leaves a transaction, told by the channel's log after it
pub op_kept : (s : State) (chan : ℕ) (tag : Tag) (did : Did) (reply : Reply) (l' : Logged)
    → on_log (s.chans chan) tag did ≡ Left reply l' →
    after_did s chan tag did ≡ Kept (record {
      chans = put_at s.chans chan l';
      last = last_read_after reply s.last;
      replies = s.replies ++ reply ∷ [];
      deeds = s.deeds ++ deeds_of chan (length (s.chans chan).log) (drop (length (s.chans chan).log) l'.log);
    })
op_kept s chan tag (Replies r acts c) reply l' e =
    let is : grown (s.chans chan) tag acts c ≡ l' = cc in
    let who : r ≡ reply = cc in
    let ds : deeds_at chan (length (s.chans chan).log) acts ≡ deeds_of chan (length (s.chans chan).log)
    (drop (length (s.chans chan).log) l'.log) =
    deeds_entries tag chan (length (s.chans chan).log) acts
    ∙ ap (deeds_of chan (length (s.chans chan).log)) (sym (drop_entries (s.chans chan).log (entries tag acts)))
    ∙ ap (λ (l : Logged). deeds_of chan (length (s.chans chan).log) (drop (length (s.chans chan).log) l.log)) is in
    λ i. Kept (record {
      chans = put_at s.chans chan (is i);
      last = last_read_after (who i) s.last;
      replies = s.replies ++ who i ∷ [];
      deeds = s.deeds ++ ds i;
    })
op_kept s chan tag (Waits cause) reply l' e = cc
op_kept s chan tag (Stops stop) reply l' e = cc

deeds_next : (chan p i : ℕ) (es : List Entry) (e : Entry) → slice_get es i ≡ Some e
    → deeds_of chan p (take (suc i) es) ≡ deeds_of chan p (take i es) ++ record {
      chan = chan;
      place = p + i;
      act = e.act;
    } ∷ []
deeds_next chan p i [] e h = cc
deeds_next chan p zero (x ∷ es) e h =
    let is : x ≡ e = cc in
    let at : p ≡ p + 0 = omega arith in
    λ j. record { chan = chan; place = at j; act = (is j).act } ∷ []
deeds_next chan p (suc i) (x ∷ es) e h =
    let at : suc p + i ≡ p + suc i = omega arith in
    ap (λ l. record { chan = chan; place = p; act = x.act } ∷ l)
    (deeds_next chan (suc p) i es e h
    ∙ ap (λ k. deeds_of chan (suc p) (take i es) ++ record { chan = chan; place = k; act = e.act } ∷ []) at)

pub get_drop : (p i k : ℕ) (xs : List Entry) → k ≡ p + i → slice_get (drop p xs) i ≡ slice_get xs k
get_drop zero i k xs e = let is : i ≡ k = omega (arith, e) in ap (slice_get xs) is
get_drop (suc p) i k [] e = refl
get_drop (suc p) i zero (x ∷ xs) e = absurd (omega (arith, e))
get_drop (suc p) i (suc k) (x ∷ xs) e = get_drop p i k xs (omega (arith, e))

-- the acts of one entry more
deeds_more : (chan place at : ℕ) (log : List Entry) (e : Entry) → place ≤ at → slice_get log at ≡ Some e →
    deeds_of chan place (take (at + 1 - place) (drop place log))
    ≡ deeds_of chan place (take (at - place) (drop place log)) ++ record { chan = chan; place = at; act = e.act } ∷ []
deeds_more chan place at log e le h =
    let k : suc (at - place) ≡ at + 1 - place = omega arith in
    let there : slice_get (drop place log) (at - place) ≡ Some e =
    get_drop place (at - place) at log (omega (arith, le)) ∙ h in
    let p : place + (at - place) ≡ at = omega arith in
    ap (λ n. deeds_of chan place (take n (drop place log))) (sym k)
    ∙ deeds_next chan place (at - place) (drop place log) e there
    ∙ ap (λ n. deeds_of chan place (take (at - place) (drop place log)) ++ record {
      chan = chan;
      place = n;
      act = e.act;
    } ∷ []) p

-- .. after those that a trace had before
pub deeds_pushed : (old now pushed : List Deed) (chan place at : ℕ) (log : List Entry) (e : Entry) → place ≤ at
    → slice_get log at ≡ Some e
    → now ≡ old ++ deeds_of chan place (take (at - place) (drop place log))
    → pushed ≡ now ++ record { chan = chan; place = at; act = e.act } ∷ []
    → pushed ≡ old ++ deeds_of chan place (take (at + 1 - place) (drop place log))
deeds_pushed old now pushed chan place at log e le there before push =
    push ∙ ap (λ l. l ++ one) before ∙ append_assoc old (deeds_of chan place (take (at - place) (drop place log))) one
    ∙ ap (λ l. old ++ l) (sym (deeds_more chan place at log e le there))
  where
    one : List Deed
    one = record { chan = chan; place = at; act = e.act } ∷ []
