-- Channels with one more, and with one less.
use Rattle.std.proofs.Common.{◌≡◌, ◌≢◌, refl, sym, ◌∙◌, ap, subst, inl, inr, ℕ, zero, suc, ◌<◌, nat_eq, arith}
use Rattle.std.proofs.Common.{if◌then◌else◌, Some, List, [], ◌∷◌, ◌++◌, length, map, slice_get, get_or}
use Rattle.std.proofs.Common.{Bool, true, false, ◌||◌, not, nat_lt}
use Rattle.std.proofs.Common.{Contains, All, take, ◌-◌, Option, None, IfSome, IfNone}
use Rattle.std.proofs.lemmas.Bool.Decides.{eqb_tells}
use Rattle.std.proofs.lemmas.List.{length-append, length-take}
use Rattle.std.proofs.lemmas.List.Elements.{All-contains_itself, All-tail}
use Rattle.txc_base.specs.declared.kind.Kind.{Kind}
use Rattle.txc_base.specs.declared.op.Op.{Op}
use Rattle.txc_base.specs.declared.tag.Tag.{Tag}
use Rattle.txc_base.specs.Op.{chan_of}
use Rattle.txc_base.specs.Operation.{Did, Replies, Waits, Stops, operate}
use Rattle.txc_base.specs.Reply.{last_read_after}
use Rattle.txc_chan.specs.ChanView.{ChanView}
use Rattle.txc_chan.specs.Logged.{Logged, MatchesLog, grown}
use Rattle.txc_txn_check.specs.declared.step.Step.TheVariants.{Do}
use Rattle.txc_txn_check.proofs.Containing.{contains_later, contains_none}
use Rattle.txc_txn.specs.declared.open_savepoint.OpenSavepoint.{OpenSavepoint}
use Rattle.txc_txn.specs.declared.trace.Trace.{Trace}
use Rattle.txc_txn.specs.Run.{state_of}
use Rattle.txc_txn.specs.Transaction.{Ending, Kept, Again, Aborted, State, after_did, and_then, deeds_at, op_in, start}
use Rattle.txc_txn.specs.Transaction.{step_in, steps_in}
use Rattle.txc_txn.proofs.Running.{step_in-Do}
use Rattle.txc_txn.specs.declared.open_transaction.OpenTransaction.{OpenTransaction}
use Rattle.txc_txn.specs.Growth.{AllGrow, Grows, IsMarked}
use Rattle.txc_txn.specs.Maps.{Map, kinds_of, put_at}
use Rattle.txc_txn.specs.OpenTransaction.{IsMarkedSince}
use Rattle.txc_txn.specs.Plain.{chan_in, missing}
use Rattle.txc_txn.proofs.Growing.{grow_none}
use Rattle.yalwythen_channel.specs.declared.call_result.CallResult.{CallResult}
use Rattle.yalwythen_channel.specs.Channels.{TxnChannels}
use Rattle.yalwythen_channel.specs.Opened.{HadRun, IsConsistent, IsOpenAt, IsSavedAt, Precedes}
use Rattle.yalwythen_channel.specs.Opening.{rejected_for}
use Rattle.yalwythen_channel.specs.Requests.{is_late, response_to_enlist}
use Rattle.yalwythen_channel.specs.State.{TxnState}
use Rattle.yalwythen_channel.proofs.Consistency.{get_front, get_last}

or_last : {A : Type 0} (xs : List A) (x d : A) → get_or (xs ++ x ∷ []) (length xs) d ≡ x
or_last [] x d = refl
or_last (y ∷ ys) x d = or_last ys x d

or_other : {A : Type 0} (xs : List A) (x d : A) (n : ℕ) → n ≢ length xs → get_or (xs ++ x ∷ []) n d ≡ get_or xs n d
or_other [] x d zero ne = absurd (ne refl)
or_other [] x d (suc n) ne = refl
or_other (y ∷ ys) x d zero ne = refl
or_other (y ∷ ys) x d (suc n) ne = or_other ys x d n (λ same. ne (ap suc same))

-- the map of channels with one more
pub with_one : (held : List ChanView) (chan : ChanView)
    → chan_in (held ++ chan ∷ []) ≡ put_at (chan_in held) (length held) chan.logged
with_one held chan = λ j n. at n j
  where
    at : (n : ℕ) → chan_in (held ++ chan ∷ []) n ≡ put_at (chan_in held) (length held) chan.logged n
    at n = elim (eqb_tells n (length held)) [
      | inl t ↦ ap (chan_in (held ++ chan ∷ [])) t.1 ∙ ap (λ (h : ChanView). h.logged) (or_last held chan missing)
          ∙ ap (λ b. if b then chan.logged else chan_in held n) (sym t.0)
      | inr t ↦ ap (λ (h : ChanView). h.logged) (or_other held chan missing n t.1)
          ∙ ap (λ b. if b then chan.logged else chan_in held n) (sym t.0)
    ]

-- one channel more, with its kind
pub enlisted_sound : (held : List ChanView) (kinds : List Kind) (chan : ChanView) (txn : OpenTransaction)
    → IsConsistent held kinds txn → IsConsistent (held ++ chan ∷ []) (kinds ++ chan.logged.decl.kind ∷ []) txn
enlisted_sound held kinds chan txn sound = record {
  known = record { there = there; same = same };
  as_many = let a = length-append kinds (chan.logged.decl.kind ∷ []) in let b = length-append held (chan ∷ []) in
      let c = sound.as_many in omega (arith, a, b, c);
  touched = λ n t. let lt = sound.touched n t in let c = length-append held (chan ∷ []) in omega (arith, lt, c);
  marks = sound.marks;
}
  where
    as_many : length held ≡ length kinds
    as_many = sound.as_many

    there : (n : ℕ) → n < length (kinds ++ chan.logged.decl.kind ∷ []) → n < length (held ++ chan ∷ [])
    there n lt = let a = length-append kinds (chan.logged.decl.kind ∷ []) in let b = length-append held (chan ∷ []) in
        omega (arith, lt, a, b, as_many)

    same : (n : ℕ) → n < length (kinds ++ chan.logged.decl.kind ∷ [])
        → kinds_of (chan_in (held ++ chan ∷ [])) n ≡ slice_get (kinds ++ chan.logged.decl.kind ∷ []) n
    same n lt = elim (eqb_tells n (length kinds)) [
      | inl t ↦ ap (kinds_of (chan_in (held ++ chan ∷ []))) (t.1 ∙ sym as_many)
          ∙ ap (λ (h : ChanView). Some h.logged.decl.kind) (or_last held chan missing)
          ∙ sym (get_last kinds chan.logged.decl.kind)
          ∙ ap (slice_get (kinds ++ chan.logged.decl.kind ∷ [])) (sym t.1)
      | inr t ↦ let c = length-append kinds (chan.logged.decl.kind ∷ []) in
          let below : n < length kinds = omega (arith, lt, c, t.1) in
          ap (λ (h : ChanView). Some h.logged.decl.kind)
          (or_other held chan missing n (λ is. t.1 (is ∙ as_many)))
          ∙ sound.known.same n below ∙ sym (get_front kinds (chan.logged.decl.kind ∷ []) n below)
    ]

-- two functions that are the same on a list
map_same : {B : Type 0} (f g : ℕ → B) (xs : List ℕ) → ((n : ℕ) → Contains xs n → f n ≡ g n) → map f xs ≡ map g xs
map_same f g [] same = refl
map_same f g (x ∷ xs) same = λ j. same x (0, omega arith, refl) j
    ∷ map_same f g xs (λ n c. same n (contains_later n x xs c)) j

put_elsewhere : (m : Map) (at n : ℕ) (l : Logged) → n ≢ at → put_at m at l n ≡ m n
put_elsewhere m at n l ne = elim (eqb_tells n at) [
  | inl t ↦ absurd (ne t.1)
  | inr t ↦ ap (λ b. if b then l else m n) t.0
]

-- channels that have grown have still grown after a channel came to both
put_grows : (tag : Tag) (before now : Map) (at : ℕ) (l : Logged) → AllGrow tag before now
    → AllGrow tag (put_at before at l) (put_at now at l)
put_grows tag before now at l grows n = elim (eqb_tells n at) [
  | inl t ↦ subst (λ (x : Logged). Grows tag x (put_at now at l n)) (ap (λ b. if b then l else before n) (sym t.0))
      (subst (λ (x : Logged). Grows tag l x) (ap (λ b. if b then l else now n) (sym t.0))
      (grow_none tag (λ _. l) (λ _. l) refl 0))
  | inr t ↦ subst (λ (x : Logged). Grows tag x (put_at now at l n)) (sym (put_elsewhere before at n l t.1))
      (subst (λ (x : Logged). Grows tag (before n) x) (sym (put_elsewhere now at n l t.1)) (grows n))
]

-- a transaction that has not touched a place can still be undone after a channel came to that place
put_marked : (tag : Tag) (touched marks : List ℕ) (before now : Map) (at : ℕ) (l : Logged)
    → ((n : ℕ) → Contains touched n → n ≢ at) → IsMarked tag touched marks before now
    → IsMarked tag touched marks (put_at before at l) (put_at now at l)
put_marked tag touched marks before now at l untouched is = record {
  made = is.made ∙ map_same (λ n. (before n).pending) (λ n. (put_at before at l n).pending) touched
      (λ n c. ap (λ (x : Logged). x.pending) (sym (put_elsewhere before at n l (untouched n c))));
  lawful = λ k d lt. subst MatchesLog (sym (put_elsewhere before at (get_or touched k d) l
      (untouched (get_or touched k d) (All-contains_itself touched k d lt)))) (is.lawful k d lt);
  others = λ n no. elim (eqb_tells n at) [
    | inl t ↦ ap (λ b. if b then l else now n) t.0 ∙ ap (λ b. if b then l else before n) (sym t.0)
    | inr t ↦ put_elsewhere now at n l t.1 ∙ is.others n no ∙ sym (put_elsewhere before at n l t.1)
  ];
  grows = put_grows tag before now at l is.grows;
}

-- the open transaction can still be undone, and the channel that came is then as it was
pub enlisted_marked : (saved : List ℕ) (held : List ChanView) (chan : ChanView) (txn : OpenTransaction) (began : Map)
    (number : ℕ) → ((n : ℕ) → Contains txn.touched.items n → n < length held) → length held ≡ number
    → IsMarkedSince saved txn began (chan_in held)
    → IsMarkedSince saved txn (put_at began number chan.logged) (chan_in (held ++ chan ∷ []))
enlisted_marked saved held chan txn began number touched is marked =
    subst (λ (k : ℕ). IsMarkedSince saved txn (put_at began k chan.logged) (chan_in (held ++ chan ∷ []))) is
    (subst (λ (x : Map). IsMarkedSince saved txn (put_at began (length held) chan.logged) x)
    (sym (with_one held chan)) (
      marked.0,
      put_marked txn.tag txn.touched.items _ began (chan_in held) (length held) chan.logged
          (λ n c. let lt = touched n c in omega (arith, lt)) marked.1,
    ))

-- two channels in one place and another
put_swap : (m : Map) (at c : ℕ) (l x : Logged) → c ≢ at → put_at (put_at m at l) c x ≡ put_at (put_at m c x) at l
put_swap m at c l x ne = λ j n. swaps n j
  where
    swaps : (n : ℕ) → put_at (put_at m at l) c x n ≡ put_at (put_at m c x) at l n
    swaps n = elim (eqb_tells n c) [
      | inl t ↦ ap (λ b. if b then x else put_at m at l n) t.0
          ∙ ap (λ b. if b then x else m n) (sym t.0)
          ∙ sym (put_elsewhere (put_at m c x) at n l (λ is. ne (sym t.1 ∙ is)))
      | inr t ↦ ap (λ b. if b then x else put_at m at l n) t.0
          ∙ ap (λ k. if nat_eq n at then l else k) (ap (λ b. if b then x else m n) (sym t.0))
    ]

module _ (at : ℕ) (l : Logged) where
  -- the same state, with this channel in this place
  abbrev moved : State → State
  moved s = record { chans = put_at s.chans at l; last = s.last; replies = s.replies; deeds = s.deeds }

  abbrev moved_end : Ending → Ending
  moved_end (Kept s) = Kept (moved s)
  moved_end (Again cause) = Again cause
  moved_end (Aborted stop) = Aborted stop

  then_moves : (e : Ending) (next : State → Ending) → ((s : State) → next (moved s) ≡ moved_end (next s))
      → and_then (moved_end e) next ≡ moved_end (and_then e next)
  then_moves (Kept s) next moves = moves s
  then_moves (Again cause) next moves = refl
  then_moves (Aborted stop) next moves = refl

  did_moves : (s : State) (chan : ℕ) (tag : Tag) (did : Did) → chan ≢ at
      → after_did (moved s) chan tag did ≡ moved_end (after_did s chan tag did)
  did_moves s chan tag (Replies reply acts channel) ne =
      let here : put_at s.chans at l chan ≡ s.chans chan = put_elsewhere s.chans at chan l ne in
      let now : put_at (put_at s.chans at l) chan (grown (put_at s.chans at l chan) tag acts channel)
      ≡ put_at (put_at s.chans chan (grown (s.chans chan) tag acts channel)) at l =
      ap (λ (x : Logged). put_at (put_at s.chans at l) chan (grown x tag acts channel)) here
      ∙ put_swap s.chans at chan l (grown (s.chans chan) tag acts channel) ne in
      λ i. Kept (record {
        chans = now i;
        last = last_read_after reply s.last;
        replies = s.replies ++ reply ∷ [];
        deeds = s.deeds ++ deeds_at chan (length (here i).log) acts;
      })
  did_moves s chan tag (Waits cause) ne = refl
  did_moves s chan tag (Stops stop) ne = refl

  op_moves : (tag : Tag) (op : Op) (s : State) → chan_of op ≢ at → op_in tag op (moved s) ≡ moved_end (op_in tag op s)
  op_moves tag op s ne =
      ap (λ (x : Logged). after_did (moved s) (chan_of op) tag (operate x.channel tag.seat s.last op))
      (put_elsewhere s.chans at (chan_of op) l ne)
      ∙ did_moves s (chan_of op) tag (operate (s.chans (chan_of op)).channel tag.seat s.last op) ne

  -- none of these operations is on this channel
  abbrev Elsewhere : List Op → Type 0
  Elsewhere [] = Unit {0}
  Elsewhere (op ∷ ops) = (chan_of op ≢ at) × Elsewhere ops

  steps_move : (tag : Tag) (ops : List Op) (s : State) → Elsewhere ops
      → steps_in tag (map Do ops) (moved s) ≡ moved_end (steps_in tag (map Do ops) s)
  steps_move tag [] s elsewhere = refl
  steps_move tag (op ∷ ops) s elsewhere =
      ap (λ e. and_then e (steps_in tag (map Do ops))) (step_in-Do tag op (moved s) ∙ op_moves tag op s elsewhere.0
      ∙ ap moved_end (sym (step_in-Do tag op s)))
      ∙ then_moves (step_in tag (Do op) s) (steps_in tag (map Do ops)) (λ t. steps_move tag ops t elsewhere.1)

-- operations on channels below a number are not on it
below_elsewhere : (at : ℕ) (l : Logged) (ops : List Op) → All (λ op. chan_of op < at) ops → Elsewhere at l ops
below_elsewhere at l [] all = tt
below_elsewhere at l (op ∷ ops) all = (
  (λ is. let lt = all 0 op (omega arith) in absurd (omega (arith, lt, is))),
  below_elsewhere at l ops (All-tail (λ o. chan_of o < at) op ops all),
)

-- what had run before had also run with the channel that came
pub with_one_had_run : (tag : Tag) (began at : Map) (ops : List Op) (trace : Trace) (number : ℕ) (l : Logged)
    → All (λ op. chan_of op < number) ops → HadRun tag began ops at trace
    → HadRun tag (put_at began number l) ops (put_at at number l) trace
with_one_had_run tag began at ops trace number l below had = record {
  runs = steps_move number l tag ops (start began) (below_elsewhere number l ops below)
      ∙ ap (moved_end number l) had.runs;
  grown = put_grows tag began at number l had.grown;
}

-- and what preceded other channels and another trace still does
pub with_one_precedes : (tag : Tag) (at at' : Map) (trace trace' : Trace) (number : ℕ) (l : Logged)
    → Precedes tag at trace at' trace' → Precedes tag (put_at at number l) trace (put_at at' number l) trace'
with_one_precedes tag at at' trace trace' number l precedes =
    record { grown = put_grows tag at at' number l precedes.grown; keeps = precedes.keeps }

-- the result of a channel that joined
pub joined : (records : Bool) (stamp stamp' : ℕ) (state : TxnState) (response : CallResult) → stamp ≡ stamp'
    → false ≡ is_late records stamp state → true ≡ nat_lt (length state.channels.kinds) 65536
    → response.code ≡ 0 → response.value ≡ length state.channels.kinds
    → response ≡ response_to_enlist records stamp' state
joined records stamp stamp' state response same late room code value =
    let count : ℕ = length state.channels.kinds in
    let fits : (is_late records stamp' state || not (nat_lt count 65536)) ≡ false =
    ap (λ b. b || not (nat_lt count 65536)) (ap (λ n. is_late records n state) (sym same) ∙ sym late)
    ∙ ap not (sym room) in
    (λ j. record { code = code j; value = value j })
    ∙ ap (λ (b : Bool). if b then rejected_for 1 else record { code = 0; value = count }) (sym fits)

-- the open transaction goes on, on the channels that it began on and the new one
pub enlisted_open : (c c' : TxnChannels) (chan : ChanView) (began : Map) (ops : List Op) (number : ℕ)
    → c'.held ≡ c.held ++ chan ∷ [] → c'.txn ≡ c.txn → length c.held ≡ number
    → ((n : ℕ) → Contains c.txn.touched.items n → n < length c.held)
    → All (λ op. chan_of op < number) ops → IsOpenAt began ops c → IsOpenAt (put_at began number chan.logged) ops c'
enlisted_open c c' chan began ops number held txn is touched below opened =
    let l = chan.logged in
    let now : chan_in c'.held ≡ put_at (chan_in c.held) number l =
    ap chan_in held ∙ with_one c.held chan ∙ ap (λ (k : ℕ). put_at (chan_in c.held) k l) is in
    record {
      runs = subst (λ (t : OpenTransaction). steps_in t.tag (map Do ops) (start (put_at began number l))
          ≡ Kept (state_of (chan_in c'.held) t.trace)) (sym txn)
          (subst (λ (m : Map). steps_in c.txn.tag (map Do ops) (start (put_at began number l))
          ≡ Kept (state_of m c.txn.trace)) (sym now)
          (steps_move number l c.txn.tag ops (start began) (below_elsewhere number l ops below)
          ∙ ap (moved_end number l) opened.runs));
      marked = subst (λ (t : OpenTransaction). IsMarkedSince [] t (put_at began number l) (chan_in c'.held)) (sym txn)
          (subst (λ (h : List ChanView). IsMarkedSince [] c.txn (put_at began number l) (chan_in h)) (sym held)
          (enlisted_marked [] c.held chan c.txn began number touched is opened.marked));
    }

-- a savepoint stays, and the channel that came is then as it was
pub enlisted_saved : (c c' : TxnChannels) (chan : ChanView) (savepoint : OpenSavepoint) (before : Map) (trace : Trace)
    (number : ℕ) → c'.held ≡ c.held ++ chan ∷ [] → c'.txn ≡ c.txn → length c.held ≡ number
    → ((n : ℕ) → Contains c.txn.touched.items n → n < length c.held)
    → IsSavedAt savepoint before trace c → IsSavedAt savepoint (put_at before number chan.logged) trace c'
enlisted_saved c c' chan savepoint before trace number held txn is touched saved = record {
  marked = subst (λ (t : OpenTransaction). IsMarkedSince savepoint.marks.items t (put_at before number chan.logged)
      (chan_in c'.held)) (sym txn)
      (subst (λ (h : List ChanView). IsMarkedSince savepoint.marks.items c.txn (put_at before number chan.logged)
      (chan_in h)) (sym held)
      (enlisted_marked savepoint.marks.items c.held chan c.txn before number touched is saved.marked));
  last = saved.last;
  counts = saved.counts;
  replies = ap (λ (t : OpenTransaction). take savepoint.replies t.trace.replies.items) txn ∙ saved.replies;
  deeds = ap (λ (t : OpenTransaction). take savepoint.deeds t.trace.deeds.items) txn ∙ saved.deeds;
}

-- without the last ones of both, there are as many
pub one_less : (held held' : List ChanView) (found : Option ChanView) (kinds kinds' : List Kind) (n : ℕ)
    → length held ≡ length kinds → n ≡ length kinds → kinds' ≡ take (n - 1) kinds
    → IfSome found (λ chan. held ≡ held' ++ chan ∷ []) → IfNone found ((held ≡ []) × (held' ≡ []))
    → length kinds' ≡ length held'
one_less held held' None kinds kinds' n as_many is rest some none =
    let a = ap length none.0 in let b = ap length none.1 in let t = ap length rest ∙ length-take (n - 1) kinds in
    omega (arith, a, b, t)
one_less held held' (Some chan) kinds kinds' n as_many is rest some none =
    let a = ap length some ∙ length-append held' (chan ∷ []) in
    let t = ap length rest ∙ length-take (n - 1) kinds in
    omega (arith, a, t)

less_front : (held held' : List ChanView) (found : Option ChanView) (n : ℕ)
    → IfSome found (λ chan. held ≡ held' ++ chan ∷ []) → IfNone found ((held ≡ []) × (held' ≡ []))
    → n < length held' → chan_in held n ≡ chan_in held' n
less_front held held' None n some none lt = let b = ap length none.1 in absurd (omega (arith, lt, b))
less_front held held' (Some chan) n some none lt =
    ap (λ (hs : List ChanView). chan_in hs n) some
    ∙ ap (λ (h : ChanView). h.logged) (or_other held' chan missing n (λ is. absurd (omega (arith, is, lt))))

get_taken : {A : Type 0} (xs : List A) (m n : ℕ) → n < m → slice_get (take m xs) n ≡ slice_get xs n
get_taken [] zero n lt = absurd (omega arith)
get_taken [] (suc m) n lt = refl
get_taken (x ∷ xs) zero n lt = absurd (omega arith)
get_taken (x ∷ xs) (suc m) zero lt = refl
get_taken (x ∷ xs) (suc m) (suc n) lt = get_taken xs m n (omega arith)

-- and the others have their kinds still
pub one_less_sound : (held held' : List ChanView) (found : Option ChanView) (kinds kinds' : List Kind) (n : ℕ)
    (txn : OpenTransaction) → IsConsistent held kinds txn → txn.touched.items ≡ [] → n ≡ length kinds
    → kinds' ≡ take (n - 1) kinds
    → IfSome found (λ chan. held ≡ held' ++ chan ∷ []) → IfNone found ((held ≡ []) × (held' ≡ []))
    → IsConsistent held' kinds' txn
one_less_sound held held' found kinds kinds' n txn sound untouched is rest some none = record {
  known = record {
    there = λ k lt. omega (arith, lt, as_many);
    same = λ k lt. let below = omega_below k lt in
        ap (λ (l : Logged). Some l.decl.kind)
        (sym (less_front held held' found k some none (omega (arith, lt, as_many))))
        ∙ sound.known.same k (omega (arith, below, is))
        ∙ sym (ap (λ (ks : List Kind). slice_get ks k) rest ∙ get_taken kinds (n - 1) k below);
  };
  as_many = sym as_many;
  touched = λ k t. absurd (contains_none k (subst (λ (l : List ℕ). Contains l k) untouched t));
  marks = sound.marks;
}
  where
    as_many : length kinds' ≡ length held'
    as_many = one_less held held' found kinds kinds' n sound.as_many is rest some none

    omega_below : (k : ℕ) → k < length kinds' → k < n - 1
    omega_below k lt = let t = ap length rest ∙ length-take (n - 1) kinds in omega (arith, lt, t)
