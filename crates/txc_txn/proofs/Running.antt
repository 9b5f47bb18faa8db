-- A run against the definition of a transaction, a step or a branch at a time.
use Rattle.std.proofs.Common.{arith, All, ◌≡◌, refl, sym, ◌∙◌, ap, subst, inl, inr, ℕ, ◌<◌, ◌+◌, ◌-◌, List, [], ◌∷◌}
use Rattle.std.proofs.Common.{◌++◌, map, length, take, drop, slice_index_or, Option, Contains}
use Rattle.std.proofs.lemmas.Bool.Decides.{eqb_tells}
use Rattle.txc_base.specs.declared.cause.Cause.{Cause}
use Rattle.txc_base.specs.declared.cause.Cause.TheVariants.{Asked}
use Rattle.txc_base.specs.declared.op.Op.{Op}
use Rattle.txc_base.specs.declared.reply.Reply.{Reply}
use Rattle.txc_base.specs.declared.stop.Stop.{Stop}
use Rattle.txc_base.specs.declared.tag.Tag.{Tag}
use Rattle.txc_base.specs.Op.{chan_of}
use Rattle.txc_base.specs.Operation.{operate}
use Rattle.txc_base.specs.Reply.{last_read_after}
use Rattle.txc_chan.specs.declared.answer.Answer.{Answer}
use Rattle.txc_chan.specs.declared.answer.Answer.TheVariants.{Replied}
use Rattle.txc_chan.specs.Logged.{Logged, op_on, did}
use Rattle.txc_txn.specs.declared.deed.Deed.{Deed}
use Rattle.txc_txn.specs.declared.trace.Trace.{Trace}
use Rattle.txc_txn_check.specs.declared.step.Step.{Step, fold-roll-Step}
use Rattle.txc_txn_check.specs.declared.step.Step.TheOpen as Open
use Rattle.txc_txn_check.specs.declared.step.Step.TheVariants.{Do, Or, Retry, rolls-Do, rolls-Or, rolls-Retry}
use Rattle.txc_txn.specs.Growth.{Grows, AllGrow, SameOutside}
use Rattle.txc_txn.specs.Maps.{Map, put_at}
use Rattle.txc_txn.specs.Run.{KeepsTrace, deeds_of, state_of, alternatives}
use Rattle.txc_txn.specs.Transaction.{State, Ending, Kept, Again, Aborted, after_did, op_in, layer, step_in, steps_in}
use Rattle.txc_txn.specs.Transaction.{sequence, first_kept, and_then, or_else}
use Rattle.txc_txn.proofs.Deeds.{op_kept}
use Rattle.txc_txn.proofs.Growing.{grows_op, grows_at}
use Rattle.txc_txn.proofs.Restoring.{drop_at}

pub step_in-Do : (tag : Tag) (op : Op) (s : State) → step_in tag (Do op) s ≡ op_in tag op s
step_in-Do tag op s = ap (λ x. step_in tag x s) (sym (rolls-Do op))
    ∙ ap (λ f. f s) (fold-roll-Step (State → Ending) (layer tag) (Open.Do op))

pub step_in-Retry : (tag : Tag) (s : State) → step_in tag Retry s ≡ Again Asked
step_in-Retry tag s = ap (λ x. step_in tag x s) (sym rolls-Retry)
    ∙ ap (λ f. f s) (fold-roll-Step (State → Ending) (layer tag) Open.Retry)

branches_map : (tag : Tag) (bs : List (List Step)) → map sequence (map (map (step_in tag)) bs) ≡ map (steps_in tag) bs
branches_map tag [] = refl
branches_map tag (b ∷ bs) = ap (λ r. steps_in tag b ∷ r) (branches_map tag bs)

pub step_in-Or : (tag : Tag) (bs : List (List Step)) (s : State) → step_in tag (Or bs) s ≡ alternatives tag Asked bs s
step_in-Or tag bs s =
    ap (λ x. step_in tag x s) (sym (rolls-Or bs))
    ∙ ap (λ f. f s) (fold-roll-Step (State → Ending) (layer tag) (Open.Or bs))
    ∙ ap (λ l. first_kept Asked l s) (branches_map tag bs)

-- what is so of all of a list is so of an item of it
pub all_at : {X : Type 0} (P : X → Type 0) (xs : List X) (i : ℕ) (x y : X) → All P xs → i < length xs
    → x ≡ slice_index_or xs i x → y ≡ x → P y
all_at P xs i x y all lt is e = subst P (sym (e ∙ is)) (all i x lt)

-- a turn of a loop over a list leaves fewer
pub falls : {X : Type 0} (xs : List X) (i : ℕ) → i < length xs → length xs - (i + 1) < length xs - i
falls xs i lt = omega arith

-- the first of the steps that are left, and then the others
steps_in-next : (tag : Tag) (xs : List Step) (i : ℕ) (x : Step) (s : State) → i < length xs → x ≡ slice_index_or xs i x
    →
    steps_in tag (drop i xs) s ≡ and_then (step_in tag x s) (steps_in tag (drop (i + 1) xs))
steps_in-next tag xs i x s lt e = ap (λ l. steps_in tag l s) (drop_at xs i x lt e)

alternatives-next : (tag : Tag) (cause : Cause) (bs : List (List Step)) (i : ℕ) (b : List Step) (s : State)
    → i < length bs → b ≡ slice_index_or bs i b →
    alternatives tag cause (drop i bs) s ≡ or_else (steps_in tag b s) (λ c. alternatives tag c (drop (i + 1) bs) s)
alternatives-next tag cause bs i b s lt e = ap (λ l. alternatives tag cause l s) (drop_at bs i b lt e)

-- an operation leaves the channels that are not declared
pub others_op : (m m' : Map) (declared : List ℕ) (chan : ℕ) (l : Logged) → Contains declared chan → m' ≡ put_at m chan l
    → SameOutside declared m m'
others_op m m' declared chan l h e = λ n no.
    ap (λ f. f n) e ∙ elim (eqb_tells n chan)
    [ inl t ↦ absurd (no (subst (Contains declared) (sym t.1) h)) | inr t ↦ rw t.0 refl ]

-- two states with equal parts
pub states_equal : (m m' : Map) (p p' : Trace) → m ≡ m' → p.last ≡ p'.last → p.replies.items ≡ p'.replies.items
    → p.deeds.items ≡ p'.deeds.items → state_of m p ≡ state_of m' p'
states_equal m m' p p' a b c d = λ j. record { chans = a j; last = b j; replies = c j; deeds = d j }

-- a branch that retried
pub tried : (tag : Tag) (cause why : Cause) (bs : List (List Step)) (i : ℕ) (b : List Step) (s s0 : State)
    → i < length bs → b ≡ slice_index_or bs i b → s ≡ s0
    → alternatives tag Asked bs s0 ≡ alternatives tag cause (drop i bs) s0 → steps_in tag b s ≡ Again why
    → alternatives tag Asked bs s0 ≡ alternatives tag why (drop (i + 1) bs) s0
tried tag cause why bs i b s s0 lt is e rest again =
    rest ∙ alternatives-next tag cause bs i b s0 lt is
    ∙ ap (λ o. or_else o (λ c. alternatives tag c (drop (i + 1) bs) s0)) (ap (steps_in tag b) (sym e) ∙ again)

-- a branch that went on
pub taken : (tag : Tag) (cause : Cause) (bs : List (List Step)) (i : ℕ) (b : List Step) (s s0 s' : State)
    → i < length bs → b ≡ slice_index_or bs i b → s ≡ s0
    → alternatives tag Asked bs s0 ≡ alternatives tag cause (drop i bs) s0 → steps_in tag b s ≡ Kept s'
    → alternatives tag Asked bs s0 ≡ Kept s'
taken tag cause bs i b s s0 s' lt is e rest went =
    rest ∙ alternatives-next tag cause bs i b s0 lt is
    ∙ ap (λ o. or_else o (λ c. alternatives tag c (drop (i + 1) bs) s0)) (ap (steps_in tag b) (sym e) ∙ went)

-- a branch that stopped
pub failed : (tag : Tag) (cause : Cause) (stop : Stop) (bs : List (List Step)) (i : ℕ) (b : List Step) (s s0 : State)
    → i < length bs → b ≡ slice_index_or bs i b → s ≡ s0
    → alternatives tag Asked bs s0 ≡ alternatives tag cause (drop i bs) s0 → steps_in tag b s ≡ Aborted stop
    → alternatives tag Asked bs s0 ≡ Aborted stop
failed tag cause stop bs i b s s0 lt is e rest halt =
    rest ∙ alternatives-next tag cause bs i b s0 lt is
    ∙ ap (λ o. or_else o (λ c. alternatives tag c (drop (i + 1) bs) s0)) (ap (steps_in tag b) (sym e) ∙ halt)

-- a step that went on
pub step_done : (tag : Tag) (xs : List Step) (i : ℕ) (x : Step) (s0 s s' : State) → i < length xs
    → x ≡ slice_index_or xs i x
    → steps_in tag xs s0 ≡ steps_in tag (drop i xs) s → step_in tag x s ≡ Kept s'
    → steps_in tag xs s0 ≡ steps_in tag (drop (i + 1) xs) s'
step_done tag xs i x s0 s s' lt is rest e = rest ∙ steps_in-next tag xs i x s lt is
    ∙ ap (λ o. and_then o (steps_in tag (drop (i + 1) xs))) e

-- a step that retried
pub step_again : (tag : Tag) (xs : List Step) (i : ℕ) (x : Step) (s0 s : State) (cause : Cause) → i < length xs
    → x ≡ slice_index_or xs i x
    → steps_in tag xs s0 ≡ steps_in tag (drop i xs) s → step_in tag x s ≡ Again cause → steps_in tag xs s0 ≡ Again cause
step_again tag xs i x s0 s cause lt is rest e = rest ∙ steps_in-next tag xs i x s lt is
    ∙ ap (λ o. and_then o (steps_in tag (drop (i + 1) xs))) e

-- a step that stopped
pub step_halt : (tag : Tag) (xs : List Step) (i : ℕ) (x : Step) (s0 s : State) (stop : Stop) → i < length xs
    → x ≡ slice_index_or xs i x
    → steps_in tag xs s0 ≡ steps_in tag (drop i xs) s → step_in tag x s ≡ Aborted stop
    → steps_in tag xs s0 ≡ Aborted stop
step_halt tag xs i x s0 s stop lt is rest e = rest ∙ steps_in-next tag xs i x s lt is
    ∙ ap (λ o. and_then o (steps_in tag (drop (i + 1) xs))) e

-- an operation that replied only adds entries to its channel
pub grows_there : (tag : Tag) (m m' : Map) (chan : ℕ) (last : Option ℕ) (op : Op) (answer : Answer) (reply : Reply)
    → answer ≡ Replied reply
    → op_on (m chan) tag last op ≡ did answer (m' chan) → Grows tag (m chan) (m' chan)
grows_there tag m m' chan last op answer reply is e =
    grows_op tag (m chan) (m' chan) (operate (m chan).channel tag.seat last op) reply (e ∙ ap (λ x. did x (m' chan)) is)

-- .. and leaves the others
pub grows_reply : (tag : Tag) (m m' : Map) (chan : ℕ) (last : Option ℕ) (op : Op) (answer : Answer) (reply : Reply)
    → answer ≡ Replied reply
    → op_on (m chan) tag last op ≡ did answer (m' chan) → m' ≡ put_at m chan (m' chan) → AllGrow tag m m'
grows_reply tag m m' chan last op answer reply is e others =
    grows_at tag m m' chan others (grows_there tag m m' chan last op answer reply is e)

-- an operation that replied
pub op_does : (tag : Tag) (op : Op) (m m' : Map) (p p' : Trace) (chan place : ℕ) (answer : Answer) (reply : Reply)
    → chan ≡ chan_of op → place ≡ length (m chan).log
    → answer ≡ Replied reply → op_on (m chan) tag p.last op ≡ did answer (m' chan) → m' ≡ put_at m chan (m' chan)
    → p'.last ≡ last_read_after reply p.last → p'.replies.items ≡ p.replies.items ++ reply ∷ []
    → p'.deeds.items ≡ p.deeds.items ++ deeds_of chan place (drop place (m' chan).log)
    → op_in tag op (state_of m p) ≡ Kept (state_of m' p')
op_does tag op m m' p p' chan place answer reply at long ans did' others last replies deeds =
    ap (λ k. after_did (state_of m p) k tag (operate (m k).channel tag.seat p.last op)) (sym at)
    ∙ op_kept (state_of m p) chan tag (operate (m chan).channel tag.seat p.last op) reply (m' chan)
    (did' ∙ ap (λ x. did x (m' chan)) ans)
    ∙ (λ j. Kept (record {
      chans = sym others j;
      last = sym last j;
      replies = sym replies j;
      deeds = (ap (λ k. p.deeds.items ++ deeds_of chan k (drop k (m' chan).log)) (sym long) ∙ sym deeds) j;
    }))

-- what is in front of the middle is in front of the last
kept : {X : Type 0} (a b c : List X) → take (length a) b ≡ a → take (length b) c ≡ b → take (length a) c ≡ a
kept [] b c h k = refl
kept (x ∷ a) [] c h k = cc
kept (x ∷ a) (y ∷ b) [] h k = cc
kept (x ∷ a) (y ∷ b) (z ∷ c) h k =
    let front : take (length a) b ≡ a = cc in
    let middle : take (length b) c ≡ b = cc in
    let head : z ≡ x = cc in
    let rest : take (length a) c ≡ a = kept a b c front middle in
    λ i. head i ∷ rest i

-- all of a list is in front of it
whole : {X : Type 0} (xs : List X) → take (length xs) xs ≡ xs
whole [] = refl
whole (x ∷ xs) = ap (λ r. x ∷ r) (whole xs)

pub keeps_refl : (p : Trace) → KeepsTrace p p
keeps_refl p = (whole p.replies.items, whole p.deeds.items)

-- a trace with the same replies and acts
pub keeps_same : (p q : Trace) → q.replies.items ≡ p.replies.items → q.deeds.items ≡ p.deeds.items → KeepsTrace p q
keeps_same p q replies deeds = (
  ap (λ xs. take (length p.replies.items) xs) replies ∙ whole p.replies.items,
  ap (λ xs. take (length p.deeds.items) xs) deeds ∙ whole p.deeds.items,
)

-- a trace with the same replies and more acts
pub keeps_more : (p q : Trace) → q.replies.items ≡ p.replies.items
    → take (length p.deeds.items) q.deeds.items ≡ p.deeds.items → KeepsTrace p q
keeps_more p q replies more = (ap (λ xs. take (length p.replies.items) xs) replies ∙ whole p.replies.items, more)

-- a trace with the same acts and more replies
pub keeps_replies : (p q : Trace) → q.deeds.items ≡ p.deeds.items
    → take (length p.replies.items) q.replies.items ≡ p.replies.items → KeepsTrace p q
keeps_replies p q deeds more = (more, ap (λ xs. take (length p.deeds.items) xs) deeds ∙ whole p.deeds.items)

pub keeps_on : (p p' p'' : Trace) → KeepsTrace p p' → KeepsTrace p' p'' → KeepsTrace p p''
keeps_on p p' p'' h k = (
  kept p.replies.items p'.replies.items p''.replies.items h.0 k.0,
  kept p.deeds.items p'.deeds.items p''.deeds.items h.1 k.1,
)

-- a trace with the same replies and acts keeps the same
pub keeps_as : (p q r : Trace) → p.replies.items ≡ q.replies.items → p.deeds.items ≡ q.deeds.items → KeepsTrace p r
    → KeepsTrace q r
keeps_as p q r replies deeds h = (
  subst (λ (xs : List Reply). take (length xs) r.replies.items ≡ xs) replies h.0,
  subst (λ (xs : List Deed). take (length xs) r.deeds.items ≡ xs) deeds h.1,
)
