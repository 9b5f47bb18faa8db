-- How a channel grows by operations, and what an undo leaves.
use Rattle.std.proofs.Common.{◌≡◌, refl, sym, ◌∙◌, ap, subst, inl, inr, ℕ, suc, ◌<◌, ◌≤◌, ◌+◌, Some, List, [], ◌∷◌}
use Rattle.std.proofs.Common.{◌++◌, length, arith, append_assoc, length-append, append-nil, if◌then◌else◌}
use Rattle.std.proofs.lemmas.Bool.Decides.{eqb_tells}
use Rattle.txc_base.specs.declared.act.Act.{Act}
use Rattle.txc_base.specs.declared.entry.Entry.{Entry}
use Rattle.txc_base.specs.declared.reply.Reply.{Reply}
use Rattle.txc_base.specs.declared.tag.Tag.{Tag}
use Rattle.txc_base.specs.Channel.{opening}
use Rattle.txc_base.specs.Log.{state, entries}
use Rattle.txc_base.specs.Operation.{Did, Replies, Waits, Stops}
use Rattle.txc_chan.specs.Logged.{Logged, MatchesLog, Undone, on_log, Left, grown}
use Rattle.txc_txn.specs.Growth.{Grows, AllGrow}
use Rattle.txc_txn.specs.Maps.{Map, put_at, kinds_of}

pub grows_refl : (tag : Tag) (a : Logged) → Grows tag a a
grows_refl tag a = record { acts = []; log = sym (append-nil a.log); pending = omega arith; stamp = refl; decl = refl }

pub grows_same : (tag : Tag) (a b : Logged) → b ≡ a → Grows tag a b
grows_same tag a b e = subst (Grows tag a) (sym e) (grows_refl tag a)

entries_append : (tag : Tag) (xs ys : List Act) → entries tag (xs ++ ys) ≡ entries tag xs ++ entries tag ys
entries_append tag [] ys = refl
entries_append tag (x ∷ xs) ys = ap (λ l. record { tag = tag; act = x } ∷ l) (entries_append tag xs ys)

pub length_entries : (tag : Tag) (acts : List Act) → length (entries tag acts) ≡ length acts
length_entries tag [] = refl
length_entries tag (act ∷ acts) = ap suc (length_entries tag acts)

pub grows_trans : (tag : Tag) (a b c : Logged) → Grows tag a b → Grows tag b c → Grows tag a c
grows_trans tag a b c g h = record {
  acts = g.acts ++ h.acts;
  log = h.log ∙ ap (λ l. l ++ entries tag h.acts) g.log ∙ append_assoc a.log (entries tag g.acts) (entries tag h.acts)
      ∙ ap (λ l. a.log ++ l) (sym (entries_append tag g.acts h.acts));
  pending = omega (arith, g.pending, h.pending, length-append g.acts h.acts);
  stamp = h.stamp ∙ g.stamp;
  decl = h.decl ∙ g.decl;
}

-- all but the last of the entries of some acts
front_entries : (tag : Tag) (xs : List Entry) (e : Entry) (acts : List Act) → xs ++ e ∷ [] ≡ entries tag acts
    → (rest : List Act) × (xs ≡ entries tag rest) × (length acts ≡ length rest + 1)
front_entries tag xs e [] is = absurd (omega (arith, ap length is, length-append xs (e ∷ [])))
front_entries tag [] e (act ∷ acts) is = ([], refl, omega (arith, ap length is, length_entries tag acts))
front_entries tag (x ∷ xs) e (act ∷ acts) is =
    let tail : xs ++ e ∷ [] ≡ entries tag acts = cc in
    let head : x ≡ record { tag = tag; act = act } = cc in
    let r = front_entries tag xs e acts tail in
    (act ∷ r.0, ap (λ z. z ∷ xs) head ∙ ap (λ l. record { tag = tag; act = act } ∷ l) r.1, omega (arith, r.2))

-- the same, after the entries of before
split_last : (tag : Tag) (xs : List Entry) (e : Entry) (ys : List Entry) (acts : List Act)
    → xs ++ e ∷ [] ≡ ys ++ entries tag acts → 0 < length acts
    → (rest : List Act) × (xs ≡ ys ++ entries tag rest) × (length acts ≡ length rest + 1)
split_last tag xs e [] acts is lt = front_entries tag xs e acts is
split_last tag [] e (y ∷ ys) acts is lt =
    absurd (omega (arith, ap length is, length-append ys (entries tag acts), length_entries tag acts, lt))
split_last tag (x ∷ xs) e (y ∷ ys) acts is lt =
    let tail : xs ++ e ∷ [] ≡ ys ++ entries tag acts = cc in
    let head : x ≡ y = cc in
    let r = split_last tag xs e ys acts tail lt in
    (r.0, ap (λ z. z ∷ xs) head ∙ ap (λ l. y ∷ l) r.1, r.2)

-- an entry less, where there were more than before
pub grows_undone : (tag : Tag) (a b c : Logged) → Grows tag a b → a.pending < b.pending → Undone b c → Grows tag a c
grows_undone tag a b c g lt u =
    let more : 0 < length g.acts = omega (arith, g.pending, lt) in
    let r = split_last tag c.log u.0 a.log g.acts (sym u.1 ∙ g.log) more in
    record {
      acts = r.0;
      log = r.1;
      pending = omega (arith, g.pending, r.2, u.2);
      stamp = u.3 ∙ g.stamp;
      decl = u.4
          ∙ g.decl;
    }

some_is : {A : Type 0} (x y : A) → Some x ≡ Some y → x ≡ y
some_is x y e = cc

no_more : (tag : Tag) (acts : List Act) (xs ys : List Entry) → xs ≡ ys ++ entries tag acts → length acts ≡ 0 → xs ≡ ys
no_more tag [] xs ys is n = is ∙ append-nil ys
no_more tag (act ∷ acts) xs ys is n = absurd (omega (arith, n))

-- no more entries than before: the channel of before
pub restored : (tag : Tag) (a b : Logged) → MatchesLog a → MatchesLog b → Grows tag a b → b.pending ≤ a.pending → b ≡ a
restored tag a b ta tb g le =
    let log : b.log ≡ a.log = no_more tag g.acts b.log a.log g.log (omega (arith, g.pending, le)) in
    let same : b.channel ≡ a.channel = some_is b.channel a.channel
    (sym tb ∙ (λ i. state (Some (opening (g.decl i).kind (g.decl i).bound (g.decl i).readers)) (log i)) ∙ ta) in
    let pend : b.pending ≡ a.pending = omega (arith, g.pending, le) in
    λ i. record { decl = g.decl i; channel = same i; log = log i; pending = pend i; stamp = g.stamp i }

-- an operation that replied only adds entries
pub grows_op : (tag : Tag) (l l' : Logged) (did : Did) (reply : Reply) → on_log l tag did ≡ Left reply l'
    → Grows tag l l'
grows_op tag l l' (Replies r acts channel) reply e =
    let is : grown l tag acts channel ≡ l' = cc in
    subst (Grows tag l) is (record { acts = acts; log = refl; pending = refl; stamp = refl; decl = refl })
grows_op tag l l' (Waits cause) reply e = cc
grows_op tag l l' (Stops stop) reply e = cc

-- one channel grew, and the others are the same
pub grows_at : (tag : Tag) (m m' : Map) (chan : ℕ) → m' ≡ put_at m chan (m' chan) → Grows tag (m chan) (m' chan)
    → AllGrow tag m m'
grows_at tag m m' chan others g n =
    elim (eqb_tells n chan) [
      | inl t ↦ subst (λ k. Grows tag (m k) (m' k)) (sym t.1) g
      | inr t ↦ grows_same tag (m n) (m' n) (ap (λ f. f n) others ∙ ap (λ b. if b then m' chan else m n) t.0)
    ]

-- a channel that is put back as it was
pub put_same : (m m' : Map) (chan : ℕ) → m' ≡ put_at m chan (m' chan) → m' chan ≡ m chan → m' ≡ m
put_same m m' chan others same = λ j n. at n j
  where
    at : (n : ℕ) → m' n ≡ m n
    at n =
        elim (eqb_tells n chan) [
          | inl t ↦ (λ j. m' (t.1 j)) ∙ same ∙ (λ j. m (sym t.1 j))
          | inr t ↦ ap (λ f. f n) others ∙ ap (λ b. if b then m' chan else m n) t.0
        ]

pub grow_none : (tag : Tag) (m m' : Map) → m' ≡ m → AllGrow tag m m'
grow_none tag m m' e n = grows_same tag (m n) (m' n) (ap (λ f. f n) e)

pub grow_on : (tag : Tag) (m m' m'' : Map) → AllGrow tag m m' → AllGrow tag m' m'' → AllGrow tag m m''
grow_on tag m m' m'' g h n = grows_trans tag (m n) (m' n) (m'' n) (g n) (h n)

-- what was declared stays
pub kinds_stay : (tag : Tag) (m m' : Map) → AllGrow tag m m' → kinds_of m' ≡ kinds_of m
kinds_stay tag m m' g = λ j n. Some ((g n).decl j).kind

-- two changes of one channel
pub put_twice : (m m' m'' : Map) (chan : ℕ) → m' ≡ put_at m chan (m' chan) → m'' ≡ put_at m' chan (m'' chan)
    → m'' ≡ put_at m chan (m'' chan)
put_twice m m' m'' chan e e' = λ j n. at n j
  where
    at : (n : ℕ) → m'' n ≡ put_at m chan (m'' chan) n
    at n =
        elim (eqb_tells n chan) [
          | inl t ↦ ap (λ f. f n) e' ∙ (λ j. if t.0 j then m'' chan else m' n)
              ∙ (λ j. if sym t.0 j then m'' chan else m n)
          | inr t ↦ ap (λ f. f n) e' ∙ (λ j. if t.0 j then m'' chan else m' n) ∙ ap (λ f. f n) e
              ∙ (λ j. if t.0 j then m' chan else m n) ∙ (λ j. if sym t.0 j then m'' chan else m n)
        ]
