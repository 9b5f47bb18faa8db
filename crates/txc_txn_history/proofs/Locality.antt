-- A transaction looks at the channels that it declares, and leaves the others as they are.
use Rattle.std.proofs.Common.{◌≡◌, refl, sym, ◌∙◌, ap, inl, inr, ◌⊎◌, ⊎_elim, ℕ, ◌+◌, max, Bool, true, false}
use Rattle.std.proofs.Common.{◌||◌, nat_eq, List, [], ◌∷◌, ◌++◌, length, All, Contains, IsTrue, arith, if◌then◌else◌}
use Rattle.std.proofs.lemmas.Bool.{eqb-true}
use Rattle.std.proofs.lemmas.Bool.Decides.{eqb_tells}
use Rattle.std.proofs.lemmas.List.Elements.{All-tail}
use Rattle.std.proofs.lemmas.Map.Views.{Contains-from_any}
use Rattle.std.specs.List.{list_any}
use Rattle.txc_base.specs.declared.cause.Cause.{Cause}
use Rattle.txc_base.specs.declared.cause.Cause.TheVariants.{Asked}
use Rattle.txc_base.specs.declared.op.Op.{Op}
use Rattle.txc_base.specs.declared.stop.Stop.TheVariants.{Worn}
use Rattle.txc_base.specs.declared.tag.Tag.{Tag}
use Rattle.txc_base.specs.Op.{chan_of}
use Rattle.txc_base.specs.Operation.{Did, Replies, Waits, Stops, operate}
use Rattle.txc_base.specs.Reply.{last_read_after}
use Rattle.txc_chan.specs.Logged.{Logged, grown}
use Rattle.txc_txn_check.specs.declared.step.Step.{Step}
use Rattle.txc_txn_check.specs.declared.step.Step.TheVariants.{Or}
use Rattle.txc_txn_check.specs.Steps.{NamesOnly, Every, every, is_on}
use Rattle.txc_txn_check.proofs.Containing.{contains_later, contains_none, contains_tail}
use Rattle.txc_txn_check.proofs.Folds.{every-Do, at_or}
use Rattle.txc_txn_check.proofs.Induction.{EachBranch, EachStep, by_steps, each_of}
use Rattle.txc_txn.specs.Maps.{Map, put_at}
use Rattle.txc_txn.specs.Run.{alternatives}
use Rattle.txc_txn.specs.Transaction.{State, Ending, Kept, Again, Aborted, after_did, and_then, deeds_at, greatest}
use Rattle.txc_txn.specs.Transaction.{is_worn, kept_tag, op_in, or_else, start, step_in, steps_in, transaction}
use Rattle.txc_txn.proofs.Running.{step_in-Do, step_in-Or, step_in-Retry}
use Rattle.txc_txn_history.specs.Placed.{is_among, SameOn}

either_way : (b : Bool) → (b ≡ true) ⊎ (b ≡ false)
either_way true = inl refl
either_way false = inr refl

-- what is among these numbers is contained in them
pub among_contains : (numbers : List ℕ) (n : ℕ) → is_among numbers n ≡ true → Contains numbers n
among_contains numbers n is = Contains-from_any eqb-true n numbers is

pub contains_among : (numbers : List ℕ) (n : ℕ) → Contains numbers n → is_among numbers n ≡ true
contains_among [] n is = absurd (contains_none n is)
contains_among (d ∷ ds) n is =
    elim (eqb_tells n d) [
      | inl t ↦ ap (λ b. b || list_any (nat_eq n) ds) t.0
      | inr t ↦ ap (λ b. b || list_any (nat_eq n) ds) t.0 ∙ contains_among ds n (contains_tail n d ds t.1 is)
    ]

pub not_among : (numbers : List ℕ) (n : ℕ) → is_among numbers n ≡ false → ¬ Contains numbers n
not_among numbers n is there = let no : false ≡ true = sym is ∙ contains_among numbers n there in cc

-- the declared channels of one map, and the others of another
abbrev pub over : List ℕ → Map → Map → Map
over declared m n = λ c. if list_any (nat_eq c) declared then m c else n c

module _ (declared : List ℕ) (n : Map) where
  -- the same, where another map has the channels that are not declared
  abbrev pub moved : State → State
  moved s = record { chans = over declared s.chans n; last = s.last; replies = s.replies; deeds = s.deeds }

  abbrev pub moved_end : Ending → Ending
  moved_end (Kept s) = Kept (moved s)
  moved_end (Again cause) = Again cause
  moved_end (Aborted stop) = Aborted stop

  -- a part of a transaction does the same there
  abbrev Moves : (State → Ending) → Type 0
  Moves part = (s : State) → part (moved s) ≡ moved_end (part s)

  then_moves : (o : Ending) (next : State → Ending) → Moves next
      → and_then (moved_end o) next ≡ moved_end (and_then o next)
  then_moves (Kept s) next moves = moves s
  then_moves (Again cause) next moves = refl
  then_moves (Aborted stop) next moves = refl

  else_moves : (o : Ending) (here there : Cause → Ending) → ((cause : Cause) → there cause ≡ moved_end (here cause))
      → or_else (moved_end o) there ≡ moved_end (or_else o here)
  else_moves (Kept s) here there moves = refl
  else_moves (Again cause) here there moves = moves cause
  else_moves (Aborted stop) here there moves = refl

  here_same : (m : Map) (chan : ℕ) → list_any (nat_eq chan) declared ≡ true → over declared m n chan ≡ m chan
  here_same m chan on = ap (λ b. if b then m chan else n chan) on

  -- a change of a declared channel
  put_over : (m : Map) (chan : ℕ) (l l' : Logged) → l ≡ l' → list_any (nat_eq chan) declared ≡ true
      → put_at (over declared m n) chan l ≡ over declared (put_at m chan l') n
  put_over m chan l l' same on = λ i c. at c i
    where
      at : (c : ℕ) → put_at (over declared m n) chan l c ≡ over declared (put_at m chan l') n c
      at c =
          elim (eqb_tells c chan) [
            | inl t ↦
                (let on_c : list_any (nat_eq c) declared ≡ true = ap (λ k. list_any (nat_eq k) declared) t.1 ∙ on in
                ap (λ b. if b then l else over declared m n c) t.0 ∙ (same
                ∙ (ap (λ b. if b then l' else m c) (sym t.0)
                ∙ ap (λ b. if b then put_at m chan l' c else n c) (sym on_c))))
            | inr t ↦
                ap (λ b. if b then l else over declared m n c) t.0
                ∙ ap (λ k. if list_any (nat_eq c) declared then k else n c) (ap (λ b. if b then l' else m c) (sym t.0))
          ]

  did_moves : (s : State) (chan : ℕ) (tag : Tag) (did : Did) → list_any (nat_eq chan) declared ≡ true
      → after_did (moved s) chan tag did ≡ moved_end (after_did s chan tag did)
  did_moves s chan tag (Replies reply acts channel) on =
      let here : over declared s.chans n chan ≡ s.chans chan = here_same s.chans chan on in
      let now : put_at (over declared s.chans n) chan (grown (over declared s.chans n chan) tag acts channel)
      ≡ over declared (put_at s.chans chan (grown (s.chans chan) tag acts channel)) n =
      put_over s.chans chan (grown (over declared s.chans n chan) tag acts channel)
      (grown (s.chans chan) tag acts channel) (ap (λ (l : Logged). grown l tag acts channel) here) on in
      λ i. Kept (record {
        chans = now i;
        last = last_read_after reply s.last;
        replies = s.replies ++ reply ∷ [];
        deeds = s.deeds ++ deeds_at chan (length (here i).log) acts;
      })
  did_moves s chan tag (Waits cause) on = refl
  did_moves s chan tag (Stops stop) on = refl

  module _ (tag : Tag) where
    op_moves : (op : Op) → is_on declared op ≡ true → Moves (op_in tag op)
    op_moves op on s =
        ap (λ (l : Logged). after_did (moved s) (chan_of op) tag (operate l.channel tag.seat s.last op))
        (here_same s.chans (chan_of op) on)
        ∙ did_moves s (chan_of op) tag (operate (s.chans (chan_of op)).channel tag.seat s.last op) on

    steps_move : (steps : List Step) → EachStep (λ step. Moves (step_in tag step)) steps → Moves (steps_in tag steps)
    steps_move [] each s = refl
    steps_move (step ∷ steps) each s = ap (λ o. and_then o (steps_in tag steps)) (each.0 s)
        ∙ then_moves (step_in tag step s) (steps_in tag steps) (steps_move steps each.1)

    branches_move : (cause : Cause) (branches : List (List Step))
        → EachBranch (λ step. Moves (step_in tag step)) branches → Moves (alternatives tag cause branches)
    branches_move cause [] each s = refl
    branches_move cause (branch ∷ branches) each s =
        ap (λ o. or_else o (λ why. alternatives tag why branches (moved s))) (steps_move branch each.0 s)
        ∙ else_moves (steps_in tag branch s) (λ why. alternatives tag why branches s)
        (λ why. alternatives tag why branches (moved s)) (λ why. branches_move why branches each.1 s)

    -- a step on declared channels does
    abbrev OnDeclared : Step → Type 0
    OnDeclared step = IsTrue (every (is_on declared) step) → Moves (step_in tag step)

    named_steps : (steps : List Step) → Every (is_on declared) steps → EachStep OnDeclared steps
        → EachStep (λ step. Moves (step_in tag step)) steps
    named_steps [] names each = tt
    named_steps (step ∷ steps) names each = (
      each.0 (names 0 step (omega arith)),
      named_steps steps (All-tail (λ (s : Step). IsTrue (every (is_on declared) s)) step steps names) each.1,
    )

    named_branches : (branches : List (List Step)) → All (Every (is_on declared)) branches
        → EachBranch OnDeclared branches → EachBranch (λ step. Moves (step_in tag step)) branches
    named_branches [] names each = tt
    named_branches (branch ∷ branches) names each = (
      named_steps branch (names 0 branch (omega arith)) each.0,
      named_branches branches (All-tail (Every (is_on declared)) branch branches names) each.1,
    )

    step_moves : (step : Step) → OnDeclared step
    step_moves = by_steps OnDeclared
        (λ op on s. step_in-Do tag op (moved s) ∙ (op_moves op (sym (every-Do (is_on declared) op) ∙ on) s
        ∙ ap moved_end (sym (step_in-Do tag op s))))
        (λ branches each on s. step_in-Or tag branches (moved s)
        ∙ (branches_move Asked branches
        (named_branches branches (at_or (is_on declared) (Or branches) branches refl on) each) s
        ∙ ap moved_end (sym (step_in-Or tag branches s))))
        (λ on s. step_in-Retry tag (moved s) ∙ ap moved_end (sym (step_in-Retry tag s)))

    steps_local : (steps : List Step) → NamesOnly declared steps → Moves (steps_in tag steps)
    steps_local steps names = steps_move steps (named_steps steps names (each_of OnDeclared step_moves steps))

-- the greatest stamp is that of the declared channels
pub greatest_same : (m n : Map) (most : ℕ) (declared : List ℕ) → ((c : ℕ) → Contains declared c → m c ≡ n c)
    → greatest m most declared ≡ greatest n most declared
greatest_same m n most [] same = refl
greatest_same m n most (d ∷ ds) same =
    ap (λ (l : Logged). greatest m (max most l.stamp) ds) (same d (0, omega arith, refl))
    ∙ greatest_same m n (max most (n d).stamp) ds (λ c is. same c (contains_later c d ds is))

pub kept_same : (m n : Map) (tag : Tag) (declared : List ℕ) → SameOn declared m n
    → kept_tag m tag declared ≡ kept_tag n tag declared
kept_same m n tag declared same = λ i. record {
  seat = tag.seat;
  serial = tag.serial;
  stamp = greatest_same m n tag.stamp declared (λ c is. same c (contains_among declared c is)) i + 1;
}

over_same : (declared : List ℕ) (m n : Map) → SameOn declared m n → n ≡ over declared m n
over_same declared m n same = λ i c. at c i
  where
    at : (c : ℕ) → n c ≡ over declared m n c
    at c = ⊎_elim
        (λ (is : list_any (nat_eq c) declared ≡ true). sym (same c is)
        ∙ ap (λ b. if b then m c else n c) (sym is))
        (λ (is : list_any (nat_eq c) declared ≡ false). ap (λ b. if b then m c else n c) (sym is))
        (either_way (list_any (nat_eq c) declared))

-- on channels that are the same where it is declared a transaction does the same, and leaves the others
pub transaction_local : (m n : Map) (tag : Tag) (declared : List ℕ) (steps : List Step) → NamesOnly declared steps
    → SameOn declared m n
    → transaction n tag declared steps ≡ moved_end declared n (transaction m tag declared steps)
transaction_local m n tag declared steps names same =
    (λ i. if is_worn tag.serial || is_worn (sym most i) then Aborted Worn
    else steps_in (sym kept i) steps (begun i))
    ∙ of (is_worn tag.serial || is_worn (greatest m tag.stamp declared))
  where
    most : greatest m tag.stamp declared ≡ greatest n tag.stamp declared
    most = greatest_same m n tag.stamp declared (λ c is. same c (contains_among declared c is))

    kept : kept_tag m tag declared ≡ kept_tag n tag declared
    kept = kept_same m n tag declared same

    begun : start n ≡ moved declared n (start m)
    begun = ap start (over_same declared m n same)

    of : (b : Bool) → (if b then Aborted Worn else steps_in (kept_tag m tag declared) steps
        (moved declared n (start m)))
        ≡ moved_end declared n (if b then Aborted Worn else steps_in (kept_tag m tag declared) steps (start m))
    of true = refl
    of false = steps_local declared n (kept_tag m tag declared) steps names (start m)

-- it leaves what isn't declared
pub others_same : (m : Map) (tag : Tag) (declared : List ℕ) (steps : List Step) (s : State)
    → NamesOnly declared steps → transaction m tag declared steps ≡ Kept s
    → (c : ℕ) → is_among declared c ≡ false → s.chans c ≡ m c
others_same m tag declared steps s names is c out =
    let e : Kept s ≡ Kept (moved declared m s) = sym is ∙ (transaction_local m m tag declared steps names (λ k h. refl)
    ∙ ap (moved_end declared m) is) in
    let same : s ≡ moved declared m s = cc in
    ap (λ (t : State). t.chans c) same ∙ ap (λ b. if b then s.chans c else m c) out
