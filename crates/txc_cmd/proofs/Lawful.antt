-- Channels stay as they were declared and true to their logs where transactions occur that fit them.
use Rattle.std.proofs.Common.{◌≡◌, refl, sym, ◌∙◌, ap, subst, inl, inr, ℕ, zero, suc, Bool, true, false, ◌||◌}
use Rattle.std.proofs.Common.{Option, Some, List, [], ◌∷◌, map, slice_get, slice_index_or, All, IsTrue, arith}
use Rattle.std.proofs.Common.{if◌then◌else◌}
use Rattle.std.proofs.lemmas.Bool.Decides.{eqb_tells}
use Rattle.std.proofs.lemmas.List.Elements.{All-tail}
use Rattle.txc_base.specs.declared.cause.Cause.{Cause}
use Rattle.txc_base.specs.declared.cause.Cause.TheVariants.{Asked}
use Rattle.txc_base.specs.declared.kind.Kind.{Kind}
use Rattle.txc_base.specs.declared.op.Op.{Op}
use Rattle.txc_base.specs.declared.stop.Stop.TheVariants.{Worn}
use Rattle.txc_base.specs.declared.tag.Tag.{Tag}
use Rattle.txc_base.specs.Kinds.{allowed_for, names_its_reader}
use Rattle.txc_base.specs.Op.{chan_of}
use Rattle.txc_base.specs.Operation.{Did, Replies, Waits, Stops, operate}
use Rattle.txc_base_laws.proofs.Bridge.{stays_true}
use Rattle.txc_base_laws.proofs.Lists.{at_map}
use Rattle.txc_chan.specs.declared.decl.Decl.{Decl}
use Rattle.txc_chan.specs.Decls.{kinds_in}
use Rattle.txc_chan.specs.Logged.{MatchesLog, Logged, grown, opened, settled}
use Rattle.txc_txn_check.specs.declared.step.Step.{Step}
use Rattle.txc_txn_check.specs.declared.step.Step.TheVariants.{Or}
use Rattle.txc_txn_check.specs.Steps.{Every, Fits, every, is_fit, supported_there}
use Rattle.txc_txn_check.proofs.Folds.{and_left, at_or, every-Do}
use Rattle.txc_txn_check.proofs.Induction.{EachBranch, EachStep, by_steps, each_of}
use Rattle.txc_txn.specs.Maps.{Map, put_at, settle_all}
use Rattle.txc_txn.specs.Opening.{opening_map}
use Rattle.txc_txn.specs.Plain.{missing}
use Rattle.txc_txn.specs.Run.{alternatives}
use Rattle.txc_txn.specs.Transaction.{State, Ending, Kept, Again, Aborted, after_did, and_then, greatest, is_worn}
use Rattle.txc_txn.specs.Transaction.{kept_tag, or_else, start, step_in, steps_in, transaction}
use Rattle.txc_txn.proofs.Running.{step_in-Do, step_in-Or, step_in-Retry}
use Rattle.txc_txn.proofs.Settling.{settle_keeps}
use Rattle.txc_txn_history.specs.Commits.{Has}
use Rattle.txc_txn_history.specs.Events.{Event, asked}
use Rattle.txc_txn_history.specs.OneOrder.{Occurs, Runs}

-- each declared channel is as it was declared, and true to its log
abbrev pub AreTrue : List Decl → Map → Type 0
AreTrue decls m = (n : ℕ) (decl : Decl) → slice_get decls n ≡ Some decl → ((m n).decl ≡ decl) × MatchesLog (m n)

-- a declared channel as it is made
opening_at : (decls : List Decl) (n : ℕ) (decl : Decl) → slice_get decls n ≡ Some decl
    → slice_index_or (map opened decls) n missing.logged ≡ opened decl
opening_at [] n decl at = absurd (cc)
opening_at (d ∷ decls) zero decl at = let same : d ≡ decl = cc in ap opened same
opening_at (d ∷ decls) (suc n) decl at = opening_at decls n decl at

-- so they are before the first transaction
pub opening_true : (decls : List Decl) → AreTrue decls (opening_map decls)
opening_true decls n decl at =
    let here = opening_at decls n decl at in
    (ap (λ (l : Logged). l.decl) here, subst (λ (l : Logged). MatchesLog l) (sym here) refl)

-- settling leaves them so
settle_true : (decls : List Decl) (m : Map) (stamp : ℕ) (ns : List ℕ) → AreTrue decls m
    → AreTrue decls (settle_all m stamp ns)
settle_true decls m stamp ns so n decl at =
    let same = settle_keeps (λ l. settled 0 l) stamp (λ l. refl) m ns n in
    let was = so n decl at in
    (ap (λ (l : Logged). l.decl) same ∙ was.0, subst (λ (l : Logged). MatchesLog l) (sym same) was.1)

module _ (decls : List Decl) where
  -- so they are where it goes on
  abbrev StayTrue : Ending → Type 0
  StayTrue (Kept s) = AreTrue decls s.chans
  StayTrue (Again cause) = Unit {0}
  StayTrue (Aborted stop) = Unit {0}

  then_true : (o : Ending) (next : State → Ending) → StayTrue o
      → ((s : State) → AreTrue decls s.chans → StayTrue (next s)) → StayTrue (and_then o next)
  then_true (Kept s) next so more = more s so
  then_true (Again cause) next so more = tt
  then_true (Aborted stop) next so more = tt

  else_true : (o : Ending) (other : Cause → Ending) → StayTrue o → ((cause : Cause) → StayTrue (other cause))
      → StayTrue (or_else o other)
  else_true (Kept s) other so more = so
  else_true (Again cause) other so more = more cause
  else_true (Aborted stop) other so more = tt

  allowed : (there : Option Kind) (kind : Kind) (op : Op) → there ≡ Some kind → supported_there there op ≡ true
      → allowed_for kind op ≡ true
  allowed there kind op is fit = and_left (allowed_for kind op) (names_its_reader kind op)
      (sym (ap (λ t. supported_there t op) is) ∙ fit)

  module _ (tag : Tag) where
    did_true : (op : Op) (s : State) → is_fit (slice_get (kinds_in decls)) op ≡ true → AreTrue decls s.chans
        → (did : Did)
        → operate (s.chans (chan_of op)).channel tag.seat s.last op ≡ did → StayTrue (after_did s (chan_of op) tag did)
    did_true op s fit so (Replies reply acts left) is = λ n decl at. elim (eqb_tells n (chan_of op)) [
      | inl t ↦
          (let was = so (chan_of op) decl (ap (slice_get decls) (sym t.1) ∙ at) in
          let l : Logged = s.chans (chan_of op) in
          let may = allowed (slice_get (kinds_in decls) (chan_of op)) l.decl.kind op
          (at_map (λ (d : Decl). d.kind) decls (chan_of op) l.decl
          (ap (slice_get decls) (sym t.1) ∙ (at ∙ ap Some (sym was.0))))
          fit in
          let here : put_at s.chans (chan_of op) (grown l tag acts left) n ≡ grown l tag acts left =
          ap (λ b. if b then grown l tag acts left else s.chans n) t.0 in (
            ap (λ (x : Logged). x.decl) here ∙ was.0,
            subst (λ (x : Logged). MatchesLog x) (sym here)
                (stays_true l.decl.kind l.decl.bound l.decl.readers l.log l.channel left tag s.last op reply acts was.1
                may is),
          ))
      | inr t ↦
          (let there : put_at s.chans (chan_of op) (grown (s.chans (chan_of op)) tag acts left) n ≡ s.chans n =
          ap (λ b. if b then grown (s.chans (chan_of op)) tag acts left else s.chans n) t.0 in
          let was = so n decl at in
          (ap (λ (x : Logged). x.decl) there ∙ was.0, subst (λ (x : Logged). MatchesLog x) (sym there) was.1))
    ]
    did_true op s fit so (Waits cause) is = tt
    did_true op s fit so (Stops stop) is = tt

    -- a step that fits leaves them so
    abbrev LeavesTrue : Step → Type 0
    LeavesTrue step = IsTrue (every (is_fit (slice_get (kinds_in decls))) step) → (s : State) → AreTrue decls s.chans
        → StayTrue (step_in tag step s)

    steps_true : (steps : List Step) → EachStep LeavesTrue steps → Fits (slice_get (kinds_in decls)) steps → (s : State)
        → AreTrue decls s.chans → StayTrue (steps_in tag steps s)
    steps_true [] each fits s so = so
    steps_true (step ∷ steps) each fits s so =
        then_true (step_in tag step s) (steps_in tag steps) (each.0 (fits 0 step (omega arith)) s so)
        (λ t more. steps_true steps each.1
        (All-tail (λ (x : Step). IsTrue (every (is_fit (slice_get (kinds_in decls))) x)) step steps fits) t more)

    branches_true : (branches : List (List Step)) → EachBranch LeavesTrue branches
        → All (Every (is_fit (slice_get (kinds_in decls)))) branches → (cause : Cause) (s : State)
        → AreTrue decls s.chans → StayTrue (alternatives tag cause branches s)
    branches_true [] each fits cause s so = tt
    branches_true (branch ∷ branches) each fits cause s so =
        else_true (steps_in tag branch s) (λ why. alternatives tag why branches s)
        (steps_true branch each.0 (fits 0 branch (omega arith)) s so)
        (λ why. branches_true branches each.1
        (All-tail (Every (is_fit (slice_get (kinds_in decls)))) branch branches fits) why s so)

    step_true : (step : Step) → LeavesTrue step
    step_true = by_steps LeavesTrue
        (λ op fit s so. subst StayTrue (sym (step_in-Do tag op s))
        (did_true op s (sym (every-Do (is_fit (slice_get (kinds_in decls))) op) ∙ fit) so
        (operate (s.chans (chan_of op)).channel tag.seat s.last op) refl))
        (λ branches each fit s so. subst StayTrue (sym (step_in-Or tag branches s))
        (branches_true branches each
        (at_or (is_fit (slice_get (kinds_in decls))) (Or branches) branches refl fit) Asked s so))
        (λ fit s so. subst StayTrue (sym (step_in-Retry tag s)) tt)

  transaction_true : (m : Map) (tag : Tag) (declared : List ℕ) (steps : List Step)
      → Fits (slice_get (kinds_in decls)) steps → AreTrue decls m → StayTrue (transaction m tag declared steps)
  transaction_true m tag declared steps fits so = of (is_worn tag.serial || is_worn (greatest m tag.stamp declared))
    where
      kept : Tag
      kept = kept_tag m tag declared

      of : (b : Bool) → StayTrue (if b then Aborted Worn else steps_in kept steps (start m))
      of true = tt
      of false = steps_true kept steps (each_of (LeavesTrue kept) (step_true kept) steps) fits (start m) so

  occurs_true : (m next : Map) (event : Event) → Fits (slice_get (kinds_in decls)) event.plan.steps
      → Occurs m event next → AreTrue decls m → AreTrue decls next
  occurs_true m next event fits occurs so =
      subst (λ (x : Map). AreTrue decls x) (sym occurs.leaves)
      (settle_true decls occurs.state.chans event.receipt.tag.stamp event.plan.declared
      (subst StayTrue occurs.kept (transaction_true m (asked event) event.plan.declared event.plan.steps fits so)))

  -- transactions that fit, one after another, leave them so
  pub runs_true : (m left : Map) (order : List Event)
      → ((event : Event) → Has order event → Fits (slice_get (kinds_in decls)) event.plan.steps) → Runs m order left
      → AreTrue decls m → AreTrue decls left
  runs_true m left [] fits runs so = subst (λ (x : Map). AreTrue decls x) (sym runs) so
  runs_true m left (event ∷ order) fits runs so =
      runs_true runs.0 left order (λ e h. fits e (inr h)) runs.1.1
      (occurs_true m runs.0 event (fits event (inl refl)) runs.1.0 so)
