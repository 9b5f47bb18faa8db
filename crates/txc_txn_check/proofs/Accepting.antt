-- In steps within the limits that fit, the walk finds no fault.
use Rattle.std.proofs.Common.{◌≡◌, refl, sym, ◌∙◌, ap, subst, ⊎_elim, ℕ, ◌≤◌, ◌+◌, true, false, not, Option, Some, None}
use Rattle.std.proofs.Common.{List, [], ◌∷◌, length, arith, nat_lt, nat_le, if◌then◌else◌, Contains}
use Rattle.std.proofs.lemmas.Bool.{eqb-true}
use Rattle.std.proofs.lemmas.Bool.Decides.{nat_tests}
use Rattle.std.proofs.lemmas.Grind.{common_steps}
use Rattle.std.proofs.lemmas.Map.Views.{Contains-from_any}
use Rattle.txc_base.specs.declared.kind.Kind.{Kind}
use Rattle.txc_base.specs.declared.op.Op.{Op}
use Rattle.txc_base.specs.Kinds.{allowed_for, names_its_reader}
use Rattle.txc_base.specs.Op.{chan_of}
use Rattle.txc_txn_check.specs.declared.fault.TxnFault.{TxnFault}
use Rattle.txc_txn_check.specs.declared.fault.TxnFault.TheVariants.{NotForKind, NoReader, TooManyChannels, TooLong}
use Rattle.txc_txn_check.specs.declared.step.Step.{Step}
use Rattle.txc_txn_check.specs.declared.step.Step.TheVariants.{Do, Or, Retry}
use Rattle.txc_txn_check.specs.Limits.{IsChecked, IsRising, max_declared, max_nested, max_operations}
use Rattle.txc_txn_check.specs.Steps.{Fits, is_fit, is_on, supported_there}
use Rattle.txc_txn_check.specs.Walk.{Tally, Walked, Fine, Faulty, then_on, tallied, on_kind, nothing_seen, walk}
use Rattle.txc_txn_check.specs.Walk.{walk_op}
use Rattle.txc_txn_check.specs.Walk.{walk_step, walk_steps, walk_branches, with_channel}
use Rattle.txc_txn_check.proofs.Accepted.{Covers, Part, no_part, and_part, or_part, op_part}
use Rattle.txc_txn_check.proofs.Checking.{part_of, parts_of, branches_of, part-Do, part-Or, part-Retry, all_to}
use Rattle.txc_txn_check.proofs.Folds.{and_left, and_right}
use Rattle.txc_txn_check.proofs.Induction.{EachStep, EachBranch, each_of, by_steps}
use Rattle.txc_txn_check.proofs.Containing.{contains_none}
use Rattle.txc_txn_check.proofs.Rising.{rises_with, from_with, no_longer}
use Rattle.txc_txn_check.proofs.Walking.{walk_step-Do, walk_step-Retry, or_walk}

-- a part fits, is on these channels alone, and with what was seen before it is within the limits
pub record HasRoom (declared : List ℕ) (depth : ℕ) (b : Tally) (part : Part) : Type 0 where
  pub fits : part.fit ≡ true
  pub names : part.names declared ≡ true
  pub rises : IsRising b.channels
  pub among : Covers declared b.channels
  pub short : b.operations + part.operations ≤ max_operations
  pub shallow : depth + part.deep ≤ max_nested

-- a walk over a part found no fault, and leaves a tally of these channels
pub record Gone (declared : List ℕ) (b : Tally) (part : Part) (walked : Walked) : Type 0 where
  pub a : Tally
  pub fine : walked ≡ Fine a
  pub rises : IsRising a.channels
  pub among : Covers declared a.channels
  pub count : a.operations ≡ b.operations + part.operations

-- a walk over a part finds no fault where there is room for it
abbrev pub Goes : List ℕ → (ℕ → Tally → Walked) → Part → Type 0
Goes declared walks part = (depth : ℕ) (b : Tally) → HasRoom declared depth b part
    → Gone declared b part (walks depth b)

-- no steps
none_goes : (declared : List ℕ) → Goes declared (λ depth b. Fine b) no_part
none_goes declared depth b room = record {
  a = b;
  fine = refl;
  rises = room.rises;
  among = room.among;
  count = omega arith;
}

-- one part and then another
and_goes : (declared : List ℕ) (v w : ℕ → Tally → Walked) (p q : Part) → Goes declared v p → Goes declared w q
    → Goes declared (λ depth b. then_on (v depth b) (w depth)) (and_part p q)
and_goes declared v w p q x y depth b room = record {
  a = two.a;
  fine = ap (λ o. then_on o (w depth)) one.fine ∙ two.fine;
  rises = two.rises;
  among = two.among;
  count = omega (arith, one.count, two.count);
}
  where
    one : Gone declared b p (v depth b)
    one = x depth b (record {
      fits = and_left p.fit q.fit room.fits;
      names = and_left (p.names declared) (q.names declared) room.names;
      rises = room.rises;
      among = room.among;
      short = omega (arith, room.short);
      shallow = omega (arith, room.shallow);
    })

    two : Gone declared one.a q (w depth one.a)
    two = y depth one.a (record {
      fits = and_right p.fit q.fit room.fits;
      names = and_right (p.names declared) (q.names declared) room.names;
      rises = one.rises;
      among = one.among;
      short = omega (arith, room.short, one.count);
      shallow = omega (arith, room.shallow);
    })

-- an operation that its kind supports is counted
kind_supports : (there : Option Kind) (op : Op) (b : Tally) → supported_there there op ≡ true
    → on_kind there op b ≡ tallied (chan_of op) b
kind_supports None op b h = cc
kind_supports (Some kind) op b h =
    ap (λ t. if not t then Faulty NotForKind else if not (names_its_reader kind op) then Faulty NoReader else tallied
    (chan_of op) b)
    (and_left (allowed_for kind op) (names_its_reader kind op) h)
    ∙ ap (λ t. if not t then Faulty NoReader else tallied (chan_of op) b)
    (and_right (allowed_for kind op) (names_its_reader kind op) h)

-- there is room for one operation more
one_more : (n : ℕ) → n + 1 ≤ max_operations → nat_le max_operations n ≡ false
one_more n h = grind (arith, nat_tests, common_steps)

-- so many channels are not too many
few_enough : (n : ℕ) → n ≤ max_declared → nat_lt max_declared n ≡ false
few_enough n h = grind (arith, nat_tests, common_steps)

-- an operation
op_goes : (kinds : ℕ → Option Kind) (declared : List ℕ) → IsRising declared → length declared ≤ max_declared
    → (op : Op)
    → Goes declared (λ depth. walk_op kinds op) (op_part kinds op)
op_goes kinds declared rising few op depth b room = record {
  a = record { operations = b.operations + 1; channels = with_channel (chan_of op) b.channels };
  fine = ap (λ t. if t then Faulty TooLong else on_kind (kinds (chan_of op)) op b) (one_more b.operations room.short)
      ∙ kind_supports (kinds (chan_of op)) op b room.fits
      ∙ ap (λ t. if t then Faulty TooManyChannels else Fine
      (record { operations = b.operations + 1; channels = with_channel (chan_of op) b.channels }))
      (few_enough (length (with_channel (chan_of op) b.channels)) (omega (arith, few, long)));
  rises = rises;
  among = among;
  count = refl;
}
  where
    on : Contains declared (chan_of op)
    on = Contains-from_any eqb-true (chan_of op) declared room.names

    rises : IsRising (with_channel (chan_of op) b.channels)
    rises = rises_with 0 (chan_of op) b.channels (omega arith) room.rises

    among : Covers declared (with_channel (chan_of op) b.channels)
    among n i = ⊎_elim (λ j. room.among n j) (λ e. subst (Contains declared) e on)
        (from_with (chan_of op) b.channels n i)

    long : length (with_channel (chan_of op) b.channels) ≤ length declared
    long = no_longer 0 0 (with_channel (chan_of op) b.channels) declared rises rising among

-- a walk over a step finds no fault where there is room for it
abbrev StepGoes : (ℕ → Option Kind) → List ℕ → Step → Type 0
StepGoes kinds declared step = Goes declared (walk_step kinds step) (part_of kinds step)

-- steps, where each goes
steps_go : (kinds : ℕ → Option Kind) (declared : List ℕ) (steps : List Step) → EachStep (StepGoes kinds declared) steps
    → Goes declared (walk_steps kinds steps) (parts_of kinds steps)
steps_go kinds declared [] each depth b room = none_goes declared depth b room
steps_go kinds declared (step ∷ steps) each depth b room =
    and_goes declared (walk_step kinds step) (walk_steps kinds steps) (part_of kinds step) (parts_of kinds steps) each.0
    (steps_go kinds declared steps each.1) depth b room

-- branches, where each step of them goes
branches_go : (kinds : ℕ → Option Kind) (declared : List ℕ) (bs : List (List Step))
    → EachBranch (StepGoes kinds declared) bs
    → Goes declared (walk_branches kinds bs) (branches_of kinds bs)
branches_go kinds declared [] each depth b room = none_goes declared depth b room
branches_go kinds declared (branch ∷ bs) each depth b room =
    and_goes declared (walk_steps kinds branch) (walk_branches kinds bs) (parts_of kinds branch) (branches_of kinds bs)
    (steps_go kinds declared branch each.0) (branches_go kinds declared bs each.1) depth b room

-- the same part, and the same walk over it
moved : (declared : List ℕ) (depth : ℕ) (b : Tally) (p q : Part) (v w : Walked) → p ≡ q → v ≡ w
    → (HasRoom declared depth b q → Gone declared b q w)
    → HasRoom declared depth b p → Gone declared b p v
moved declared depth b p q v w same is goes room =
    subst (Gone declared b p) (sym is)
    (subst (λ (x : Part). Gone declared b x w) (sym same) (goes (subst (HasRoom declared depth b) same room)))

-- an alternative of these
or_goes : (kinds : ℕ → Option Kind) (declared : List ℕ) (bs : List (List Step))
    → EachBranch (StepGoes kinds declared) bs → StepGoes kinds declared (Or bs)
or_goes kinds declared bs each depth b room = record {
  a = gone.a;
  fine = or_walk kinds (Or bs) bs depth b refl (omega (arith, here.shallow)) ∙ gone.fine;
  rises = gone.rises;
  among = gone.among;
  count = gone.count ∙ ap (λ (x : Part). b.operations + x.operations) (sym (part-Or kinds bs));
}
  where
    here : HasRoom declared depth b (or_part (branches_of kinds bs))
    here = subst (HasRoom declared depth b) (part-Or kinds bs) room

    gone : Gone declared b (branches_of kinds bs) (walk_branches kinds bs (depth + 1) b)
    gone = branches_go kinds declared bs each (depth + 1) b (record {
      fits = here.fits;
      names = here.names;
      rises = here.rises;
      among = here.among;
      short = here.short;
      shallow = omega (arith, here.shallow);
    })

-- every step
step_goes : (kinds : ℕ → Option Kind) (declared : List ℕ) → IsRising declared → length declared ≤ max_declared
    → (step : Step) → StepGoes kinds declared step
step_goes kinds declared rising few = by_steps (StepGoes kinds declared)
    (λ op depth b. moved declared depth b (part_of kinds (Do op)) (op_part kinds op) (walk_step kinds (Do op) depth b)
    (walk_op kinds op b)
    (part-Do kinds op) (walk_step-Do kinds op depth b) (op_goes kinds declared rising few op depth b))
    (or_goes kinds declared)
    (λ depth b. moved declared depth b (part_of kinds Retry) no_part (walk_step kinds Retry depth b) (Fine b)
    (part-Retry kinds) (walk_step-Retry kinds depth b) (none_goes declared depth b))

-- steps within the limits that fit are walked over without a fault
pub accepts : (kinds : ℕ → Option Kind) (steps : List Step) (declared : List ℕ)
    → IsChecked (record { steps = steps; declared = declared }) → Fits kinds steps
    → (a : Tally) × (walk kinds steps ≡ Fine a)
accepts kinds steps declared plan fits = (gone.a, gone.fine)
  where
    gone : Gone declared nothing_seen (parts_of kinds steps) (walk kinds steps)
    gone = steps_go kinds declared steps
        (each_of (StepGoes kinds declared) (step_goes kinds declared plan.rising plan.few) steps) 0 nothing_seen
        (record {
          fits = all_to (is_fit kinds) steps fits;
          names = all_to (is_on declared) steps plan.names;
          rises = tt;
          among = λ n i. absurd (contains_none n i);
          short = omega (arith, plan.short);
          shallow = omega (arith, plan.shallow);
        })

-- a walk that found no fault found none
not_both : (fault : TxnFault) (a : Tally) → Faulty fault ≡ Fine a → ⊥
not_both fault a e = cc

-- .. so they are never refused
pub not_refused : (kinds : ℕ → Option Kind) (steps : List Step) (declared : List ℕ) (fault : TxnFault)
    → IsChecked (record { steps = steps; declared = declared })
    → Fits kinds steps → walk kinds steps ≡ Faulty fault → ⊥
not_refused kinds steps declared fault plan fits err =
    let fine = accepts kinds steps declared plan fits in not_both fault fine.0 (sym err ∙ fine.1)
