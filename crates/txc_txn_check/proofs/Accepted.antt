-- What holds of steps in which a walk finds no fault.
use Rattle.std.proofs.Common.{◌≡◌, refl, subst, inl, inr, ◌⊎◌, ⊎_elim, ℕ, suc, ◌<◌, ◌≤◌, ◌+◌, max, Bool, true, false}
use Rattle.std.proofs.Common.{not, ◌&&◌, ◌||◌, Option, Some, None, List, length, arith, nat_eq, nat_lt, nat_le}
use Rattle.std.proofs.Common.{if◌then◌else◌, Contains}
use Rattle.std.proofs.lemmas.Bool.Decides.{nat_tests}
use Rattle.std.proofs.lemmas.Grind.{common_steps}
use Rattle.txc_base.specs.declared.kind.Kind.{Kind}
use Rattle.txc_base.specs.declared.op.Op.{Op}
use Rattle.txc_base.specs.Kinds.{allowed_for, names_its_reader}
use Rattle.txc_base.specs.Op.{chan_of}
use Rattle.txc_txn_check.specs.declared.fault.TxnFault.{TxnFault}
use Rattle.txc_txn_check.specs.declared.fault.TxnFault.TheVariants.{NotForKind, NoReader, TooLong, TooManyChannels}
use Rattle.txc_txn_check.specs.Limits.{IsRising, max_declared, max_nested, max_operations}
use Rattle.txc_txn_check.specs.Steps.{is_fit, is_on, supported_there}
use Rattle.txc_txn_check.specs.Walk.{Tally, Walked, Fine, Faulty, then_on, tallied, on_kind, walk_op, with_channel}
use Rattle.txc_txn_check.proofs.Rising.{rises_with, kept_with, new_with, from_with, finds}

-- these have all of those
abbrev pub Covers : List ℕ → List ℕ → Type 0
Covers later channels = (n : ℕ) → Contains channels n → Contains later n

-- a part of the steps: whether it fits, whether it names no other channels than these, whether it is on a
-- channel, how many operations it has, and how deep its alternatives stand in one another
pub record Part : Type 0 where
  pub fit : Bool
  pub names : List ℕ → Bool
  pub on : ℕ → Bool
  pub operations : ℕ
  pub deep : ℕ

-- what holds of a part between two tallies
pub record Accepted (depth : ℕ) (b a : Tally) (part : Part) : Type 0 where
  pub fits : part.fit ≡ true
  pub named : (later : List ℕ) → Covers later a.channels → part.names later ≡ true
  pub from : (n : ℕ) → Contains a.channels n → Contains b.channels n ⊎ (part.on n ≡ true)
  pub kept : Covers a.channels b.channels
  pub rises : IsRising b.channels → IsRising a.channels
  pub few : length b.channels ≤ max_declared → length a.channels ≤ max_declared
  pub count : a.operations ≡ b.operations + part.operations
  pub short : b.operations ≤ max_operations → a.operations ≤ max_operations
  pub shallow : depth ≤ max_nested → depth + part.deep ≤ max_nested

-- no steps
abbrev pub no_part : Part
no_part = record { fit = true; names = λ later. true; on = λ n. false; operations = 0; deep = 0 }

-- one part and then another
abbrev pub and_part : Part → Part → Part
and_part x y = record {
  fit = x.fit && y.fit;
  names = λ later. x.names later && y.names later;
  on = λ n. x.on n || y.on n;
  operations = x.operations + y.operations;
  deep = max x.deep y.deep;
}

-- an alternative of these
abbrev pub or_part : Part → Part
or_part x = record { fit = x.fit; names = x.names; on = x.on; operations = x.operations; deep = suc x.deep }

-- an operation
abbrev pub op_part : (ℕ → Option Kind) → Op → Part
op_part kinds op = record {
  fit = is_fit kinds op;
  names = λ later. is_on later op;
  on = λ n. nat_eq (chan_of op) n;
  operations = 1;
  deep = 0;
}

pub both : (x y : Bool) → x ≡ true → y ≡ true → x && y ≡ true
both true y h k = k
both false y h k = h

pub either_left : (x y : Bool) → x ≡ true → x || y ≡ true
either_left true y h = refl
either_left false y h = cc

pub either_right : (x y : Bool) → y ≡ true → x || y ≡ true
either_right true y h = refl
either_right false y h = h

-- nothing was walked over
pub nothing : (depth : ℕ) (b a : Tally) → Fine b ≡ Fine a → Accepted depth b a no_part
nothing depth b a e = subst (λ (x : Tally). Accepted depth b x no_part) is (record {
  fits = refl;
  named = λ later h. refl;
  from = λ n h. inl h;
  kept = λ n h. h;
  rises = λ h. h;
  few = λ h. h;
  count = omega arith;
  short = λ h. h;
  shallow = λ h. omega (arith, h);
})
  where
    is : b ≡ a
    is = cc

-- one part and then another
pub join : (depth : ℕ) (b m a : Tally) (p q : Part) → Accepted depth b m p → Accepted depth m a q
    → Accepted depth b a (and_part p q)
join depth b m a p q x y = record {
  fits = both p.fit q.fit x.fits y.fits;
  named = λ later h. both (p.names later) (q.names later) (x.named later (λ n i. h n (y.kept n i))) (y.named later h);
  from = λ n h. ⊎_elim
      (λ i. ⊎_elim (λ j. inl j) (λ j. inr (either_left (p.on n) (q.on n) j)) (x.from n i))
      (λ j. inr (either_right (p.on n) (q.on n) j)) (y.from n h);
  kept = λ n h. y.kept n (x.kept n h);
  rises = λ h. y.rises (x.rises h);
  few = λ h. y.few (x.few h);
  count = omega (arith, x.count, y.count);
  short = λ h. y.short (x.short h);
  shallow = λ h. omega (arith, x.shallow h, y.shallow h);
}

-- an alternative round it
pub inside : (depth : ℕ) (b a : Tally) (p : Part) → depth < max_nested → Accepted (suc depth) b a p
    → Accepted depth b a (or_part p)
inside depth b a p lt x = record {
  fits = x.fits;
  named = x.named;
  from = x.from;
  kept = x.kept;
  rises = x.rises;
  few = x.few;
  count = x.count;
  short = x.short;
  shallow = λ h. omega (arith, x.shallow lt);
}

-- a test that found no fault
pub if_fine : (test : Bool) (fault : TxnFault) (next : Walked) (a : Tally)
    → (if test then Faulty fault else next) ≡ Fine a → (test ≡ false) × (next ≡ Fine a)
if_fine true fault next a h = cc
if_fine false fault next a h = (refl, h)

not_false : (x : Bool) → not x ≡ false → x ≡ true
not_false true h = refl
not_false false h = cc

-- after one part another was walked over
pub split : (w : Walked) (next : Tally → Walked) (a : Tally) → then_on w next ≡ Fine a → (m : Tally) × (w ≡ Fine m)
    × (next m ≡ Fine a)
split (Fine m) next a h = (m, refl, h)
split (Faulty fault) next a h = cc

kind_fine : (there : Option Kind) (op : Op) (b a : Tally) → on_kind there op b ≡ Fine a
    → (supported_there there op ≡ true)
    × (tallied (chan_of op) b ≡ Fine a)
kind_fine None op b a h = cc
kind_fine (Some kind) op b a h =
    let one = if_fine (not (allowed_for kind op)) NotForKind
    (if not (names_its_reader kind op) then Faulty NoReader else tallied (chan_of op) b) a h in
    let two = if_fine (not (names_its_reader kind op)) NoReader (tallied (chan_of op) b) a one.1 in (
      both (allowed_for kind op) (names_its_reader kind op) (not_false (allowed_for kind op) one.0)
          (not_false (names_its_reader kind op) two.0),
      two.1,
    )

fine_is : (x y : Tally) → Fine x ≡ Fine y → x ≡ y
fine_is x y h = cc

not_long : (n : ℕ) → nat_le max_operations n ≡ false → n < max_operations
not_long n h = grind (arith, nat_tests, common_steps)

not_many : (n : ℕ) → nat_lt max_declared n ≡ false → n ≤ max_declared
not_many n h = grind (arith, nat_tests, common_steps)

is_same : (n k : ℕ) → n ≡ k → nat_eq n k ≡ true
is_same n k h = grind (arith, nat_tests, common_steps)

-- an operation
pub one : (kinds : ℕ → Option Kind) (op : Op) (depth : ℕ) (b a : Tally) → walk_op kinds op b ≡ Fine a
    → Accepted depth b a (op_part kinds op)
one kinds op depth b a h = subst (λ (x : Tally). Accepted depth b x (op_part kinds op)) is (record {
  fits = there.0;
  named = λ later cover. finds chan later (cover chan (new_with chan b.channels));
  from = λ n i. ⊎_elim (λ j. inl j) (λ e. inr (is_same chan n e)) (from_with chan b.channels n i);
  kept = λ n i. kept_with chan b.channels n i;
  rises = λ rising. rises_with 0 chan b.channels (omega arith) rising;
  few = λ few. not_many (length (with_channel chan b.channels)) room.0;
  count = refl;
  short = λ short. omega (arith, not_long b.operations long.0);
  shallow = λ shallow. omega (arith, shallow);
})
  where
    chan : ℕ
    chan = chan_of op

    long : (nat_le max_operations b.operations ≡ false) × (on_kind (kinds (chan_of op)) op b ≡ Fine a)
    long = if_fine (nat_le max_operations b.operations) TooLong (on_kind (kinds (chan_of op)) op b) a h

    there : (supported_there (kinds (chan_of op)) op ≡ true) × (tallied (chan_of op) b ≡ Fine a)
    there = kind_fine (kinds (chan_of op)) op b a long.1

    room : (nat_lt max_declared (length (with_channel chan b.channels)) ≡ false)
        × (Fine (record { operations = b.operations + 1; channels = with_channel chan b.channels }) ≡ Fine a)
    room = if_fine (nat_lt max_declared (length (with_channel chan b.channels))) TooManyChannels
        (Fine (record { operations = b.operations + 1; channels = with_channel chan b.channels })) a there.1

    is : record { operations = b.operations + 1; channels = with_channel chan b.channels } ≡ a
    is = fine_is (record { operations = b.operations + 1; channels = with_channel chan b.channels }) a room.1
