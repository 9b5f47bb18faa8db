-- A transaction of two operations.
use Rattle.std.proofs.Common.{◌≡◌, ◌≢◌, refl, sym, ◌∙◌, ap, subst, inl, inr, ◌⊎◌, ⊎_elim, ℕ, suc, ◌||◌, Bool, true}
use Rattle.std.proofs.Common.{false, if◌then◌else◌, max, nat_lt, Option, None, Some, List, [], ◌∷◌, length}
use Rattle.std.proofs.Common.{Contains, arith}
use Rattle.std.proofs.lemmas.Bool.Decides.{eqb_tells, leb_tells}
use Rattle.txc_base.specs.declared.act.Act.{Act}
use Rattle.txc_base.specs.declared.act.Act.TheVariants.{Took}
use Rattle.txc_base.specs.declared.cause.Cause.{Cause}
use Rattle.txc_base.specs.declared.cause.Cause.TheVariants.{Empty}
use Rattle.txc_base.specs.declared.item.Item.{Item}
use Rattle.txc_base.specs.declared.op.Op.{Op}
use Rattle.txc_base.specs.declared.op.Op.TheVariants.{Read, Write}
use Rattle.txc_base.specs.declared.reply.Reply.TheVariants.{Closed, Got}
use Rattle.txc_base.specs.declared.source.Source.TheVariants.{Last, Lit}
use Rattle.txc_base.specs.declared.stop.Stop.TheVariants.{Worn}
use Rattle.txc_base.specs.declared.tag.Tag.{Tag}
use Rattle.txc_base.specs.Channel.{Channel, list_of}
use Rattle.txc_base.specs.Operation.{Did, Replies, Waits, Stops, operate, says, taking, with_left, with_list}
use Rattle.txc_base.specs.Reply.{last_read_after}
use Rattle.txc_chan.specs.Committed.{HasNoAct, IsCommittedOp, reply_to}
use Rattle.txc_chan.specs.Logged.{Left, Logged, Waiting, grown, on_log, op_on, settled}
use Rattle.txc_txn_check.proofs.Containing.{contains_none, contains_tail, tells}
use Rattle.txc_txn_check.specs.declared.step.Step.TheVariants.{Do}
use Rattle.txc_txn.specs.declared.ran.Ran.TheVariants.{Kept as RanKept}
use Rattle.txc_txn.specs.Maps.{Map, put_at, settle_all}
use Rattle.txc_txn.specs.Run.{RanSettled}
use Rattle.txc_txn.specs.Transaction.{Again, Ending, Aborted, Kept, State, after_did, and_then, greatest}
use Rattle.txc_txn.specs.Transaction.{is_worn, kept_tag, op_in, sequence, start, step_in, steps_in, transaction}
use Rattle.txc_txn.specs.TwoOperations.{IsNoPair, TwoAreInTurn, lower_first, move_steps, pair_of}
use Rattle.txc_txn.proofs.Running.{step_in-Do}
use Rattle.txc_txn.proofs.Settling.{settle_inside, settle_others}

-- a last step is what its operation does
last_step : (tag : Tag) (op : Op) (ending : Ending)
    → and_then ending (sequence (step_in tag (Do op) ∷ [])) ≡ and_then ending (op_in tag op)
last_step tag op (Kept state) =
    ap (λ e. and_then e (sequence [])) (step_in-Do tag op state) ∙ ends (op_in tag op state)
  where
    ends : (ending : Ending) → and_then ending (sequence []) ≡ ending
    ends (Kept state) = refl
    ends (Again cause) = refl
    ends (Aborted stop) = refl
last_step tag op (Again cause) = refl
last_step tag op (Aborted stop) = refl

pub two_in_turn : TwoAreInTurn
two_in_turn m tag declared one other worn =
    let kept = kept_tag m tag declared in
    ap (λ (b : Bool). if b then Aborted Worn else steps_in kept (Do one ∷ Do other ∷ []) (start m)) worn
    ∙ ap (λ e. and_then e (sequence (step_in kept (Do other) ∷ []))) (step_in-Do kept one (start m))
    ∙ last_step kept other (op_in kept one (start m))

-- the greatest stamp does not depend on the order of two channels
pub greatest_of_both : (m : Map) (most from to : ℕ)
    → greatest m most (lower_first from to) ≡ max (max most (m from).stamp) (m to).stamp
greatest_of_both m most from to =
    let at : (b : Bool) → nat_lt from to ≡ b
    → greatest m most (lower_first from to) ≡ greatest m most (if b then from ∷ to ∷ [] else to ∷ from ∷ []) =
    λ b is. ap (λ (x : Bool). greatest m most (if x then from ∷ to ∷ [] else to ∷ from ∷ [])) is in
    elim (leb_tells (suc from) to) [ inl t ↦ at true t.0 | inr t ↦ at false t.0 ∙ omega arith ]

-- one of two numbers
of_two : (a b n : ℕ) → Contains (a ∷ b ∷ []) n → (n ≡ a) ⊎ (n ≡ b)
of_two a b n is = elim (eqb_tells n a) [
  | inl t ↦ inl t.1
  | inr t ↦
      elim (eqb_tells n b) [
        | inl u ↦ inr u.1
        | inr u ↦ absurd (contains_none n (contains_tail n b [] u.1 (contains_tail n a (b ∷ []) t.1 is)))
      ]
]

-- the two numbers, and no other
pub only_both : (from to n : ℕ) → Contains (lower_first from to) n → (n ≡ from) ⊎ (n ≡ to)
only_both from to n is = elim (leb_tells (suc from) to) [
  | inl t ↦
      of_two from to n (subst (λ (b : Bool). Contains (if b then from ∷ to ∷ [] else to ∷ from ∷ []) n) t.0 is)
  | inr t ↦
      ⊎_elim inr inl (of_two to from n
      (subst (λ (b : Bool). Contains (if b then from ∷ to ∷ [] else to ∷ from ∷ []) n) t.0 is))
]

pub both_contain : (from to : ℕ) → Contains (lower_first from to) from × Contains (lower_first from to) to
both_contain from to =
    let Both : Bool → Type 0 = λ b. Contains (if b then from ∷ to ∷ [] else to ∷ from ∷ []) from
    × Contains (if b then from ∷ to ∷ [] else to ∷ from ∷ []) to in
    elim (leb_tells (suc from) to) [
      | inl t ↦ subst Both (sym t.0) ((0, omega arith, refl), (1, omega arith, refl))
      | inr t ↦ subst Both (sym t.0) ((1, omega arith, refl), (0, omega arith, refl))
    ]

-- what was put in a place, and what is in another one
pub put_here : (m : Map) (n : ℕ) (l : Logged) → put_at m n l n ≡ l
put_here m n l = elim (eqb_tells n n) [
  | inl t ↦ ap (λ (b : Bool). if b then l else m n) t.0
  | inr t ↦ absurd (t.1 refl)
]

pub put_elsewhere : (m : Map) (n k : ℕ) (l : Logged) → k ≢ n → put_at m n l k ≡ m k
put_elsewhere m n k l ne = elim (eqb_tells k n) [
  | inl t ↦ absurd (ne t.1)
  | inr t ↦ ap (λ (b : Bool). if b then l else m k) t.0
]

-- what a read did that took this item
pub record HasTaken (l mid : Logged) (tag : Tag) (reader : ℕ) (item : Item) (what : Did) : Type 0 where
  pub left : Channel
  pub done : what ≡ Replies (Got item) (Took reader item ∷ []) left
  pub grew : mid ≡ grown l tag (Took reader item ∷ []) left

pub has_taken : (l mid : Logged) (tag : Tag) (from reader : ℕ) (item : Item)
    → op_on l tag None (Read from reader) ≡ Left (Got item) mid
    → HasTaken l mid tag reader item (operate l.channel tag.seat None (Read from reader))
has_taken l mid tag from reader item = by (list_of l.channel reader)
  where
    never : (b : Bool) → on_log l tag (if b then says Closed l.channel else Waits Empty) ≡ Left (Got item) mid → ⊥
    never true is = cc
    never false is = cc

    by : (found : Option (List Item))
        → on_log l tag (with_list found (taking l.channel reader (Waits Empty))) ≡ Left (Got item) mid
        → HasTaken l mid tag reader item (with_list found (taking l.channel reader (Waits Empty)))
    by None is = cc
    by (Some []) is = absurd (never l.channel.closed is)
    by (Some (i ∷ rest)) is =
        let left : Channel = with_left l.channel reader rest in
        let same : i ≡ item = cc in
        let grew : grown l tag (Took reader i ∷ []) left ≡ mid = cc in
        record {
          left = left;
          done = ap (λ (x : Item). Replies (Got x) (Took reader x ∷ []) left) same;
          grew = sym grew ∙ ap (λ (x : Item). grown l tag (Took reader x ∷ []) left) same;
        }

-- the state after a read that took this item
abbrev after_take : Map → Tag → ℕ → ℕ → Item → Channel → State
after_take m tag from reader item left = record {
  chans = put_at m from (grown (m from) tag (Took reader item ∷ []) left);
  last = Some item.body;
  replies = Got item ∷ [];
  deeds = record { chan = from; place = length (m from).log; act = Took reader item } ∷ [];
}

-- after the read a move is the write of the item
then_writes : (m : Map) (tag : Tag) (ds : List ℕ) (from reader to : ℕ) (item : Item) (left : Channel)
    → let kept = kept_tag m tag ds in
    (is_worn tag.serial || is_worn (greatest m tag.stamp ds)) ≡ false
    → operate (m from).channel tag.seat None (Read from reader) ≡ Replies (Got item) (Took reader item ∷ []) left
    → transaction m tag ds (move_steps from reader to)
    ≡ op_in kept (Write to Last) (after_take m kept from reader item left)
then_writes m tag ds from reader to item left rises done =
    let kept = kept_tag m tag ds in
    two_in_turn m tag ds (Read from reader) (Write to Last) rises
    ∙ ap (λ (what : Did). and_then (after_did (start m) from kept what) (op_in kept (Write to Last))) done

-- a write of what was read last, to a channel that is found so
writes_last : (s : State) (tag : Tag) (to : ℕ) (l : Logged) (body : ℕ) (what : Did) → s.chans to ≡ l
    → s.last ≡ Some body → operate l.channel tag.seat None (Write to (Lit body)) ≡ what
    → op_in tag (Write to Last) s ≡ after_did s to tag what
writes_last s tag to l body what at last is =
    ap (λ (x : Option ℕ). after_did s to tag (operate (s.chans to).channel tag.seat x (Write to Last))) last
    ∙ ap (λ (x : Logged). after_did s to tag (operate x.channel tag.seat None (Write to (Lit body)))) at
    ∙ ap (after_did s to tag) is

-- what is so of a move that declares these channels: the one was read and settled, the other one was written to at
-- once, the other declared ones were settled, and all others are the same
pub record HasMoved (m m' : Map) (tag kept : Tag) (ds : List ℕ) (from reader to : ℕ) (item : Item) (act : Act)
    (mid : Logged) : Type 0 where
  pub apart : from ≢ to
  pub here : Contains ds from
  pub there : Contains ds to
  pub rises : (is_worn tag.serial || is_worn (greatest m tag.stamp ds)) ≡ false
  pub took : op_on (m from) kept None (Read from reader) ≡ Left (Got item) mid
  pub source : m' from ≡ settled kept.stamp mid
  pub wrote : IsCommittedOp kept (Write to (Lit item.body)) act (m to) (m' to)
  pub inside : (n : ℕ) → n ≢ from → n ≢ to → Contains ds n → m' n ≡ settled kept.stamp (m n)
  pub outside : (n : ℕ) → ¬ Contains ds n → m' n ≡ m n

-- the transaction of a move with this receipt was committed
moves : (m m' : Map) (tag : Tag) (ds : List ℕ) (from reader to : ℕ) (item : Item) (act : Act) (mid : Logged)
    → let kept = kept_tag m tag ds in
    HasMoved m m' tag kept ds from reader to item act mid
    → RanSettled kept ds (transaction m tag ds (move_steps from reader to))
    (RanKept (pair_of kept (record { chan = from; place = length (m from).log; act = Took reader item })
    (record { chan = to; place = length (m to).log; act = act }))) m m'
moves m m' tag ds from reader to item act mid has =
    let kept = kept_tag m tag ds in
    let taken = has_taken (m from) mid kept from reader item has.took in
    let one : State = after_take m kept from reader item taken.left in
    let target : Logged = grown (m to) kept (act ∷ []) has.wrote.left in
    let at : one.chans to ≡ m to = put_elsewhere m from to _ (λ e. has.apart (sym e)) in
    let state : State = record {
      chans = put_at one.chans to target;
      last = last_read_after (reply_to act) one.last;
      replies = Got item ∷ reply_to act ∷ [];
      deeds = record { chan = from; place = length (m from).log; act = Took reader item }
          ∷ record { chan = to; place = length (m to).log; act = act } ∷ [];
    } in
    let ends : transaction m tag ds (move_steps from reader to) ≡ Kept state =
    then_writes m tag ds from reader to item taken.left has.rises taken.done
    ∙ writes_last one kept to (m to) item.body _ at refl has.wrote.done
    ∙ (λ j. Kept (record {
      chans = put_at one.chans to (grown (at j) kept (act ∷ []) has.wrote.left);
      last = last_read_after (reply_to act) one.last;
      replies = Got item ∷ reply_to act ∷ [];
      deeds = record { chan = from; place = length (m from).log; act = Took reader item }
          ∷ record { chan = to; place = length (at j).log; act = act } ∷ [];
    })) in
    let there : m' to ≡ settle_all state.chans kept.stamp ds to =
    has.wrote.settles ∙ ap (settled kept.stamp) (sym (put_here one.chans to target))
    ∙ sym (settle_inside state.chans kept.stamp ds to has.there) in
    let here : m' from ≡ settle_all state.chans kept.stamp ds from =
    has.source
    ∙ ap (settled kept.stamp) (taken.grew ∙ sym (put_here m from _)
    ∙ sym (put_elsewhere one.chans to from target has.apart))
    ∙ sym (settle_inside state.chans kept.stamp ds from has.here) in
    let same : (n : ℕ) → n ≢ from → n ≢ to → m n ≡ state.chans n =
    λ n no not. sym (put_elsewhere m from n _ no) ∙ sym (put_elsewhere one.chans to n target not) in
    let elsewhere : (n : ℕ) → n ≢ from → n ≢ to → m' n ≡ settle_all state.chans kept.stamp ds n =
    λ n no not. elim (tells ds n) [
      | inl is ↦
          has.inside n no not is ∙ ap (settled kept.stamp) (same n no not)
          ∙ sym (settle_inside state.chans kept.stamp ds n is)
      | inr none ↦ has.outside n none ∙ same n no not ∙ sym (settle_others state.chans kept.stamp ds n none)
    ] in
    let all : (n : ℕ) → m' n ≡ settle_all state.chans kept.stamp ds n = λ n. elim (eqb_tells n from) [
      | inl t ↦ subst (λ k. m' k ≡ settle_all state.chans kept.stamp ds k) (sym t.1) here
      | inr t ↦
          elim (eqb_tells n to) [
            | inl u ↦ subst (λ k. m' k ≡ settle_all state.chans kept.stamp ds k) (sym u.1) there
            | inr u ↦ elsewhere n t.1 u.1
          ]
    ] in
    subst (λ (e : Ending). RanSettled kept ds e (RanKept (pair_of kept
    (record { chan = from; place = length (m from).log; act = Took reader item })
    (record { chan = to; place = length (m to).log; act = act }))) m m') (sym ends) (refl, λ j n. all n j)

-- the same, by another name of its tag
pub has_moved : (m m' : Map) (tag kept : Tag) (ds : List ℕ) (from reader to : ℕ) (item : Item) (act : Act)
    (mid : Logged)
    → kept ≡ kept_tag m tag ds → HasMoved m m' tag kept ds from reader to item act mid
    → RanSettled (kept_tag m tag ds) ds (transaction m tag ds (move_steps from reader to))
    (RanKept (pair_of kept (record { chan = from; place = length (m from).log; act = Took reader item })
    (record { chan = to; place = length (m to).log; act = act }))) m m'
has_moved m m' tag kept ds from reader to item act mid tagged =
    subst (λ (t : Tag). HasMoved m m' tag t ds from reader to item act mid
    → RanSettled (kept_tag m tag ds) ds (transaction m tag ds (move_steps from reader to))
    (RanKept (pair_of t (record { chan = from; place = length (m from).log; act = Took reader item })
    (record { chan = to; place = length (m to).log; act = act }))) m m') (sym tagged)
    (moves m m' tag ds from reader to item act mid)

-- what waits does so without its log
pub waiting : (l : Logged) (tag : Tag) (what : Did) (cause : Cause) → on_log l tag what ≡ Waiting cause
    → what ≡ Waits cause
waiting l tag (Replies reply acts channel) cause is = cc
waiting l tag (Waits why) cause is = cc
waiting l tag (Stops stop) cause is = cc

-- if the read waits, a move must be retried
pub read_waits : (m : Map) (tag : Tag) (ds : List ℕ) (from reader to : ℕ) (cause : Cause)
    → (is_worn tag.serial || is_worn (greatest m tag.stamp ds)) ≡ false
    → operate (m from).channel tag.seat None (Read from reader) ≡ Waits cause
    → transaction m tag ds (move_steps from reader to) ≡ Again cause
read_waits m tag ds from reader to cause rises waits =
    let kept = kept_tag m tag ds in
    two_in_turn m tag ds (Read from reader) (Write to Last) rises
    ∙ ap (λ (what : Did). and_then (after_did (start m) from kept what) (op_in kept (Write to Last))) waits

-- if the read takes an item, a move ends as the write of the item does
write_ends : (m : Map) (tag kept : Tag) (ds : List ℕ) (from reader to : ℕ) (item : Item) (mid : Logged) (what : Did)
    → from ≢ to
    → kept ≡ kept_tag m tag ds
    → (is_worn tag.serial || is_worn (greatest m tag.stamp ds)) ≡ false
    → op_on (m from) kept None (Read from reader) ≡ Left (Got item) mid
    → operate (m to).channel tag.seat None (Write to (Lit item.body)) ≡ what
    → (left : Channel) × (transaction m tag ds (move_steps from reader to)
    ≡ after_did (after_take m (kept_tag m tag ds) from reader item left) to
    (kept_tag m tag ds) what)
write_ends m tag kept ds from reader to item mid what apart tagged rises took is =
    let named = kept_tag m tag ds in
    let taken = has_taken (m from) mid named from reader item
    (subst (λ (t : Tag). op_on (m from) t None (Read from reader) ≡ Left (Got item) mid) tagged took) in
    let one : State = after_take m named from reader item taken.left in (
      taken.left,
      then_writes m tag ds from reader to item taken.left rises taken.done
          ∙ writes_last one named to (m to) item.body what (put_elsewhere m from to _ (λ e. apart (sym e))) refl is,
    )

-- if the write waits, a move must be retried
pub write_waits : (m : Map) (tag kept : Tag) (ds : List ℕ) (from reader to : ℕ) (item : Item) (mid : Logged)
    (cause : Cause)
    → from ≢ to → kept ≡ kept_tag m tag ds
    → (is_worn tag.serial || is_worn (greatest m tag.stamp ds)) ≡ false
    → op_on (m from) kept None (Read from reader) ≡ Left (Got item) mid
    → operate (m to).channel tag.seat None (Write to (Lit item.body)) ≡ Waits cause
    → transaction m tag ds (move_steps from reader to) ≡ Again cause
write_waits m tag kept ds from reader to item mid cause apart tagged rises took waits =
    (write_ends m tag kept ds from reader to item mid (Waits cause) apart tagged rises took waits).1

-- if a number is used up, nothing commits
pub worn_no_pair : (m : Map) (tag : Tag) (ds : List ℕ) (from reader to : ℕ)
    → (is_worn tag.serial || is_worn (greatest m tag.stamp ds)) ≡ true
    → IsNoPair (transaction m tag ds (move_steps from reader to))
worn_no_pair m tag ds from reader to worn state is =
    let never : Aborted Worn ≡ Kept state =
    sym (ap (λ (b : Bool). if b then Aborted Worn else steps_in (kept_tag m tag ds)
    (move_steps from reader to) (start m)) worn) ∙ is in
    cc

-- if it must be retried, nothing commits
pub again_no_pair : (ending : Ending) (cause : Cause) → ending ≡ Again cause → IsNoPair ending
again_no_pair ending cause again state is =
    let never : Again cause ≡ Kept state = sym again ∙ is in
    cc

-- a read that takes nothing, and then a write of what was read
none_taken : (m : Map) (tag : Tag) (from reader to : ℕ) (found : Option (List Item))
    → let c = (m from).channel in
    ((item : Item) (mid : Logged)
    → on_log (m from) tag (with_list found (taking c reader (Waits Empty))) ≡ Left (Got item) mid → ⊥)
    → IsNoPair (and_then (after_did (start m) from tag (with_list found (taking c reader (Waits Empty))))
    (op_in tag (Write to Last)))
none_taken m tag from reader to None not state is = cc
none_taken m tag from reader to (Some []) not state is = closed (m from).channel.closed state is
  where
    closed : (b : Bool) → IsNoPair (and_then (after_did (start m) from tag
        (if b then says Closed (m from).channel else Waits Empty)) (op_in tag (Write to Last)))
    closed true state is = cc
    closed false state is = cc
none_taken m tag from reader to (Some (item ∷ rest)) not state is = absurd (not item _ refl)

-- if the read takes nothing, a move does not commit
pub read_no_pair : (m : Map) (tag kept : Tag) (ds : List ℕ) (from reader to : ℕ) → kept ≡ kept_tag m tag ds
    → (is_worn tag.serial || is_worn (greatest m tag.stamp ds)) ≡ false
    → ((item : Item) (mid : Logged) → op_on (m from) kept None (Read from reader) ≡ Left (Got item) mid → ⊥)
    → IsNoPair (transaction m tag ds (move_steps from reader to))
read_no_pair m tag kept ds from reader to tagged rises none =
    subst IsNoPair (sym (two_in_turn m tag ds (Read from reader) (Write to Last) rises))
    (none_taken m (kept_tag m tag ds) from reader to (list_of (m from).channel reader)
    (subst (λ (t : Tag). (item : Item) (mid : Logged)
    → op_on (m from) t None (Read from reader) ≡ Left (Got item) mid → ⊥) tagged none))

-- how many acts an ending has
abbrev deeds_of : Ending → ℕ
deeds_of (Kept state) = length state.deeds
deeds_of (Again cause) = 0
deeds_of (Aborted stop) = 0

-- if the write has no act, a move does not commit with two acts
pub write_no_pair : (m : Map) (tag kept : Tag) (ds : List ℕ) (from reader to : ℕ) (item : Item) (mid : Logged)
    → from ≢ to
    → kept ≡ kept_tag m tag ds
    → (is_worn tag.serial || is_worn (greatest m tag.stamp ds)) ≡ false
    → op_on (m from) kept None (Read from reader) ≡ Left (Got item) mid
    → HasNoAct (operate (m to).channel tag.seat None (Write to (Lit item.body)))
    → IsNoPair (transaction m tag ds (move_steps from reader to))
write_no_pair m tag kept ds from reader to item mid apart tagged rises took none =
    let what : Did = operate (m to).channel tag.seat None (Write to (Lit item.body)) in
    let ends = write_ends m tag kept ds from reader to item mid what apart tagged rises took refl in
    subst IsNoPair (sym ends.1) (by ends.0 what none)
  where
    by : (left : Channel) (what : Did) → HasNoAct what → IsNoPair (after_did
        (after_take m (kept_tag m tag ds) from reader item left) to
        (kept_tag m tag ds) what)
    by left (Replies reply [] channel) idle state is two =
        let one : 1 ≡ length state.deeds = ap deeds_of is in
        omega (arith, one, two)
    by left (Replies reply (act ∷ acts) channel) idle state is two = absurd (idle (omega arith))
    by left (Waits cause) idle state is two = cc
    by left (Stops stop) idle state is two = cc
