-- A transaction of one operation that was committed at once, in terms of all lines.
use Rattle.std.proofs.Common.{◌≡◌, ◌≢◌, ◌∙◌, refl, sym, ap, subst, inl, inr, ℕ, zero, suc, ◌<◌, ◌+◌, ◌||◌, false, max}
use Rattle.std.proofs.Common.{Some, List, [], ◌∷◌, ◌++◌, length, Contains, nat_eq, slice_get, slice_set}
use Rattle.std.proofs.Common.{None, true, if◌then◌else◌, arith}
use Rattle.std.proofs.lemmas.Bool.Decides.{eqb_tells}
use mathlib.Core.List.{IsPrefix}
use Rattle.txc_base.specs.declared.act.Act.{Act}
use Rattle.txc_base.specs.declared.entry.Entry.{Entry}
use Rattle.txc_base.specs.declared.op.Op.{Op}
use Rattle.txc_base.specs.declared.tag.Tag.{Tag}
use Rattle.txc_base.specs.Op.{chan_of}
use Rattle.txc_base.specs.Operation.{HasActs, Waits, operate}
use Rattle.txc_base.specs.declared.cause.Cause.{Cause}
use Rattle.txc_chan.specs.Committed.{HasNoAct, IsCommittedOp, is_read_or_write, reply_to}
use Rattle.txc_chan.specs.Logged.{Logged}
use Rattle.txc_chan.specs.Reserved.{one_if}
use Rattle.txc_txn_check.proofs.Containing.{contains_none, contains_tail}
use Rattle.txc_table_line.specs.Known.{IsKnown}
use Rattle.txc_table_line.specs.declared.mark.Mark.{Mark}
use Rattle.txc_txn.specs.declared.deed.Deed.{Deed}
use Rattle.txc_txn.specs.declared.receipt.Receipt.{Receipt}
use Rattle.txc_txn.specs.AtOnce.{CanCommit}
use Rattle.txc_txn.specs.Maps.{Map, put_at}
use Rattle.txc_txn_check.specs.declared.step.Step.TheVariants.{Do}
use Rattle.txc_txn.specs.declared.ran.Ran.TheVariants.{Kept as RanKept}
use Rattle.txc_txn.specs.Run.{RanSettled, count_deeds}
use Rattle.txc_txn.specs.Transaction.{is_worn, kept_tag, transaction}
use Rattle.txc_txn.proofs.Once.{committed_once}
use Rattle.txc_txn.proofs.OneOperation.{one_is_itself}
use Rattle.txc_txn.specs.OneOperation.{ending_of_one}
use Rattle.txc_table_line.specs.Commit.{CountsOne, HasCommitMark}
use Rattle.txc_table_line.specs.SeatShare.{SeatShareView}
use Rattle.txc_table_lines.specs.Committed.{CountsCommit, HasItsMark}
use Rattle.txc_table_line.specs.LineChan.{LineChanView}
use Rattle.txc_table_lines.specs.Guards as guards
use Rattle.txc_table_lines.specs.Guards.{known_of}
use Rattle.txc_table_lines.specs.Lines.{AreValidShares, share_at}
use Rattle.txc_table_lines.specs.OneOperation.{AreKnown, IsCommittedOne, IsNotImmediate, MustRetryOne}
use Rattle.txc_table_lines.proofs.Sharing.{begins_more, grew_set}
use Rattle.txc_table_lines.proofs.Taking.{known_since}

-- the share that was put in a place, and those in other places
pub share_here : (shares : List SeatShareView) (n : ℕ) (share : SeatShareView) → n < length shares
    → share_at (slice_set shares n share) n ≡ share
share_here [] n share below = absurd (omega (arith, below))
share_here (s ∷ shares) zero share below = refl
share_here (s ∷ shares) (suc n) share below = share_here shares n share (omega (arith, below))

pub share_other : (shares : List SeatShareView) (n k : ℕ) (share : SeatShareView) → k ≢ n
    → share_at (slice_set shares n share) k ≡ share_at shares k
share_other [] n k share ne = refl
share_other (s ∷ shares) zero zero share ne = absurd (ne refl)
share_other (s ∷ shares) zero (suc k) share ne = refl
share_other (s ∷ shares) (suc n) zero share ne = refl
share_other (s ∷ shares) (suc n) (suc k) share ne = share_other shares n k share (λ e. ne (ap suc e))

-- the channel that was put at a number
put_here : (m : Map) (n : ℕ) (l : Logged) → put_at m n l n ≡ l
put_here m n l = elim (eqb_tells n n) [
  | inl t ↦ ap (λ b. if b then l else m n) t.0
  | inr t ↦ absurd (t.1 refl)
]

-- what is true of each channel is true of each if it is true of the one that is put there
pub each_put : (P : ℕ → Logged → Type 0) (m : Map) (n : ℕ) (l : Logged) → ((k : ℕ) → P k (m k)) → P n l
    → (k : ℕ) → P k (put_at m n l k)
each_put P m n l all one k = elim (eqb_tells k n) [
  | inl t ↦ subst (P k) (sym (ap (λ b. if b then l else m k) t.0)) (subst (λ i. P i l) (sym t.1) one)
  | inr t ↦ subst (P k) (sym (ap (λ b. if b then l else m k) t.0)) (all k)
]

-- a channel that was found by a seat with this share of its line
pub record IsFound (share : SeatShareView) (l : Logged) : Type 0 where
  pub known : IsKnown share.line.decl share.amount l
  pub since : IsPrefix share.log l.log

pub found_logged : (share : SeatShareView) (channel : LineChanView) → guards.IsFound share channel
    → IsFound share channel.held.logged
found_logged share channel is = record { known = is.known; since = is.since }

-- the channels of all lines, if the one with this number was found so
pub found_with : (shares : List SeatShareView) (n : ℕ) (l : Logged) → AreValidShares shares
    → IsKnown (share_at shares n).line.decl (share_at shares n).amount l → IsPrefix (share_at shares n).log l.log
    → AreKnown shares (put_at (known_of shares) n l)
found_with shares n l are known since = record {
  known = each_put (λ k x. k < length shares → IsKnown (share_at shares k).line.decl (share_at shares k).amount x)
      (known_of shares) n l (λ k lt. (are k lt).known) (λ lt. known);
  since = each_put (λ k x. IsPrefix (share_at shares k).log x.log) (known_of shares) n l (known_since shares are) since;
}

-- what is known of an operation that was committed at once on its line
pub record HasCommittedOne (tag kept : Tag) (op : Op) (act : Act) (l l' : Logged) (shares : List SeatShareView)
    (new : SeatShareView)
    : Type 0 where
  pub there : chan_of op < length shares
  pub is : IsFound (share_at shares (chan_of op)) l
  pub rises : (is_worn tag.serial || is_worn (max tag.stamp l.stamp)) ≡ false
  pub tagged : kept ≡ record { seat = tag.seat; serial = tag.serial; stamp = max tag.stamp l.stamp + 1 }
  pub done : IsCommittedOp kept op act l l'
  pub counts : CountsOne l l' kept (share_at shares (chan_of op)) new

-- the mark of a commit at once is that of a transaction
pub its_mark : (l l' : Logged) (tag : Tag) (old new : List Mark) → l.pending ≡ 0 → HasCommitMark l l' tag old new
    → HasItsMark l l' tag old new
its_mark l l' tag old new clean is = record {
  lawful = is.lawful;
  before = is.before;
  rise = is.are.rise;
  stamp = is.are.stamp;
  len = omega (arith, is.are.len, clean);
  since = is.since;
  now = is.now;
}

-- the only number of a list of one
pub only_number : (n k : ℕ) → Contains (n ∷ []) k → k ≡ n
only_number n k is = elim (eqb_tells k n) [
  | inl t ↦ t.1
  | inr t ↦ absurd (contains_none k (contains_tail k n [] t.1 is))
]

-- the seat counts the only act of the receipt in its channel
counts_commit : (l l' : Logged) (kept : Tag) (n : ℕ) (act : Act) (receipt : Receipt) (old new : SeatShareView)
    → l.pending ≡ 0 → receipt.tag ≡ kept → receipt.acts ≡ record { chan = n; place = length l.log; act = act } ∷ []
    → CountsOne l l' kept old new → CountsCommit l l' receipt old new n
counts_commit l l' kept n act receipt old new clean tag acts is =
    let one : one_if (nat_eq n n) ≡ 1 = elim (eqb_tells n n) [ inl t ↦ ap one_if t.0 | inr t ↦ absurd (t.1 refl) ] in
    record {
      line = is.line;
      amount = is.amount ∙ ap (λ k. old.amount + k) (sym one)
          ∙ omega arith
          ∙ ap (λ (deeds : List Deed). old.amount + count_deeds n deeds) (sym acts);
      log = is.log;
      made = is.made;
      marked = subst (λ (t : Tag). HasItsMark l l' t old.marks new.marks) (sym tag)
          (its_mark l l' kept old.marks new.marks clean is.marked);
    }

-- the only act is the entry at its place
stands_one : (log : List Entry) (tag : Tag) (act : Act) (n : ℕ) (i : ℕ) (deed : Deed)
    → slice_get (record { chan = n; place = length log; act = act } ∷ []) i ≡ Some deed
    → (logs : ℕ → List Entry) → logs n ≡ log ++ record { tag = tag; act = act } ∷ []
    → slice_get (logs deed.chan) deed.place ≡ Some (record { tag = tag; act = deed.act })
stands_one log tag act n zero deed here logs is =
    let same : record { chan = n; place = length log; act = act } ≡ deed = cc in
    subst (λ (d : Deed). slice_get (logs d.chan) d.place ≡ Some (record { tag = tag; act = d.act })) same
    (ap (λ es. slice_get es (length log)) is ∙ get_last log (record { tag = tag; act = act }))
  where
    get_last : (es : List Entry) (e : Entry) → slice_get (es ++ e ∷ []) (length es) ≡ Some e
    get_last [] e = refl
    get_last (x ∷ es) e = get_last es e
stands_one log tag act n (suc i) deed here logs is = cc

-- the transaction of an operation that was committed at once was committed
pub committed_one : (tag kept : Tag) (op : Op) (act : Act) (l l' : Logged) (shares : List SeatShareView)
    (new : SeatShareView)
    → AreValidShares shares → HasCommittedOne tag kept op act l l' shares new
    → IsCommittedOne tag op shares (slice_set shares (chan_of op) new) (record {
      tag = kept;
      replies = reply_to act ∷ [];
      acts = record { chan = chan_of op; place = length l.log; act = act } ∷ [];
    })
committed_one tag kept op act l l' shares new are has =
    let n = chan_of op in
    let after = slice_set shares n new in
    let receipt : Receipt = record {
      tag = kept;
      replies = reply_to act ∷ [];
      acts = record { chan = n; place = length l.log; act = act } ∷ [];
    } in
    let found : Map = put_at (known_of shares) n l in
    let left : Map = put_at found n l' in
    let at : found n ≡ l = put_here (known_of shares) n l in
    let at' : left n ≡ l' = put_here found n l' in
    let new_is : share_at after n ≡ new = share_here shares n new has.there in
    let can : CanCommit found n tag kept = record {
      clean = ap (λ (x : Logged). x.pending) at ∙ has.is.known.clean;
      rises = subst (λ (x : Logged). (is_worn tag.serial || is_worn (max tag.stamp x.stamp)) ≡ false) (sym at)
          has.rises;
      tagged = has.tagged ∙ ap (λ (x : Logged). record {
        seat = tag.seat;
        serial = tag.serial;
        stamp = max tag.stamp x.stamp + 1;
      }) (sym at);
    } in
    let done : IsCommittedOp kept op act (found n) (left n) =
    subst (λ (x : Logged). IsCommittedOp kept op act x (left n)) (sym at)
    (subst (λ (x : Logged). IsCommittedOp kept op act l x) (sym at') has.done) in
    let counted : CountsCommit (found n) (left n) receipt (share_at shares n) (share_at after n) n =
    subst (λ (x : Logged). CountsCommit x (left n) receipt (share_at shares n) (share_at after n) n) (sym at)
    (subst (λ (x : Logged). CountsCommit l x receipt (share_at shares n) (share_at after n) n) (sym at')
    (subst (λ (s : SeatShareView). CountsCommit l l' receipt (share_at shares n) s n) (sym new_is)
    (counts_commit l l' kept n act receipt (share_at shares n) new has.is.known.clean refl refl has.counts))) in
    let more : new.log ≡ l.log ++ record { tag = kept; act = act } ∷ [] =
    has.counts.log ∙ ap (λ (x : Logged). x.log) has.done.settles in
    record {
      found = found;
      left = left;
      are = found_with shares n l are has.is.known has.is.since;
      ran = subst (λ (t : Tag). RanSettled t (n ∷ []) (transaction found tag (n ∷ []) (Do op ∷ [])) (RanKept receipt)
          found left) refl
          (committed_once found left tag kept n op act receipt refl can done (ap (put_at found n) (sym at'))
          (λ j. record {
            tag = kept;
            replies = reply_to act ∷ [];
            acts = record { chan = n; place = length (sym at j).log; act = act } ∷ [];
          }));
      committed = λ k. record {
        inside = λ is. subst (λ i. CountsCommit (found i) (left i) receipt (share_at shares i) (share_at after i) i)
            (sym (only_number n k is)) counted;
        outside = λ not. share_other shares n k new (λ e. not (0, omega arith, sym e));
      };
      grew = grew_set shares n new has.there (begins_more (share_at shares n).log l.log
          (record { tag = kept; act = act } ∷ []) new.log has.is.since more);
      stand = λ i deed here. stands_one l.log kept act n i deed here (λ k. (share_at after k).log)
          (ap (λ (s : SeatShareView). s.log) new_is ∙ more);
      inside = λ k not. elim (eqb_tells n k) [
        | inl t ↦ absurd (not (0, omega arith, t.1))
        | inr t ↦ omega (arith, ap one_if t.0)
      ];
      rise = rises;
      later = omega (arith, ap (λ (t : Tag). t.stamp) has.tagged);
    }
  where
    rises : (i j : ℕ) (one other : Deed) → i < j
        → slice_get (record { chan = chan_of op; place = length l.log; act = act } ∷ []) i ≡ Some one
        → slice_get (record { chan = chan_of op; place = length l.log; act = act } ∷ []) j ≡ Some other
        → one.chan ≡ other.chan → one.place < other.place
    rises i zero one other lt here there same = absurd (omega (arith, lt))
    rises i (suc j) one other lt here there same = cc

-- if the operation waits, its transaction must be retried
pub waits_one : (tag : Tag) (op : Op) (l : Logged) (shares : List SeatShareView) (cause : Cause) → AreValidShares shares
    → IsFound (share_at shares (chan_of op)) l
    → (is_worn tag.serial || is_worn (max tag.stamp l.stamp)) ≡ false
    → operate l.channel tag.seat None op ≡ Waits cause → MustRetryOne tag op shares cause
waits_one tag op l shares cause are is rises waits =
    let n = chan_of op in
    let found : Map = put_at (known_of shares) n l in
    let at : found n ≡ l = put_here (known_of shares) n l in
    record {
      found = found;
      are = found_with shares n l are is.known is.since;
      again = one_is_itself found tag op
          (subst (λ (x : Logged). (is_worn tag.serial || is_worn (max tag.stamp x.stamp)) ≡ false) (sym at) rises)
          ∙ ap (ending_of_one found (kept_tag found tag (n ∷ [])) n)
          (subst (λ (x : Logged). operate x.channel tag.seat None op ≡ Waits cause) (sym at) waits);
    }

-- if a number is used up, the transaction of the operation does not commit at once
pub not_worn : (tag : Tag) (op : Op) (l : Logged) (shares : List SeatShareView) → AreValidShares shares
    → IsFound (share_at shares (chan_of op)) l
    → (is_worn tag.serial || is_worn (max tag.stamp l.stamp)) ≡ true → IsNotImmediate tag op shares
not_worn tag op l shares are is worn =
    let found : Map = put_at (known_of shares) (chan_of op) l in
    let at : found (chan_of op) ≡ l = put_here (known_of shares) (chan_of op) l in
    record {
      found = found;
      are = found_with shares (chan_of op) l are is.known is.since;
      not = λ imm.
          let rises : (is_worn tag.serial || is_worn (max tag.stamp l.stamp)) ≡ false =
          subst (λ (x : Logged). (is_worn tag.serial || is_worn (max tag.stamp x.stamp)) ≡ false) at imm.rises in
          let never : true ≡ false = sym worn ∙ rises in cc;
    }

-- if the operation has no act, its transaction does not commit at once
pub no_act : (tag : Tag) (op : Op) (l : Logged) (shares : List SeatShareView) → AreValidShares shares
    → IsFound (share_at shares (chan_of op)) l
    → (is_read_or_write op ≡ true → HasNoAct (operate l.channel tag.seat None op)) → IsNotImmediate tag op shares
no_act tag op l shares are is none =
    let found : Map = put_at (known_of shares) (chan_of op) l in
    let at : found (chan_of op) ≡ l = put_here (known_of shares) (chan_of op) l in
    record {
      found = found;
      are = found_with shares (chan_of op) l are is.known is.since;
      not = λ imm. none imm.move
          (subst (λ (x : Logged). HasActs (operate x.channel tag.seat None op)) at imm.act);
    }
