-- A transaction of one operation that was committed at once is that transaction, settled.
use Rattle.std.proofs.Common.{◌≡◌, refl, sym, ◌∙◌, ap, subst, inl, inr, ℕ, nat_eq, Bool, true, false, if◌then◌else◌}
use Rattle.std.proofs.Common.{[], ◌∷◌, length, Option, None, Some, IfNone, IfSome, Result, Ok, Err, OnErr}
use Rattle.std.proofs.lemmas.Bool.Decides.{eqb_tells}
use Rattle.txc_base.specs.declared.act.Act.{Act}
use Rattle.txc_base.specs.declared.op.Op.{Op}
use Rattle.txc_base.specs.declared.tag.Tag.{Tag}
use Rattle.txc_base.specs.Op.{chan_of}
use Rattle.txc_base.specs.Reply.{last_read_after}
use Rattle.txc_chan.specs.Committed.{IsCommittedOp, reply_to}
use Rattle.txc_chan.specs.Logged.{Logged, grown, settled}
use Rattle.txc_txn_check.specs.declared.step.Step.TheVariants.{Do}
use Rattle.txc_txn.specs.declared.ran.Ran.TheVariants.{Kept as RanKept}
use Rattle.txc_txn.specs.declared.receipt.Receipt.{Receipt}
use Rattle.txc_txn.specs.AtOnce.{CanCommit}
use Rattle.txc_txn.specs.Maps.{Map, put_at}
use Rattle.txc_txn.specs.OneOperation.{ending_of_one}
use Rattle.txc_txn.specs.Run.{RanSettled}
use Rattle.txc_txn.specs.Transaction.{Ending, Kept, State, deeds_at, kept_tag, transaction}
use Rattle.txc_txn.proofs.OneOperation.{one_is_itself}

-- what was put there is there
put_here : (m : Map) (n : ℕ) (l : Logged) → put_at m n l n ≡ l
put_here m n l = elim (eqb_tells n n) [
  | inl t ↦ ap (λ b. if b then l else m n) t.0
  | inr t ↦ absurd (t.1 refl)
]

-- and another one is put in its place
put_over : (m : Map) (n : ℕ) (l x : Logged) → put_at m n x ≡ put_at (put_at m n l) n x
put_over m n l x = λ j k. by (nat_eq k n) (m k) j
  where
    by : (b : Bool) (other : Logged) → (if b then x else other) ≡ (if b then x else if b then l else other)
    by true other = refl
    by false other = refl

once : (m m' : Map) (tag : Tag) (op : Op) (act : Act) (receipt : Receipt)
    → let n = chan_of op in let kept = kept_tag m tag (n ∷ []) in
    CanCommit m n tag kept → IsCommittedOp kept op act (m n) (m' n) → m' ≡ put_at m n (m' n)
    → receipt ≡ record {
      tag = kept;
      replies = reply_to act ∷ [];
      acts = record { chan = n; place = length (m n).log; act = act } ∷ [];
    }
    → RanSettled kept (n ∷ []) (transaction m tag (n ∷ []) (Do op ∷ [])) (RanKept receipt) m m'
once m m' tag op act receipt can done others is =
    let n = chan_of op in let kept = kept_tag m tag (n ∷ []) in let l = grown (m n) kept (act ∷ []) done.left in
    let state : State = record {
      chans = put_at m n l;
      last = last_read_after (reply_to act) None;
      replies = reply_to act ∷ [];
      deeds = deeds_at n (length (m n).log) (act ∷ []);
    } in
    let ends : transaction m tag (n ∷ []) (Do op ∷ []) ≡ Kept state =
    one_is_itself m tag op can.rises ∙ ap (ending_of_one m kept n) done.done in
    subst (λ (e : Ending). RanSettled kept (n ∷ []) e (RanKept receipt) m m') (sym ends) (
      is,
      others ∙ ap (put_at m n) done.settles ∙ put_over m n l (settled kept.stamp l)
          ∙ ap (λ x. put_at (put_at m n l) n (settled kept.stamp x)) (sym (put_here m n l)),
    )

-- the same, by other names of its channel and its tag
pub committed_once : (m m' : Map) (tag kept : Tag) (chan : ℕ) (op : Op) (act : Act) (receipt : Receipt)
    → let n = chan_of op in chan ≡ n
    → CanCommit m chan tag kept → IsCommittedOp kept op act (m n) (m' n) → m' ≡ put_at m n (m' n)
    → receipt ≡ record {
      tag = kept;
      replies = reply_to act ∷ [];
      acts = record { chan = n; place = length (m n).log; act = act } ∷ [];
    }
    → RanSettled (kept_tag m tag (n ∷ [])) (n ∷ []) (transaction m tag (n ∷ []) (Do op ∷ [])) (RanKept receipt) m m'
committed_once m m' tag kept chan op act receipt at can done others is =
    let n = chan_of op in
    let here : CanCommit m n tag kept = subst (λ k. CanCommit m k tag kept) at can in
    by kept here.tagged here done is
  where
    Noted : Tag → Type 0
    Noted t = receipt ≡ record {
      tag = t;
      replies = reply_to act ∷ [];
      acts = record { chan = chan_of op; place = length (m (chan_of op)).log; act = act } ∷ [];
    }

    by : (t : Tag) → t ≡ kept_tag m tag (chan_of op ∷ []) → CanCommit m (chan_of op) tag t
        → IsCommittedOp t op act (m (chan_of op)) (m' (chan_of op)) → Noted t
        → RanSettled (kept_tag m tag (chan_of op ∷ [])) (chan_of op ∷ [])
        (transaction m tag (chan_of op ∷ []) (Do op ∷ [])) (RanKept receipt) m m'
    by t same can' done' is' = once m m' tag op act receipt
        (subst (λ (x : Tag). CanCommit m (chan_of op) tag x) same can')
        (subst (λ (x : Tag). IsCommittedOp x op act (m (chan_of op)) (m' (chan_of op))) same done') others
        (subst Noted same is')

-- what is so of what was found, or where nothing was
pub some_so : {A : Type 0} (found : Option A) (x : A) (P : A → Type 0) → found ≡ Some x → IfSome found P → P x
some_so found x P is h = subst (λ f. IfSome f P) is h

pub none_so : {A P : Type 0} (found : Option A) → found ≡ None → IfNone found P → P
none_so {A} {P} found is h = subst (λ f. IfNone f P) is h

-- what is so is so where there is an error
pub on_err : {A E P : Type 0} (result : Result A E) → P → OnErr result P
on_err (Ok value) so = tt
on_err (Err fault) so = so
