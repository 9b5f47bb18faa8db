-- A move that was committed at once, in terms of all lines.
use Rattle.std.proofs.Common.{◌≡◌, ◌≢◌, ◌∙◌, refl, sym, ap, subst, inl, inr, ℕ, zero, suc, ◌<◌, ◌+◌, ◌||◌}
use Rattle.std.proofs.Common.{false, None, Some, List, [], ◌∷◌, ◌++◌, append-nil, length, Contains, nat_eq, slice_get}
use Rattle.std.proofs.Common.{arith}
use Rattle.std.proofs.lemmas.Bool.Decides.{eqb_tells}
use mathlib.Core.List.{IsPrefix}
use Rattle.txc_base.specs.declared.act.Act.{Act}
use Rattle.txc_base.specs.declared.act.Act.TheVariants.{Took}
use Rattle.txc_base.specs.declared.entry.Entry.{Entry}
use Rattle.txc_base.specs.declared.item.Item.{Item}
use Rattle.txc_base.specs.declared.op.Op.TheVariants.{Read, Write}
use Rattle.txc_base.specs.declared.reply.Reply.TheVariants.{Got}
use Rattle.txc_base.specs.declared.source.Source.TheVariants.{Lit}
use Rattle.txc_base.specs.declared.tag.Tag.{Tag}
use Rattle.txc_base.specs.Operation.{operate}
use Rattle.txc_chan.specs.Committed.{IsCommittedOp}
use Rattle.txc_chan.specs.Logged.{Left, Logged, op_on}
use Rattle.txc_chan.specs.Reserved.{one_if}
use Rattle.txc_table_line.specs.Commit.{CountsOne}
use Rattle.txc_table_line.specs.SeatShare.{SeatShareView}
use Rattle.txc_txn_check.proofs.Containing.{tells}
use Rattle.txc_txn_check.specs.declared.step.Step.{Step}
use Rattle.txc_txn.specs.declared.deed.Deed.{Deed}
use Rattle.txc_txn.specs.declared.ran.Ran.TheVariants.{Kept as RanKept}
use Rattle.txc_txn.specs.declared.receipt.Receipt.{Receipt}
use Rattle.txc_txn.specs.Growth.{Grows}
use Rattle.txc_txn.specs.Maps.{Map}
use Rattle.txc_txn.specs.InLog.{ReceiptIsInLog}
use Rattle.txc_txn.specs.Run.{PlacesRise, RanSettled}
use Rattle.txc_txn.specs.Transaction.{greatest, is_worn, kept_tag, transaction}
use Rattle.txc_txn.specs.TwoOperations.{move_steps, pair_of}
use Rattle.txc_txn.proofs.Stamps.{greatest_first}
use Rattle.txc_txn.proofs.TwoOperations.{HasTaken, has_moved, has_taken}
use Rattle.txc_table_lines.specs.Committed.{AreCommitted, CountsCommit, HasNoneOutside, IsSettled}
use Rattle.txc_table_lines.specs.Lines.{OnlyGrew, share_at}
use Rattle.txc_table_lines.specs.OneOperation.{AreKnown}
use Rattle.txc_table_lines.specs.TwoOperations.{IsCommittedAs}
use Rattle.txc_table_lines.proofs.Committing.{is_marked}
use Rattle.txc_table_lines.proofs.OneCommit.{IsFound, its_mark}
use Rattle.txc_table_lines.proofs.Sharing.{begins_itself, begins_more}

-- a channel from which a read took an item
pub takes : (kept : Tag) (from reader : ℕ) (item : Item) (s mid : Logged)
    → op_on s kept None (Read from reader) ≡ Left (Got item) mid → Grows kept s mid
takes kept from reader item s mid took =
    let taken = has_taken s mid kept from reader item took in
    record {
      acts = Took reader item ∷ [];
      log = ap (λ (x : Logged). x.log) taken.grew;
      pending = ap (λ (x : Logged). x.pending) taken.grew;
      stamp = ap (λ (x : Logged). x.stamp) taken.grew;
      decl = ap (λ (x : Logged). x.decl) taken.grew;
    }

-- a channel that did not grow
pub none_grown : (kept : Tag) (l : Logged) → Grows kept l l
none_grown kept l = record {
  acts = [];
  log = sym (append-nil l.log);
  pending = omega arith;
  stamp = refl;
  decl = refl;
}

-- the entry at the end of a log
get_last : (es : List Entry) (e : Entry) → slice_get (es ++ e ∷ []) (length es) ≡ Some e
get_last [] e = refl
get_last (x ∷ es) e = get_last es e

-- how the acts of a move count
counts_at : (a b : ℕ) → a ≢ b → one_if (nat_eq a b) ≡ 0
counts_at a b ne = elim (eqb_tells a b) [ inl t ↦ absurd (ne t.1) | inr t ↦ ap one_if t.0 ]

counts_here : (a : ℕ) → one_if (nat_eq a a) ≡ 1
counts_here a = elim (eqb_tells a a) [ inl t ↦ ap one_if t.0 | inr t ↦ absurd (t.1 refl) ]

-- a declared channel without an act was found, and settled
pub record IsAside (kept : Tag) (l l' : Logged) (old new : SeatShareView) : Type 0 where
  pub found : IsFound old l
  pub settled : IsSettled kept l old l' new

-- what is known of a move that was committed at once: both channels were found and left so, all other declared ones
-- were settled, and nothing else changed
pub record HasMovedOn (tag kept : Tag) (ds : List ℕ) (from reader to : ℕ) (item : Item) (act : Act)
    (s mid s' t t' : Logged) (m left : Map) (shares after : List SeatShareView)
    : Type 0 where
  pub apart : from ≢ to
  pub here : Contains ds from
  pub there : Contains ds to
  pub found_from : m from ≡ s
  pub found_to : m to ≡ t
  pub left_from : left from ≡ s'
  pub left_to : left to ≡ t'
  pub source : IsFound (share_at shares from) s
  pub target : IsFound (share_at shares to) t
  pub rises : (is_worn tag.serial || is_worn (greatest m tag.stamp ds)) ≡ false
  pub tagged : kept ≡ kept_tag m tag ds
  pub took : op_on s kept None (Read from reader) ≡ Left (Got item) mid
  pub wrote : IsCommittedOp kept (Write to (Lit item.body)) act t t'
  pub counts : CountsOne t t' kept (share_at shares to) (share_at after to)
  pub settles : IsSettled kept mid (share_at shares from) s' (share_at after from)
  pub aside : (n : ℕ) → n ≢ from → n ≢ to → Contains ds n
      → IsAside kept (m n) (left n) (share_at shares n) (share_at after n)
  pub outside : (n : ℕ) → ¬ Contains ds n → (left n ≡ m n) × (share_at after n ≡ share_at shares n)

-- what is so of a commit with this receipt that found and left these channels
pub record CommitsAs (tag : Tag) (ds : List ℕ) (steps : List Step) (m left : Map) (before after : List SeatShareView)
    (receipt : Receipt)
    : Type 0 where
  pub ran : RanSettled (kept_tag m tag ds) ds (transaction m tag ds steps) (RanKept receipt) m left
  pub committed : (n : ℕ) → AreCommitted ds m left receipt before after n
  pub grew : OnlyGrew before after
  pub stand : ReceiptIsInLog (λ n. (share_at after n).log) receipt
  pub inside : HasNoneOutside ds receipt
  pub rise : PlacesRise receipt
  pub later : tag.stamp < receipt.tag.stamp

-- then a transaction was committed
pub committed_as : (tag : Tag) (ds : List ℕ) (steps : List Step) (m left : Map) (before after : List SeatShareView)
    (receipt : Receipt) → AreKnown before m → CommitsAs tag ds steps m left before after receipt
    → IsCommittedAs tag ds steps before after receipt
committed_as tag ds steps m left before after receipt are is = record {
  found = m;
  left = left;
  are = are;
  ran = is.ran;
  committed = is.committed;
  grew = is.grew;
  stand = is.stand;
  inside = is.inside;
  rise = is.rise;
  later = is.later;
}

module _ (tag kept : Tag) (ds : List ℕ) (from reader to : ℕ) (item : Item) (act : Act) (s mid s' t t' : Logged)
    (m left : Map) (shares after : List SeatShareView)
    (has : HasMovedOn tag kept ds from reader to item act s mid s' t t' m left shares after) where
  abbrev receipt : Receipt
  receipt = pair_of kept (record { chan = from; place = length s.log; act = Took reader item })
      (record { chan = to; place = length t.log; act = act })

  taken : HasTaken s mid kept reader item (operate s.channel kept.seat None (Read from reader))
  taken = has_taken s mid kept from reader item has.took

  source_counts : CountsCommit s s' receipt (share_at shares from) (share_at after from) from
  source_counts = record {
    line = has.settles.line;
    amount = omega (
      arith,
      has.settles.amount,
      ap (λ (x : Logged). x.pending) taken.grew,
      has.source.known.clean,
      counts_here from,
      counts_at to from (λ e. has.apart (sym e)),
    );
    log = has.settles.log ∙ ap (λ (x : Logged). x.log) (sym has.settles.settled);
    made = has.settles.made;
    marked = is_marked kept s mid s' (share_at shares from).marks (share_at after from).marks
        (takes kept from reader item s mid has.took) has.source.known.clean has.settles.settled has.settles.marked;
  }

  target_counts : CountsCommit t t' receipt (share_at shares to) (share_at after to) to
  target_counts = record {
    line = has.counts.line;
    amount = omega (arith, has.counts.amount, counts_here to, counts_at from to has.apart);
    log = has.counts.log;
    made = has.counts.made;
    marked = its_mark t t' kept (share_at shares to).marks (share_at after to).marks has.target.known.clean
        has.counts.marked;
  }

  aside_counts : (n : ℕ) → n ≢ from → n ≢ to → Contains ds n
      → CountsCommit (m n) (left n) receipt (share_at shares n) (share_at after n) n
  aside_counts n off out is =
      let it = has.aside n off out is in
      record {
        line = it.settled.line;
        amount = omega (
          arith,
          it.settled.amount,
          it.found.known.clean,
          counts_at from n (λ e. off (sym e)),
          counts_at to n (λ e. out (sym e)),
        );
        log = it.settled.log ∙ ap (λ (x : Logged). x.log) (sym it.settled.settled);
        made = it.settled.made;
        marked = is_marked kept (m n) (m n) (left n) (share_at shares n).marks (share_at after n).marks
            (none_grown kept (m n)) it.found.known.clean it.settled.settled it.settled.marked;
      }

  source_log : (share_at after from).log ≡ s.log ++ record { tag = kept; act = Took reader item } ∷ []
  source_log = has.settles.log ∙ ap (λ (x : Logged). x.log) taken.grew

  target_log : (share_at after to).log ≡ t.log ++ record { tag = kept; act = act } ∷ []
  target_log = has.counts.log ∙ ap (λ (x : Logged). x.log) has.wrote.settles

  inside_at : (n : ℕ) → Contains ds n → CountsCommit (m n) (left n) receipt (share_at shares n) (share_at after n) n
  inside_at n is = elim (eqb_tells n from) [
    | inl e ↦
        subst (λ k. CountsCommit (m k) (left k) receipt (share_at shares k) (share_at after k) k) (sym e.1)
        (subst (λ (x : Logged). CountsCommit x (left from) receipt (share_at shares from) (share_at after from) from)
        (sym has.found_from)
        (subst (λ (x : Logged). CountsCommit s x receipt (share_at shares from) (share_at after from) from)
        (sym has.left_from) source_counts))
    | inr off ↦
        elim (eqb_tells n to) [
          | inl e ↦
              subst (λ k. CountsCommit (m k) (left k) receipt (share_at shares k) (share_at after k) k) (sym e.1)
              (subst (λ (x : Logged). CountsCommit x (left to) receipt (share_at shares to) (share_at after to) to)
              (sym has.found_to)
              (subst (λ (x : Logged). CountsCommit t x receipt (share_at shares to) (share_at after to) to)
              (sym has.left_to) target_counts))
          | inr out ↦ aside_counts n off.1 out.1 is
        ]
  ]

  grew_at : (n : ℕ) → IsPrefix (share_at shares n).log (share_at after n).log
  grew_at n = elim (eqb_tells n from) [
    | inl e ↦
        subst (λ k. IsPrefix (share_at shares k).log (share_at after k).log) (sym e.1)
        (begins_more (share_at shares from).log s.log (record { tag = kept; act = Took reader item } ∷ [])
        (share_at after from).log has.source.since source_log)
    | inr off ↦
        elim (eqb_tells n to) [
          | inl e ↦
              subst (λ k. IsPrefix (share_at shares k).log (share_at after k).log) (sym e.1)
              (begins_more (share_at shares to).log t.log (record { tag = kept; act = act } ∷ [])
              (share_at after to).log has.target.since target_log)
          | inr out ↦
              elim (tells ds n) [
                | inl is ↦
                    (let it = has.aside n off.1 out.1 is in
                    subst (IsPrefix (share_at shares n).log) (sym it.settled.log) it.found.since)
                | inr none ↦
                    subst (λ (x : SeatShareView). IsPrefix (share_at shares n).log x.log) (sym (has.outside n none).1)
                    (begins_itself (share_at shares n).log)
              ]
        ]
  ]

  stands : (i : ℕ) (deed : Deed) → slice_get receipt.acts i ≡ Some deed
      → slice_get (share_at after deed.chan).log deed.place ≡ Some (record { tag = kept; act = deed.act })
  stands zero deed here =
      let same : record { chan = from; place = length s.log; act = Took reader item } ≡ deed = cc in
      subst (λ (d : Deed). slice_get (share_at after d.chan).log d.place ≡ Some (record { tag = kept; act = d.act }))
      same
      (ap (λ es. slice_get es (length s.log)) source_log ∙ get_last s.log _)
  stands (suc zero) deed here =
      let same : record { chan = to; place = length t.log; act = act } ≡ deed = cc in
      subst (λ (d : Deed). slice_get (share_at after d.chan).log d.place ≡ Some (record { tag = kept; act = d.act }))
      same
      (ap (λ es. slice_get es (length t.log)) target_log ∙ get_last t.log _)
  stands (suc (suc i)) deed here = cc

  rises : (i j : ℕ) (one other : Deed) → i < j → slice_get receipt.acts i ≡ Some one
      → slice_get receipt.acts j ≡ Some other → one.chan ≡ other.chan → one.place < other.place
  rises i zero one other lt here there same = absurd (omega (arith, lt))
  rises zero (suc zero) one other lt here there same =
      let first : record { chan = from; place = length s.log; act = Took reader item } ≡ one = cc in
      let second : record { chan = to; place = length t.log; act = act } ≡ other = cc in
      absurd (has.apart (ap (λ (d : Deed). d.chan) first ∙ same ∙ ap (λ (d : Deed). d.chan) (sym second)))
  rises (suc i) (suc zero) one other lt here there same = absurd (omega (arith, lt))
  rises i (suc (suc j)) one other lt here there same = cc

  -- the transaction of the move was committed
  pub committed_on : CommitsAs tag ds (move_steps from reader to) m left shares after receipt
  committed_on = record {
    ran = subst (λ (x : Logged). RanSettled (kept_tag m tag ds) ds (transaction m tag ds (move_steps from reader to))
        (RanKept (pair_of kept (record { chan = from; place = length x.log; act = Took reader item })
        (record { chan = to; place = length t.log; act = act }))) m left) has.found_from
        (subst (λ (x : Logged). RanSettled (kept_tag m tag ds) ds (transaction m tag ds (move_steps from reader to))
        (RanKept (pair_of kept (record { chan = from; place = length (m from).log; act = Took reader item })
        (record { chan = to; place = length x.log; act = act }))) m left) has.found_to
        (has_moved m left tag kept ds from reader to item act mid has.tagged (record {
          apart = has.apart;
          here = has.here;
          there = has.there;
          rises = has.rises;
          took = subst (λ (x : Logged). op_on x kept None (Read from reader) ≡ Left (Got item) mid)
              (sym has.found_from) has.took;
          source = has.left_from ∙ has.settles.settled;
          wrote = subst (λ (x : Logged). IsCommittedOp kept (Write to (Lit item.body)) act x (left to))
              (sym has.found_to)
              (subst (λ (x : Logged). IsCommittedOp kept (Write to (Lit item.body)) act t x) (sym has.left_to)
              has.wrote);
          inside = λ n off out is. (has.aside n off out is).settled.settled;
          outside = λ n none. (has.outside n none).0;
        })));
    committed = λ n. record { inside = inside_at n; outside = λ none. (has.outside n none).1 };
    grew = grew_at;
    stand = stands;
    inside = λ n not. omega (
      arith,
      counts_at from n (λ e. not (subst (Contains ds) e has.here)),
      counts_at to n (λ e. not (subst (Contains ds) e has.there)),
    );
    rise = rises;
    later = omega (arith, ap (λ (x : Tag). x.stamp) has.tagged, greatest_first m tag.stamp ds);
  }
