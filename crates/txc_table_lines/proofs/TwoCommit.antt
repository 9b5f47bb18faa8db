-- A transaction that moves an item and was committed at once, in terms of all lines.
use Rattle.std.proofs.Common.{◌≡◌, ◌≢◌, ◌∙◌, sym, ap, subst, ⊎_elim, ℕ, ◌<◌, ◌+◌, ◌||◌, Bool}
use Rattle.std.proofs.Common.{true, false, max, None, List, length, Contains}
use Rattle.std.proofs.Common.{slice_set, arith, Result, Ok, Err, IfOk, IfErr}
use mathlib.Core.List.{IsPrefix}
use Rattle.txc_base.specs.declared.act.Act.{Act}
use Rattle.txc_base.specs.declared.act.Act.TheVariants.{Took}
use Rattle.txc_base.specs.declared.cause.Cause.{Cause}
use Rattle.txc_base.specs.declared.item.Item.{Item}
use Rattle.txc_base.specs.declared.op.Op.TheVariants.{Read, Write}
use Rattle.txc_base.specs.declared.reply.Reply.TheVariants.{Got}
use Rattle.txc_base.specs.declared.source.Source.TheVariants.{Lit}
use Rattle.txc_base.specs.declared.tag.Tag.{Tag}
use Rattle.txc_base.specs.Operation.{Waits, operate}
use Rattle.txc_chan.specs.Committed.{HasNoAct, IsCommittedOp}
use Rattle.txc_chan.specs.Logged.{Left, Logged, op_on}
use Rattle.txc_table_line.specs.Commit.{CountsOne}
use Rattle.txc_table_line.specs.Known.{IsKnown}
use Rattle.txc_table_line.specs.LineChan.{LineChanView}
use Rattle.txc_table_line.specs.SeatShare.{SeatShareView}
use Rattle.txc_txn.specs.Maps.{Map, put_at}
use Rattle.txc_txn.specs.Transaction.{greatest, is_worn, kept_tag}
use Rattle.txc_txn.specs.TwoOperations.{lower_first, move_steps, pair_of}
use Rattle.txc_txn.proofs.TwoOperations.{both_contain, greatest_of_both}
use Rattle.txc_txn.proofs.TwoOperations.{only_both, put_elsewhere, put_here, read_no_pair, read_waits, worn_no_pair}
use Rattle.txc_txn.proofs.TwoOperations.{write_no_pair, write_waits}
use Rattle.txc_table_lines.specs.Committed.{IsSettled}
use Rattle.txc_table_lines.specs.Guards as guards
use Rattle.txc_table_lines.specs.Guards.{IsReady, known_of}
use Rattle.txc_table_lines.specs.Lines.{AreValidShares, share_at}
use Rattle.txc_table_lines.specs.OneOperation.{AreKnown}
use Rattle.txc_table_lines.specs.TwoOperations.{IsCommittedMove, IsNoMove, MustRetryMove}
use Rattle.txc_table_lines.proofs.Committing.{can_commit}
use Rattle.txc_table_lines.proofs.MoveCommit.{committed_as, committed_on, takes}
use Rattle.txc_table_lines.proofs.OneCommit.{IsFound, each_put, found_logged, share_other}
use Rattle.txc_table_lines.proofs.Taking.{known_since}

-- the channels of all lines, if those of a move were found so
abbrev pub found_both : List SeatShareView → ℕ → ℕ → Logged → Logged → Map
found_both shares from to s t = put_at (put_at (known_of shares) from s) to t

-- what is known of a move when its channels were found so, and it runs with this tag
pub record Begins (tag kept : Tag) (from to : ℕ) (s t : Logged) (shares : List SeatShareView) : Type 0 where
  pub apart : from ≢ to
  pub source : IsFound (share_at shares from) s
  pub target : IsFound (share_at shares to) t
  pub rises : (is_worn tag.serial || is_worn (max (max tag.stamp s.stamp) t.stamp)) ≡ false
  pub tagged : kept ≡ record { seat = tag.seat; serial = tag.serial; stamp = max (max tag.stamp s.stamp) t.stamp + 1 }

-- what is known of a move that was committed at once
pub record HasMoved (tag kept : Tag) (from reader to : ℕ) (item : Item) (act : Act) (s mid s' t t' : Logged)
    (shares between after : List SeatShareView)
    : Type 0 where
  pub begins : Begins tag kept from to s t shares
  pub took : op_on s kept None (Read from reader) ≡ Left (Got item) mid
  pub wrote : IsCommittedOp kept (Write to (Lit item.body)) act t t'
  pub counts : CountsOne t t' kept (share_at shares to) (share_at between to)
  pub settles : IsSettled kept mid (share_at between from) s' (share_at after from)
  pub first : between ≡ slice_set shares to (share_at between to)
  pub second : after ≡ slice_set between from (share_at after from)

module _ (from to : ℕ) (s t : Logged) (shares : List SeatShareView) (apart : from ≢ to) where
  abbrev found : Map
  found = found_both shares from to s t

  pub source_at : found from ≡ s
  source_at = put_elsewhere (put_at (known_of shares) from s) to from t apart ∙ put_here (known_of shares) from s

  pub target_at : found to ≡ t
  target_at = put_here (put_at (known_of shares) from s) to t

  pub are_known : AreValidShares shares → IsFound (share_at shares from) s → IsFound (share_at shares to) t
      → AreKnown shares found
  are_known are source target = record {
    known = each_put (λ k x. k < length shares → IsKnown (share_at shares k).line.decl (share_at shares k).amount x)
        (put_at (known_of shares) from s) to t
        (each_put (λ k x. k < length shares → IsKnown (share_at shares k).line.decl (share_at shares k).amount x)
        (known_of shares) from s (λ k lt. (are k lt).known) (λ lt. source.known)) (λ lt. target.known);
    since = each_put (λ k x. IsPrefix (share_at shares k).log x.log) (put_at (known_of shares) from s) to t
        (each_put (λ k x. IsPrefix (share_at shares k).log x.log) (known_of shares) from s (known_since shares are)
        source.since) target.since;
  }

  -- the greatest stamp is that of the two channels that were found
  greatest_is : (most : ℕ) → greatest found most (lower_first from to) ≡ max (max most s.stamp) t.stamp
  greatest_is most = greatest_of_both found most from to
      ∙ ap (λ (x : Logged). max (max most x.stamp) (found to).stamp) source_at
      ∙ ap (λ (x : Logged). max (max most s.stamp) x.stamp) target_at

  worn_is : (tag : Tag) (b : Bool) → (is_worn tag.serial || is_worn (max (max tag.stamp s.stamp) t.stamp)) ≡ b
      → (is_worn tag.serial || is_worn (greatest found tag.stamp (lower_first from to))) ≡ b
  worn_is tag b is = ap (λ n. is_worn tag.serial || is_worn n) (greatest_is tag.stamp) ∙ is

  tag_is : (tag kept : Tag)
      → kept ≡ record { seat = tag.seat; serial = tag.serial; stamp = max (max tag.stamp s.stamp) t.stamp + 1 }
      → kept ≡ kept_tag found tag (lower_first from to)
  tag_is tag kept is = is ∙ ap (λ n. record { seat = tag.seat; serial = tag.serial; stamp = n + 1 })
      (sym (greatest_is tag.stamp))

-- the channels that the seat may find
begins_known : (tag kept : Tag) (from to : ℕ) (s t : Logged) (shares : List SeatShareView) → AreValidShares shares
    → Begins tag kept from to s t shares → AreKnown shares (found_both shares from to s t)
begins_known tag kept from to s t shares are b = are_known from to s t shares b.apart are b.source b.target

-- the greatest of the stamps of a seat and of two channels
pub most_is : (stamp s t one two a b : ℕ) → a ≡ max stamp one → one ≡ s → b ≡ max a two → two ≡ t
    → b ≡ max (max stamp s) t
most_is stamp s t one two a b a_is one_is b_is two_is =
    b_is ∙ ap (λ n. max n two) (a_is ∙ ap (max stamp) one_is) ∙ ap (max (max stamp s)) two_is

-- a move begins on the lines that were locked
pub begins_move : (tag kept : Tag) (from to most : ℕ) (source target : LineChanView) (shares : List SeatShareView)
    → from ≢ to → guards.IsFound (share_at shares from) source → guards.IsFound (share_at shares to) target
    → most ≡ max (max tag.stamp source.held.logged.stamp) target.held.logged.stamp
    → ((is_worn tag.serial || is_worn most) ≡ false)
    × (kept ≡ record { seat = tag.seat; serial = tag.serial; stamp = most + 1 })
    → Begins tag kept from to source.held.logged target.held.logged shares
begins_move tag kept from to most source target shares apart at there is some = record {
  apart = apart;
  source = found_logged (share_at shares from) source at;
  target = found_logged (share_at shares to) target there;
  rises = subst (λ n. (is_worn tag.serial || is_worn n) ≡ false) is some.0;
  tagged = some.1 ∙ ap (λ n. record { seat = tag.seat; serial = tag.serial; stamp = n + 1 }) is;
}

-- what is so of a result
pub ok_so : {A E : Type 0} (result : Result A E) (x : A) (P : A → Type 0) → result ≡ Ok x → IfOk result P → P x
ok_so result x P is h = subst (λ r. IfOk r P) is h

pub err_so : {A E : Type 0} (result : Result A E) (e : E) (P : E → Type 0) → result ≡ Err e → IfErr result P → P e
err_so result e P is h = subst (λ r. IfErr r P) is h

-- if a number is used up, there is no move
pub worn_move : (tag : Tag) (from reader to : ℕ) (s t : Logged) (shares : List SeatShareView) → AreValidShares shares
    → from ≢ to → IsFound (share_at shares from) s → IsFound (share_at shares to) t
    → (is_worn tag.serial || is_worn (max (max tag.stamp s.stamp) t.stamp)) ≡ true
    → IsNoMove tag from reader to shares
worn_move tag from reader to s t shares are apart source target worn = record {
  found = found_both shares from to s t;
  are = are_known from to s t shares apart are source target;
  not = worn_no_pair (found_both shares from to s t) tag (lower_first from to) from reader to
      (worn_is from to s t shares apart tag true worn);
}

-- if the read takes nothing, there is no move
pub read_none : (tag kept : Tag) (from reader to : ℕ) (s t : Logged) (shares : List SeatShareView)
    → AreValidShares shares
    → Begins tag kept from to s t shares
    → ((item : Item) (left : Logged) → op_on s kept None (Read from reader) ≢ Left (Got item) left)
    → IsNoMove tag from reader to shares
read_none tag kept from reader to s t shares are b none =
    let m : Map = found_both shares from to s t in
    record {
      found = m;
      are = begins_known tag kept from to s t shares are b;
      not = read_no_pair m tag kept (lower_first from to) from reader to
          (tag_is from to s t shares b.apart tag kept b.tagged)
          (worn_is from to s t shares b.apart tag false b.rises)
          (subst (λ (x : Logged). (item : Item) (left : Logged)
          → op_on x kept None (Read from reader) ≡ Left (Got item) left → ⊥)
          (sym (source_at from to s t shares b.apart)) none);
    }

-- if the read waits, the move must be retried
pub read_retries : (tag kept : Tag) (from reader to : ℕ) (s t : Logged) (shares : List SeatShareView) (cause : Cause)
    → AreValidShares shares → Begins tag kept from to s t shares
    → operate s.channel kept.seat None (Read from reader) ≡ Waits cause → MustRetryMove tag from reader to shares cause
read_retries tag kept from reader to s t shares cause are b waits =
    let m : Map = found_both shares from to s t in
    record {
      found = m;
      are = begins_known tag kept from to s t shares are b;
      again = read_waits m tag (lower_first from to) from reader to cause
          (worn_is from to s t shares b.apart tag false b.rises)
          (subst (λ (x : Logged). operate x.channel tag.seat None (Read from reader) ≡ Waits cause)
          (sym (source_at from to s t shares b.apart))
          (subst (λ n. operate s.channel n None (Read from reader) ≡ Waits cause)
          (ap (λ (x : Tag). x.seat) b.tagged) waits));
    }

-- if the write waits, the move must be retried
pub write_retries : (tag kept : Tag) (from reader to : ℕ) (item : Item) (s mid t : Logged)
    (shares : List SeatShareView) (cause : Cause) → AreValidShares shares → Begins tag kept from to s t shares
    → op_on s kept None (Read from reader) ≡ Left (Got item) mid
    → operate t.channel tag.seat None (Write to (Lit item.body)) ≡ Waits cause
    → MustRetryMove tag from reader to shares cause
write_retries tag kept from reader to item s mid t shares cause are b took waits =
    let m : Map = found_both shares from to s t in
    record {
      found = m;
      are = begins_known tag kept from to s t shares are b;
      again = write_waits m tag kept (lower_first from to) from reader to item mid cause b.apart
          (tag_is from to s t shares b.apart tag kept b.tagged)
          (worn_is from to s t shares b.apart tag false b.rises)
          (subst (λ (x : Logged). op_on x kept None (Read from reader) ≡ Left (Got item) mid)
          (sym (source_at from to s t shares b.apart)) took)
          (subst (λ (x : Logged). operate x.channel tag.seat None (Write to (Lit item.body)) ≡ Waits cause)
          (sym (target_at from to s t shares b.apart)) waits);
    }

-- if the write has no act, there is no move
pub write_none : (tag kept : Tag) (from reader to : ℕ) (item : Item) (s mid t : Logged) (shares : List SeatShareView)
    → AreValidShares shares → Begins tag kept from to s t shares
    → op_on s kept None (Read from reader) ≡ Left (Got item) mid
    → HasNoAct (operate t.channel tag.seat None (Write to (Lit item.body))) → IsNoMove tag from reader to shares
write_none tag kept from reader to item s mid t shares are b took none =
    let m : Map = found_both shares from to s t in
    record {
      found = m;
      are = begins_known tag kept from to s t shares are b;
      not = write_no_pair m tag kept (lower_first from to) from reader to item mid b.apart
          (tag_is from to s t shares b.apart tag kept b.tagged)
          (worn_is from to s t shares b.apart tag false b.rises)
          (subst (λ (x : Logged). op_on x kept None (Read from reader) ≡ Left (Got item) mid)
          (sym (source_at from to s t shares b.apart)) took)
          (subst (λ (x : Logged). HasNoAct (operate x.channel tag.seat None (Write to (Lit item.body))))
          (sym (target_at from to s t shares b.apart)) none);
    }

-- it can be settled
pub ready_to_settle : (tag kept : Tag) (from reader to : ℕ) (item : Item) (s mid t : Logged)
    (shares : List SeatShareView) → Begins tag kept from to s t shares
    → op_on s kept None (Read from reader) ≡ Left (Got item) mid → IsReady kept.stamp mid
ready_to_settle tag kept from reader to item s mid t shares b took =
    can_commit kept s mid (takes kept from reader item s mid took) b.source.known.clean
    (omega (arith, ap (λ (x : Tag). x.stamp) b.tagged))

module _ (tag kept : Tag) (from reader to : ℕ) (item : Item) (act : Act) (s mid s' t t' : Logged)
    (shares between after : List SeatShareView)
    (has : HasMoved tag kept from reader to item act s mid s' t t' shares between after) where
  abbrev m : Map
  m = found_both shares from to s t

  abbrev left : Map
  left = put_at (put_at m from s') to t'

  apart : from ≢ to
  apart = has.begins.apart

  between_from : share_at between from ≡ share_at shares from
  between_from = ap (λ (xs : List SeatShareView). share_at xs from) has.first
      ∙ share_other shares to from (share_at between to) apart

  after_to : share_at after to ≡ share_at between to
  after_to = ap (λ (xs : List SeatShareView). share_at xs to) has.second
      ∙ share_other between from to (share_at after from) (λ e. apart (sym e))

  after_other : (n : ℕ) → n ≢ from → n ≢ to → share_at after n ≡ share_at shares n
  after_other n off out = ap (λ (xs : List SeatShareView). share_at xs n) has.second
      ∙ share_other between from n (share_at after from) off
      ∙ ap (λ (xs : List SeatShareView). share_at xs n) has.first
      ∙ share_other shares to n (share_at between to) out

  off_from : (n : ℕ) → ¬ Contains (lower_first from to) n → n ≢ from
  off_from n none e = none (subst (Contains (lower_first from to)) (sym e) (both_contain from to).0)

  off_to : (n : ℕ) → ¬ Contains (lower_first from to) n → n ≢ to
  off_to n none e = none (subst (Contains (lower_first from to)) (sym e) (both_contain from to).1)

  pub committed_move : AreValidShares shares
      → IsCommittedMove tag from reader to shares after (pair_of kept
      (record { chan = from; place = length s.log; act = Took reader item })
      (record { chan = to; place = length t.log; act = act }))
  committed_move are = committed_as tag (lower_first from to) (move_steps from reader to) m left shares after
      (pair_of kept (record { chan = from; place = length s.log; act = Took reader item })
      (record { chan = to; place = length t.log; act = act })) (begins_known tag kept from to s t shares are has.begins)
      (committed_on tag kept (lower_first from to) from reader to item act s mid s' t t' m left shares after (record {
        apart = apart;
        here = (both_contain from to).0;
        there = (both_contain from to).1;
        found_from = source_at from to s t shares apart;
        found_to = target_at from to s t shares apart;
        left_from = put_elsewhere (put_at m from s') to from t' apart ∙ put_here m from s';
        left_to = put_here (put_at m from s') to t';
        source = has.begins.source;
        target = has.begins.target;
        rises = worn_is from to s t shares apart tag false has.begins.rises;
        tagged = tag_is from to s t shares apart tag kept has.begins.tagged;
        took = has.took;
        wrote = has.wrote;
        counts = subst (λ (x : SeatShareView). CountsOne t t' kept (share_at shares to) x) (sym after_to) has.counts;
        settles = subst (λ (x : SeatShareView). IsSettled kept mid x s' (share_at after from)) between_from
            has.settles;
        aside = λ n off out is. absurd (⊎_elim off out (only_both from to n is));
        outside = λ n none. (
          put_elsewhere (put_at m from s') to n t' (off_to n none) ∙ put_elsewhere m from n s' (off_from n none),
          after_other n (off_from n none) (off_to n none),
        );
      }))
