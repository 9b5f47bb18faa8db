-- A transaction that chose between two moves and was committed at once, in terms of all lines.
use Rattle.std.proofs.Common.{◌≡◌, ◌≢◌, ◌∙◌, refl, sym, ap, subst, inl, inr, ◌⊎◌, ⊎_elim, ℕ, ◌<◌, ◌+◌, ◌||◌, Bool}
use Rattle.std.proofs.Common.{true, false, if◌then◌else◌, suc, max, Option, None, Some, List, [], ◌∷◌, length}
use Rattle.std.proofs.Common.{Contains, arith, slice_set}
use Rattle.std.proofs.Common.{IfSome}
use Rattle.std.proofs.lemmas.Bool.Decides.{leb_tells}
use Rattle.std.specs.Option.{is_some}
use mathlib.Core.List.{IsPrefix}
use Rattle.txc_base.specs.declared.act.Act.{Act}
use Rattle.txc_base.specs.declared.act.Act.TheVariants.{Took}
use Rattle.txc_base.specs.declared.cause.Cause.{Cause}
use Rattle.txc_base.specs.declared.item.Item.{Item}
use Rattle.txc_base.specs.declared.op.Op.TheVariants.{Read, Write}
use Rattle.txc_base.specs.declared.reply.Reply.TheVariants.{Got}
use Rattle.txc_base.specs.declared.source.Source.TheVariants.{Lit}
use Rattle.txc_base.specs.declared.tag.Tag.{Tag}
use Rattle.txc_base.specs.Kinds.{supports}
use Rattle.txc_base.specs.Operation.{Waits, operate}
use Rattle.txc_chan.specs.Committed.{HasNoAct, IsCommittedOp}
use Rattle.txc_chan.specs.Logged.{Left, Logged, op_on}
use Rattle.txc_table_line.specs.Commit.{CountsOne}
use Rattle.txc_table_line.specs.Known.{IsKnown}
use Rattle.txc_table_line.specs.LineChan.{LineChanView}
use Rattle.txc_table_line.specs.SeatShare.{SeatShareView}
use Rattle.txc_txn.specs.declared.ran.Ran.TheVariants.{Kept as RanKept}
use Rattle.txc_txn.specs.declared.receipt.Receipt.{Receipt}
use Rattle.txc_txn.specs.Choice.{choice_steps, in_order, insert}
use Rattle.txc_txn.specs.Maps.{Map, put_at}
use Rattle.txc_txn.specs.Run.{RanSettled}
use Rattle.txc_txn.specs.Transaction.{Again, Ending, greatest, is_worn, kept_tag, transaction}
use Rattle.txc_txn.specs.TwoOperations.{IsNoPair, lower_first, move_steps, pair_of}
use Rattle.txc_txn.proofs.Choice.{both_again, first_chosen, greatest_of_three, only_three, second_chosen, three_contain}
use Rattle.txc_txn.proofs.TwoOperations.{again_no_pair, put_elsewhere, put_here, read_no_pair, read_waits, worn_no_pair}
use Rattle.txc_txn.proofs.TwoOperations.{write_no_pair}
use Rattle.txc_table_lines.specs.declared.choice.Choice.{Choice}
use Rattle.txc_table_lines.specs.Choice.{FirstWaits, IsCommittedChoice, IsNoFirstMove, MustRetryChoice, channels_of}
use Rattle.txc_table_lines.specs.Committed.{IsSettled}
use Rattle.txc_table_lines.specs.Guards as guards
use Rattle.txc_table_lines.specs.Guards.{IsReady}
use Rattle.txc_table_lines.specs.Lines.{AreValidShares, share_at}
use Rattle.txc_table_lines.specs.OneOperation.{AreKnown}
use Rattle.txc_table_lines.proofs.Committing.{can_commit}
use Rattle.txc_table_lines.proofs.MoveCommit.{CommitsAs, IsAside, committed_on, none_grown, takes}
use Rattle.txc_table_lines.proofs.OneCommit.{IsFound, each_put, found_logged, share_other}
use Rattle.txc_table_lines.proofs.TwoCommit.{are_known, found_both, source_at, target_at}

-- a truth value is one of two
either : (b : Bool) → (b ≡ true) ⊎ (b ≡ false)
either true = inl refl
either false = inr refl

-- the order of the two channels that are read does not matter
lower_either : (a b : ℕ) → a ≢ b → lower_first a b ≡ lower_first b a
lower_either a b apart =
    let order : ℕ → ℕ → Bool → List ℕ = λ x y b. if b then x ∷ y ∷ [] else y ∷ x ∷ [] in
    elim (leb_tells (suc a) b) [
      | inl t ↦
          elim (leb_tells (suc b) a) [
            | inl u ↦ absurd (omega (arith, t.1, u.1))
            | inr u ↦ ap (order a b) t.0 ∙ sym (ap (order b a) u.0)
          ]
      | inr t ↦
          elim (leb_tells (suc b) a) [
            | inl u ↦ ap (order a b) t.0 ∙ sym (ap (order b a) u.0)
            | inr u ↦ absurd (apart (omega (arith, t.1, u.1)))
          ]
    ]

-- what a read waits for, if there is a cause
pub first_waits : (what : Choice) (channel : LineChanView) (found : Option Cause) → is_some found ≡ true
    → ((seat : ℕ) → IfSome found (λ cause. operate channel.held.logged.channel seat None
    (Read what.first what.first_reader) ≡ Waits cause))
    → FirstWaits what channel
first_waits what channel None there waits = cc
first_waits what channel (Some cause) there waits = record { cause = cause; waits = waits }

-- what is known of the channels that a choice reads: the one that it moves an item from, and the other one
pub record Roles (what : Choice) (is_first : Bool) (from reader other : ℕ) (source unread : LineChanView)
    (shares : List SeatShareView)
    : Type 0 where
  pub below : from < length shares
  pub other_below : other < length shares
  pub off_from : other ≢ from
  pub apart : from ≢ what.to
  pub off_to : other ≢ what.to
  pub is_source : guards.IsFound (share_at shares from) source
  pub is_unread : guards.IsFound (share_at shares other) unread
  pub order : in_order from other what.to ≡ channels_of what
  pub reads : supports (share_at shares from).line.decl.kind (Read from reader) ≡ true
  pub first : is_first ≡ true → (from ≡ what.first) × (reader ≡ what.first_reader)
  pub second : is_first ≡ false → (from ≡ what.second) × (reader ≡ what.second_reader) × (other ≡ what.first)
      × FirstWaits what unread

pub roles : (what : Choice) (is_first : Bool) (from reader other : ℕ) (first second source unread : LineChanView)
    (shares : List SeatShareView)
    → (what.first ≢ what.second) × (what.first ≢ what.to) × (what.second ≢ what.to)
    → what.first < length shares → what.second < length shares
    → guards.IsFound (share_at shares what.first) first → guards.IsFound (share_at shares what.second) second
    → supports (share_at shares what.first).line.decl.kind (Read what.first what.first_reader) ≡ true
    → supports (share_at shares what.second).line.decl.kind (Read what.second what.second_reader) ≡ true
    → (is_first ≡ true → (from ≡ what.first) × (reader ≡ what.first_reader) × (other ≡ what.second)
    × (source ≡ first) × (unread ≡ second))
    → (is_first ≡ false → (from ≡ what.second) × (reader ≡ what.second_reader) × (other ≡ what.first)
    × (source ≡ second) × (unread ≡ first) × FirstWaits what first)
    → Roles what is_first from reader other source unread shares
roles what is_first from reader other first second source unread shares apart low high one two reads_one reads_two
    at_first at_second =
    ⊎_elim by_first by_second (either is_first)
  where
    by_first : is_first ≡ true → Roles what is_first from reader other source unread shares
    by_first is_so =
        let at = at_first is_so in
        let e_from : what.first ≡ from = sym at.0 in
        let e_reader : what.first_reader ≡ reader = sym at.1 in
        let e_other : what.second ≡ other = sym at.2 in
        record {
          below = subst (λ n. n < length shares) e_from low;
          other_below = subst (λ n. n < length shares) e_other high;
          off_from = λ e. apart.0 (e_from ∙ sym e ∙ sym e_other);
          apart = λ e. apart.1 (e_from ∙ e);
          off_to = λ e. apart.2 (e_other ∙ e);
          is_source = subst (λ n. guards.IsFound (share_at shares n) source) e_from
              (subst (guards.IsFound (share_at shares what.first)) (sym at.3) one);
          is_unread = subst (λ n. guards.IsFound (share_at shares n) unread) e_other
              (subst (guards.IsFound (share_at shares what.second)) (sym at.4) two);
          order = (λ j. in_order (sym e_from j) (sym e_other j) what.to);
          reads = subst (λ n. supports (share_at shares n).line.decl.kind (Read n reader) ≡ true) e_from
              (subst (λ n. supports (share_at shares what.first).line.decl.kind (Read what.first n) ≡ true) e_reader
              reads_one);
          first = λ same. (at.0, at.1);
          second = λ not_so. absurd (never (sym is_so ∙ not_so));
        }
      where
        never : true ≡ false → ⊥
        never is = cc

    by_second : is_first ≡ false → Roles what is_first from reader other source unread shares
    by_second not_so =
        let at = at_second not_so in
        let e_from : what.second ≡ from = sym at.0 in
        let e_reader : what.second_reader ≡ reader = sym at.1 in
        let e_other : what.first ≡ other = sym at.2 in
        record {
          below = subst (λ n. n < length shares) e_from high;
          other_below = subst (λ n. n < length shares) e_other low;
          off_from = λ e. apart.0 (e_other ∙ e ∙ sym e_from);
          apart = λ e. apart.2 (e_from ∙ e);
          off_to = λ e. apart.1 (e_other ∙ e);
          is_source = subst (λ n. guards.IsFound (share_at shares n) source) e_from
              (subst (guards.IsFound (share_at shares what.second)) (sym at.3) two);
          is_unread = subst (λ n. guards.IsFound (share_at shares n) unread) e_other
              (subst (guards.IsFound (share_at shares what.first)) (sym at.4) one);
          order = (λ j. in_order (sym e_from j) (sym e_other j) what.to)
              ∙ ap (insert what.to) (lower_either what.second what.first (λ e. apart.0 (sym e)));
          reads = subst (λ n. supports (share_at shares n).line.decl.kind (Read n reader) ≡ true) e_from
              (subst (λ n. supports (share_at shares what.second).line.decl.kind (Read what.second n) ≡ true) e_reader
              reads_two);
          first = λ is_so. absurd (never (sym is_so ∙ not_so));
          second = λ same. (at.0, at.1, at.2, subst (FirstWaits what) (sym at.4) at.5);
        }
      where
        never : true ≡ false → ⊥
        never is = cc

-- what is known of a choice that was committed at once
pub record HasChosen (tag kept : Tag) (what : Choice) (from reader other : ℕ) (item : Item) (act : Act)
    (s mid s' l l' t t' : Logged) (shares between middle after : List SeatShareView)
    : Type 0 where
  pub rises : (is_worn tag.serial || is_worn (max (max (max tag.stamp s.stamp) l.stamp) t.stamp)) ≡ false
  pub tagged : kept ≡ record {
    seat = tag.seat;
    serial = tag.serial;
    stamp = max (max (max tag.stamp s.stamp) l.stamp) t.stamp + 1;
  }
  pub took : op_on s kept None (Read from reader) ≡ Left (Got item) mid
  pub wrote : IsCommittedOp kept (Write what.to (Lit item.body)) act t t'
  pub counts : CountsOne t t' kept (share_at shares what.to) (share_at between what.to)
  pub settles : IsSettled kept mid (share_at between from) s' (share_at middle from)
  pub aside : IsSettled kept l (share_at middle other) l' (share_at after other)
  pub first : between ≡ slice_set shares what.to (share_at between what.to)
  pub second : middle ≡ slice_set between from (share_at middle from)
  pub third : after ≡ slice_set middle other (share_at after other)

-- the greatest of the stamps of a seat and of three channels
pub most_of_three : (stamp s l t one two three a b c : ℕ) → a ≡ max stamp one → one ≡ s → b ≡ max a two → two ≡ l
    → c ≡ max b three → three ≡ t → c ≡ max (max (max stamp s) l) t
most_of_three stamp s l t one two three a b c a_is one_is b_is two_is c_is three_is =
    c_is ∙ ap (λ n. max n three) (b_is ∙ ap (λ n. max n two) (a_is ∙ ap (max stamp) one_is)
    ∙ ap (max (max stamp s)) two_is) ∙ ap (max (max (max stamp s) l)) three_is

module _ (what : Choice) (is_first : Bool) (from reader other : ℕ) (source unread target : LineChanView)
    (shares : List SeatShareView) (has : Roles what is_first from reader other source unread shares)
    (there : guards.IsFound (share_at shares what.to) target) (are : AreValidShares shares) where
  abbrev s : Logged
  s = source.held.logged

  abbrev l : Logged
  l = unread.held.logged

  abbrev t : Logged
  t = target.held.logged

  abbrev ds : List ℕ
  ds = channels_of what

  abbrev m : Map
  m = put_at (found_both shares from what.to s t) other l

  is_source : IsFound (share_at shares from) s
  is_source = found_logged (share_at shares from) source has.is_source

  is_unread : IsFound (share_at shares other) l
  is_unread = found_logged (share_at shares other) unread has.is_unread

  is_target : IsFound (share_at shares what.to) t
  is_target = found_logged (share_at shares what.to) target there

  at_from : m from ≡ s
  at_from = put_elsewhere (found_both shares from what.to s t) other from l (λ e. has.off_from (sym e))
      ∙ source_at from what.to s t shares has.apart

  at_to : m what.to ≡ t
  at_to = put_elsewhere (found_both shares from what.to s t) other what.to l (λ e. has.off_to (sym e))
      ∙ target_at from what.to s t shares has.apart

  at_other : m other ≡ l
  at_other = put_here (found_both shares from what.to s t) other l

  known : AreKnown shares m
  known =
      let both : AreKnown shares (found_both shares from what.to s t) =
      are_known from what.to s t shares has.apart are is_source is_target in
      record {
        known = each_put
            (λ k x. k < length shares → IsKnown (share_at shares k).line.decl (share_at shares k).amount x)
            (found_both shares from what.to s t) other l both.known (λ lt. is_unread.known);
        since = each_put (λ k x. IsPrefix (share_at shares k).log x.log) (found_both shares from what.to s t) other l
            both.since is_unread.since;
      }

  contained : Contains ds from × Contains ds other × Contains ds what.to
  contained = subst (λ (xs : List ℕ). Contains xs from × Contains xs other × Contains xs what.to) has.order
      (three_contain from other what.to)

  only : (n : ℕ) → Contains ds n → (n ≡ from) ⊎ ((n ≡ other) ⊎ (n ≡ what.to))
  only n is = only_three from other what.to n (subst (λ (xs : List ℕ). Contains xs n) (sym has.order) is)

  -- the greatest stamp is that of the three channels that were found
  greatest_is : (most : ℕ) → greatest m most ds ≡ max (max (max most s.stamp) l.stamp) t.stamp
  greatest_is most = ap (greatest m most) (sym has.order) ∙ greatest_of_three m most from other what.to
      ∙ (λ j. max (max (max most (at_from j).stamp) (at_other j).stamp) (at_to j).stamp)

  worn_is : (tag : Tag) (b : Bool)
      → (is_worn tag.serial || is_worn (max (max (max tag.stamp s.stamp) l.stamp) t.stamp)) ≡ b
      → (is_worn tag.serial || is_worn (greatest m tag.stamp ds)) ≡ b
  worn_is tag b is = ap (λ n. is_worn tag.serial || is_worn n) (greatest_is tag.stamp) ∙ is

  -- if a number is used up, nothing is committed
  pub worn_choice : (tag : Tag)
      → (is_worn tag.serial || is_worn (max (max (max tag.stamp s.stamp) l.stamp) t.stamp)) ≡ true
      → IsNoFirstMove tag what shares
  worn_choice tag worn = record {
    found = m;
    are = known;
    not = worn_no_pair m tag ds what.first what.first_reader what.to (worn_is tag true worn);
  }

  module _ (tag kept : Tag)
      (rises : (is_worn tag.serial || is_worn (max (max (max tag.stamp s.stamp) l.stamp) t.stamp)) ≡ false)
      (tagged : kept ≡ record {
        seat = tag.seat;
        serial = tag.serial;
        stamp = max (max (max tag.stamp s.stamp) l.stamp) t.stamp + 1;
      }) where
    rises_is : (is_worn tag.serial || is_worn (greatest m tag.stamp ds)) ≡ false
    rises_is = worn_is tag false rises

    tag_is : kept ≡ kept_tag m tag ds
    tag_is = tagged ∙ ap (λ n. record { seat = tag.seat; serial = tag.serial; stamp = n + 1 })
        (sym (greatest_is tag.stamp))

    -- if the other channel is chosen, the first move must be retried
    first_again : is_first ≡ false → (why : Cause)
        × (transaction m tag ds (move_steps what.first what.first_reader what.to) ≡ Again why)
    first_again not_so =
        let at = has.second not_so in
        let waits : FirstWaits what unread = at.3 in
        let first : m what.first ≡ l = ap m (sym at.2) ∙ at_other in (
          waits.cause,
          read_waits m tag ds what.first what.first_reader what.to waits.cause rises_is
              (subst (λ (x : Logged). operate x.channel tag.seat None (Read what.first what.first_reader)
              ≡ Waits waits.cause) (sym first) (waits.waits tag.seat)),
        )

    again_none : is_first ≡ false → IsNoFirstMove tag what shares
    again_none not_so =
        let again = first_again not_so in
        record { found = m; are = known; not = again_no_pair _ again.0 again.1 }

    -- the move that was chosen is the first one
    named : is_first ≡ true → transaction m tag ds (move_steps from reader what.to)
        ≡ transaction m tag ds (move_steps what.first what.first_reader what.to)
    named is_so = let at = has.first is_so in λ j. transaction m tag ds (move_steps (at.0 j) (at.1 j) what.to)

    -- if the move that was chosen has not both acts, the first one has not
    no_pair : IsNoPair (transaction m tag ds (move_steps from reader what.to)) → IsNoFirstMove tag what shares
    no_pair not = ⊎_elim (λ is_so. record { found = m; are = known; not = subst IsNoPair (named is_so) not }) again_none
        (either is_first)

    -- if nothing is read, the first move does not commit
    pub none_read : ((item : Item) (left : Logged) → op_on s kept None (Read from reader) ≢ Left (Got item) left)
        → IsNoFirstMove tag what shares
    none_read none = no_pair (read_no_pair m tag kept ds from reader what.to tag_is rises_is
        (subst (λ (x : Logged). (item : Item) (left : Logged)
        → op_on x kept None (Read from reader) ≡ Left (Got item) left → ⊥) (sym at_from) none))

    -- if the write has no act, the first move does not commit
    pub none_written : (item : Item) (mid : Logged) → op_on s kept None (Read from reader) ≡ Left (Got item) mid
        → HasNoAct (operate t.channel tag.seat None (Write what.to (Lit item.body))) → IsNoFirstMove tag what shares
    none_written item mid took none = no_pair (write_no_pair m tag kept ds from reader what.to item mid has.apart tag_is
        rises_is
        (subst (λ (x : Logged). op_on x kept None (Read from reader) ≡ Left (Got item) mid) (sym at_from) took)
        (subst (λ (x : Logged). HasNoAct (operate x.channel tag.seat None (Write what.to (Lit item.body)))) (sym at_to)
        none))

    -- if both reads have to wait, so has the choice
    pub retry_both : is_first ≡ false → (cause : Cause)
        → operate s.channel kept.seat None (Read from reader) ≡ Waits cause → MustRetryChoice tag what shares cause
    retry_both not_so cause waits =
        let again = first_again not_so in
        let at = has.second not_so in
        let second : transaction m tag ds (move_steps from reader what.to) ≡ Again cause =
        read_waits m tag ds from reader what.to cause rises_is
        (subst (λ (x : Logged). operate x.channel tag.seat None (Read from reader) ≡ Waits cause) (sym at_from)
        (subst (λ n. operate s.channel n None (Read from reader) ≡ Waits cause) (ap (λ (x : Tag). x.seat) tagged)
        waits)) in
        record {
          found = m;
          are = known;
          again = both_again m tag ds what.first what.first_reader what.second what.second_reader what.to again.0 cause
              again.1
              ((λ j. transaction m tag ds (move_steps (sym at.0 j) (sym at.1 j) what.to)) ∙ second);
        }

    -- what was read, and the other channel, can be settled
    pub ready_source : (item : Item) (mid : Logged) → op_on s kept None (Read from reader) ≡ Left (Got item) mid
        → IsReady kept.stamp mid
    ready_source item mid took =
        can_commit kept s mid (takes kept from reader item s mid took) is_source.known.clean
        (omega (arith, ap (λ (x : Tag). x.stamp) tagged))

    pub ready_unread : IsReady kept.stamp l
    ready_unread =
        can_commit kept l l (none_grown kept l) is_unread.known.clean
        (omega (arith, ap (λ (x : Tag). x.stamp) tagged))

  -- the transaction of a choice with this receipt was committed
  pub committed_choice : (tag kept : Tag) (item : Item) (act : Act) (mid s' l' t' : Logged)
      (between middle after : List SeatShareView)
      → HasChosen tag kept what from reader other item act s mid s' l l' t t' shares between middle after
      → IsCommittedChoice tag what shares after (pair_of kept
      (record { chan = from; place = length s.log; act = Took reader item })
      (record { chan = what.to; place = length t.log; act = act }))
  committed_choice tag kept item act mid s' l' t' between middle after is = record {
    found = m;
    left = left;
    are = known;
    ran = ⊎_elim by_first by_second (either is_first);
    committed = moved.committed;
    grew = moved.grew;
    stand = moved.stand;
    inside = moved.inside;
    rise = moved.rise;
    later = moved.later;
  }
    where
      receipt : Receipt
      receipt = pair_of kept (record { chan = from; place = length s.log; act = Took reader item })
          (record { chan = what.to; place = length t.log; act = act })

      left : Map
      left = put_at (put_at (put_at m from s') what.to t') other l'

      between_at : (n : ℕ) → n ≢ what.to → share_at between n ≡ share_at shares n
      between_at n off = ap (λ (xs : List SeatShareView). share_at xs n) is.first
          ∙ share_other shares what.to n (share_at between what.to) off

      middle_at : (n : ℕ) → n ≢ from → share_at middle n ≡ share_at between n
      middle_at n off = ap (λ (xs : List SeatShareView). share_at xs n) is.second
          ∙ share_other between from n (share_at middle from) off

      after_at : (n : ℕ) → n ≢ other → share_at after n ≡ share_at middle n
      after_at n off = ap (λ (xs : List SeatShareView). share_at xs n) is.third
          ∙ share_other middle other n (share_at after other) off

      after_from : share_at after from ≡ share_at middle from
      after_from = after_at from (λ e. has.off_from (sym e))

      after_to : share_at after what.to ≡ share_at between what.to
      after_to = after_at what.to (λ e. has.off_to (sym e)) ∙ middle_at what.to (λ e. has.apart (sym e))

      middle_other : share_at middle other ≡ share_at shares other
      middle_other = middle_at other has.off_from ∙ between_at other has.off_to

      off : (n : ℕ) → ¬ Contains ds n → (n ≢ from) × (n ≢ other) × (n ≢ what.to)
      off n none = (
        λ e. none (subst (Contains ds) (sym e) contained.0),
        λ e. none (subst (Contains ds) (sym e) contained.1),
        λ e. none (subst (Contains ds) (sym e) contained.2),
      )

      left_other : left other ≡ l'
      left_other = put_here (put_at (put_at m from s') what.to t') other l'

      aside_at : (n : ℕ) → n ≢ from → n ≢ what.to → Contains ds n
          → IsAside kept (m n) (left n) (share_at shares n) (share_at after n)
      aside_at n not_so not here =
          let same : n ≡ other =
          ⊎_elim (λ e. absurd (not_so e)) (λ c. ⊎_elim (λ e. e) (λ e. absurd (not e)) c) (only n here) in
          subst (λ k. IsAside kept (m k) (left k) (share_at shares k) (share_at after k)) (sym same)
          (subst (λ (x : Logged). IsAside kept x (left other) (share_at shares other) (share_at after other))
          (sym at_other)
          (subst (λ (x : Logged). IsAside kept l x (share_at shares other) (share_at after other)) (sym left_other)
          (record {
            found = is_unread;
            settled = subst (λ (x : SeatShareView). IsSettled kept l x l' (share_at after other)) middle_other is.aside;
          })))

      moved : CommitsAs tag ds (move_steps from reader what.to) m left shares after receipt
      moved = committed_on tag kept ds from reader what.to item act s mid s' t t' m left shares after (record {
        apart = has.apart;
        here = contained.0;
        there = contained.2;
        found_from = at_from;
        found_to = at_to;
        left_from = put_elsewhere (put_at (put_at m from s') what.to t') other from l' (λ e. has.off_from (sym e))
            ∙ put_elsewhere (put_at m from s') what.to from t' has.apart ∙ put_here m from s';
        left_to = put_elsewhere (put_at (put_at m from s') what.to t') other what.to l' (λ e. has.off_to (sym e))
            ∙ put_here (put_at m from s') what.to t';
        source = is_source;
        target = is_target;
        rises = rises_is tag kept is.rises is.tagged;
        tagged = tag_is tag kept is.rises is.tagged;
        took = is.took;
        wrote = is.wrote;
        counts = subst (λ (x : SeatShareView). CountsOne t t' kept (share_at shares what.to) x) (sym after_to)
            is.counts;
        settles = subst (λ (x : SeatShareView). IsSettled kept mid x s' (share_at after from))
            (between_at from has.apart)
            (subst (λ (x : SeatShareView). IsSettled kept mid (share_at between from) s' x) (sym after_from)
            is.settles);
        aside = aside_at;
        outside = λ n none. (
          put_elsewhere (put_at (put_at m from s') what.to t') other n l' (off n none).1
              ∙ put_elsewhere (put_at m from s') what.to n t' (off n none).2 ∙ put_elsewhere m from n s' (off n none).0,
          after_at n (off n none).1 ∙ middle_at n (off n none).0 ∙ between_at n (off n none).2,
        );
      })

      by_first : is_first ≡ true → RanSettled (kept_tag m tag ds) ds (transaction m tag ds
          (choice_steps what.first what.first_reader what.second what.second_reader what.to)) (RanKept receipt) m left
      by_first is_so = first_chosen m tag ds what.first what.first_reader what.second what.second_reader what.to left
          receipt (subst (λ (e : Ending). RanSettled (kept_tag m tag ds) ds e (RanKept receipt) m left)
          (named tag kept is.rises is.tagged is_so) moved.ran)

      by_second : is_first ≡ false → RanSettled (kept_tag m tag ds) ds (transaction m tag ds
          (choice_steps what.first what.first_reader what.second what.second_reader what.to)) (RanKept receipt) m left
      by_second not_so =
          let again = first_again tag kept is.rises is.tagged not_so in
          let at = has.second not_so in
          second_chosen m tag ds what.first what.first_reader what.second what.second_reader what.to left receipt
          again.0 again.1
          (subst (λ (e : Ending). RanSettled (kept_tag m tag ds) ds e (RanKept receipt) m left)
          (λ j. transaction m tag ds (move_steps (at.0 j) (at.1 j) what.to)) moved.ran)
