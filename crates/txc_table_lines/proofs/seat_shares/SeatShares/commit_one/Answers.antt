use Rattle.std.proofs.Common.{rules, refl, ◌≡◌, ◌∙◌, sym, ap, subst, ◌+◌, ◌||◌, true, false, max, None, List}
use Rattle.std.proofs.Common.{length, slice_set}
use Rattle.txc_base.specs.declared.tag.Tag.{Tag}
use Rattle.txc_base.specs.Operation.{Waits, operate}
use Rattle.txc_txn.specs.Transaction.{is_worn}
use Rattle.txc_base.specs.Op.{chan_of}
use Rattle.txc_chan.specs.Committed.{HasNoAct, IsCommittedOp}
use Rattle.txc_chan.specs.Logged.{Logged}
use Rattle.txc_table_line.specs.Commit.{CountsOne}
use Rattle.txc_table_line.specs.LineChan.{LineChanView}
use Rattle.txc_table_line.specs.SeatShare.{SeatShareView}
use Rattle.txc_txn.specs.declared.receipt.Receipt.{Receipt}
use Rattle.txc_txn.specs.OneOperation.{single_of}
use Rattle.txc_txn.proofs.Once.{none_so, some_so}
use Rattle.txc_table_lines.specs.Guards.{IsFound}
use Rattle.txc_table_lines.specs.Lines.{share_at}
use Rattle.txc_table_lines.specs.OneOperation.{IsCommittedOne, IsNotImmediate, MustRetryOne}
use Rattle.txc_table_lines.proofs.OneCommit.{IsFound as Found, committed_one, found_logged, no_act, not_worn, waits_one}
use Rattle.txc_table_lines.proofs.Sharing.{there}
use Rattle.txc_table_lines.proofs.seat_shares.SeatShares.commit_one.Goals as goal

pub returns-in_default-clause-once : goal.returns-in_default-clause-once
returns-in_default-clause-once g c is-false =
    let tag : Tag = c.make_single.new.self.tag in
    let l : Logged = c.take_line-guard.result.held.logged in
    let found : Found (share_at c.args.self.now (chan_of c.args.op.now)) l =
    found_logged _ _ (subst (λ n. IsFound (share_at c.args.self.now n) c.take_line-guard.result) c.chan-chan.ensures
    c.take_line-guard.ensures.found) in
    let most : c.max-most.result ≡ max tag.stamp l.stamp =
    c.max-most.ensures ∙ ap (max tag.stamp) c.stamp_and_len-stamp.ensures.stamp in
    subst (λ (t : Tag). IsNotImmediate t c.args.op.now c.args.self.now) c.make_single.ensures.tag
    (not_worn tag c.args.op.now l c.args.self.now c.show.ensures found
    (subst (λ k. (is_worn tag.serial || is_worn k) ≡ true) most c.in_default.ensures.none))

pub returns-in_default-2-clause-once : goal.returns-in_default-2-clause-once
returns-in_default-2-clause-once g c is-false =
    let tag : Tag = c.make_single.new.self.tag in
    let l : Logged = c.stamp_and_len-stamp.new.self.held.logged in
    let found : Found (share_at c.args.self.now (chan_of c.args.op.now)) l =
    found_logged _ _ (subst (λ (x : LineChanView). IsFound (share_at c.args.self.now (chan_of c.args.op.now)) x)
    (sym (c.stamp_and_len-stamp.ensures.same))
    (subst (λ n. IsFound (share_at c.args.self.now n) c.take_line-guard.result) c.chan-chan.ensures
    c.take_line-guard.ensures.found)) in
    subst (λ (t : Tag). IsNotImmediate t c.args.op.now c.args.self.now) c.make_single.ensures.tag
    (no_act tag c.args.op.now l c.args.self.now c.show.ensures found
    (λ moves. subst (λ (t : Tag). HasNoAct (operate l.channel t.seat None c.args.op.now)) c.in-Some.ensures.some.1
    (none_so c.in_ok-act.field-0 c.in_default-2.is (c.in_ok-act.ensures.none moves))))

pub returns-in_default-2-clause-retry : goal.returns-in_default-2-clause-retry
returns-in_default-2-clause-retry g c cause is =
    let n = chan_of c.args.op.now in
    let tag : Tag = c.make_single.new.self.tag in
    let l : Logged = c.stamp_and_len-stamp.new.self.held.logged in
    let left : Logged = c.commit_op.new.line.held.logged in
    let guard : c.stamp_and_len-stamp.new.self ≡ c.take_line-guard.result = c.stamp_and_len-stamp.ensures.same in
    let found : Found (share_at c.args.self.now n) l =
    found_logged _ _ (subst (λ (x : LineChanView). IsFound (share_at c.args.self.now n) x) (sym guard)
    (subst (λ k. IsFound (share_at c.args.self.now k) c.take_line-guard.result) c.chan-chan.ensures
    c.take_line-guard.ensures.found)) in
    let most : c.max-most.result ≡ max tag.stamp l.stamp =
    c.max-most.ensures ∙ ap (max tag.stamp) (c.stamp_and_len-stamp.ensures.stamp
    ∙ ap (λ (x : LineChanView). x.held.logged.stamp) (sym guard)) in
    let rises : (is_worn tag.serial || is_worn (max tag.stamp l.stamp)) ≡ false =
    subst (λ k. (is_worn tag.serial || is_worn k) ≡ false) most c.in-Some.ensures.some.0 in
    let same : left ≡ l = (none_so c.in_ok-act.field-0 c.in_default-2.is c.in_ok-act.ensures.left).0 in
    subst (λ (t : Tag). MustRetryOne t c.args.op.now c.args.self.now cause) c.make_single.ensures.tag
    (waits_one tag c.args.op.now l c.args.self.now cause c.show.ensures found rises
    (subst (λ (x : Logged). operate x.channel tag.seat None c.args.op.now ≡ Waits cause) same
    (c.without_act.ensures.waits tag.seat cause is)))

pub returns-clause-done : goal.returns-clause-done
returns-clause-done g c is-true =
    let n = chan_of c.args.op.now in
    let tag : Tag = c.make_single.new.self.tag in
    let kept : Tag = c.in-Some.tag in
    let act = c.in-Some-2.act in
    let shares : List SeatShareView = c.args.self.now in
    let after : List SeatShareView = c.commit_op.new.self in
    let l : Logged = c.stamp_and_len-stamp.new.self.held.logged in
    let l' : Logged = c.commit_op.new.line.held.logged in
    let guard : c.stamp_and_len-stamp.new.self ≡ c.take_line-guard.result = c.stamp_and_len-stamp.ensures.same in
    let found : Found (share_at shares n) l =
    found_logged _ _ (subst (λ (x : LineChanView). IsFound (share_at shares n) x) (sym guard)
    (subst (λ k. IsFound (share_at shares k) c.take_line-guard.result) c.chan-chan.ensures
    c.take_line-guard.ensures.found)) in
    let seat : c.take_line-guard.new.shares ≡ shares = c.take_line-guard.ensures.same in
    let below = there _ _ _ _ _ refl c.requires.of refl c.requires.there in
    let most : c.max-most.result ≡ max tag.stamp l.stamp =
    c.max-most.ensures ∙ ap (max tag.stamp) (c.stamp_and_len-stamp.ensures.stamp
    ∙ ap (λ (x : LineChanView). x.held.logged.stamp) (sym guard)) in
    let some = subst (λ k. ((is_worn tag.serial || is_worn k) ≡ false)
    × (kept ≡ record { seat = tag.seat; serial = tag.serial; stamp = k + 1 })) most c.in-Some.ensures.some in
    let done : IsCommittedOp kept c.args.op.now act l l' =
    some_so c.in_ok-act.field-0 act _ c.in-Some-2.is c.in_ok-act.ensures.done in
    let counts : CountsOne l l' kept (share_at shares n) (share_at after n) =
    subst (λ (x : List SeatShareView). CountsOne l l' kept (share_at x n) (share_at after n)) seat
    (some_so c.in_ok-act.field-0 act _ c.in-Some-2.is c.in_ok-act.ensures.counts) in
    let only : after ≡ slice_set shares n (share_at after n) =
    subst (λ (x : List SeatShareView). after ≡ slice_set x n (share_at after n)) seat c.commit_op.ensures.others in
    let committed = committed_one tag kept c.args.op.now act l l' shares (share_at after n) c.show.ensures (record {
      there = below;
      is = found;
      rises = some.0;
      tagged = some.1;
      done = done;
      counts = counts;
    }) in
    let place : c.stamp_and_len-stamp.result.1 ≡ length l.log = search rules in
    let its : Receipt = single_of kept (record { chan = n; place = length l.log; act = act }) in
    subst (λ (t : Tag). IsCommittedOne t c.args.op.now shares after c.set_single.new.self) c.make_single.ensures.tag
    (subst (λ (r : Receipt). IsCommittedOne tag c.args.op.now shares after r)
    (sym (c.set_single.ensures
    ∙ (λ j. single_of kept (record { chan = c.chan-chan.ensures j; place = place j; act = act }))))
    (subst (λ (x : List SeatShareView). IsCommittedOne tag c.args.op.now shares x its) (sym only) committed))
