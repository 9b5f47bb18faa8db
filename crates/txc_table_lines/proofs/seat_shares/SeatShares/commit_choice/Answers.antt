use Rattle.std.proofs.Common.{refl, ◌≡◌, ◌≢◌, ◌∙◌, sym, ap, subst, ◌<◌, ◌+◌, ◌||◌, true, false, max}
use Rattle.std.proofs.Common.{None, List, length, slice_set}
use Rattle.txc_base.specs.declared.act.Act.TheVariants.{Took}
use Rattle.txc_base.specs.declared.item.Item.{Item}
use Rattle.txc_base.specs.declared.op.Op.TheVariants.{Read, Write}
use Rattle.txc_base.specs.declared.reply.Reply.TheVariants.{Got}
use Rattle.txc_base.specs.declared.source.Source.TheVariants.{Lit}
use Rattle.txc_base.specs.declared.tag.Tag.{Tag}
use Rattle.txc_base.specs.Kinds.{supports}
use Rattle.txc_base.specs.Operation.{Waits, operate}
use Rattle.txc_chan.specs.declared.decl.Decl.{Decl}
use Rattle.txc_chan.specs.Committed.{HasNoAct, IsCommittedOp}
use Rattle.txc_chan.specs.Logged.{Left, Logged, op_on}
use Rattle.txc_txn.specs.declared.receipt.Receipt.{Receipt}
use Rattle.txc_txn.specs.Transaction.{is_worn}
use Rattle.txc_txn.specs.TwoOperations.{pair_of}
use Rattle.txc_txn.proofs.Once.{none_so, some_so}
use Rattle.txc_table_line.specs.Commit.{CountsOne}
use Rattle.txc_table_line.specs.LineChan.{LineChanView}
use Rattle.txc_table_line.specs.SeatShare.{SeatShareView}
use Rattle.txc_table_lines.specs.Choice.{IsCommittedChoice}
use Rattle.txc_table_lines.specs.Committed.{IsSettled}
use Rattle.txc_table_lines.specs.Guards.{IsReady}
use Rattle.txc_table_lines.specs.Lines.{line_ids, share_at}
use Rattle.txc_table_lines.proofs.Sharing.{same_line, same_long, there}
use Rattle.txc_table_lines.proofs.ThreeCommit.{HasChosen, Roles, committed_choice, most_of_three, none_read}
use Rattle.txc_table_lines.proofs.ThreeCommit.{none_written, ready_source, ready_unread, retry_both, roles, worn_choice}
use Rattle.txc_table_lines.proofs.TwoCommit.{err_so, ok_so}
use Rattle.txc_table_lines.proofs.seat_shares.SeatShares.commit_choice.Goals as goal

pub returns-in_default-clause-once : goal.returns-in_default-clause-once
returns-in_default-clause-once g c not =
    let chosen = c.choose-is_first.result in
    let shares : List SeatShareView = c.args.self.now in
    let has : Roles c.args.what chosen.is_first chosen.from chosen.reader chosen.other chosen.source chosen.unread
    shares = roles c.args.what chosen.is_first chosen.from chosen.reader chosen.other c.take_three-first.result.0
    c.take_three-first.result.1 chosen.source chosen.unread shares c.requires.apart
    (there _ _ _ _ _ refl c.requires.of refl c.requires.first)
    (there _ _ _ _ _ refl c.requires.of refl c.requires.second) c.take_three-first.ensures.first
    c.take_three-first.ensures.second c.requires.reads_first c.requires.reads_second c.choose-is_first.ensures.first
    c.choose-is_first.ensures.second in
    let s : Logged = chosen.source.held.logged in
    let l : Logged = chosen.unread.held.logged in
    let t : Logged = c.take_three-first.result.2.held.logged in
    let most : c.max-most-2.result ≡ max (max (max c.args.tag.stamp s.stamp) l.stamp) t.stamp =
    most_of_three c.args.tag.stamp s.stamp l.stamp t.stamp c.stamp.result c.stamp-2.result c.stamp-3.result
    c.max-most.result c.max.result c.max-most-2.result c.max-most.ensures c.stamp.ensures.value c.max.ensures
    c.stamp-2.ensures.value c.max-most-2.ensures c.stamp-3.ensures.value in
    worn_choice c.args.what chosen.is_first chosen.from chosen.reader chosen.other chosen.source chosen.unread
    c.take_three-first.result.2 shares has c.take_three-first.ensures.target c.show.ensures
    c.args.tag (subst (λ k. (is_worn c.args.tag.serial || is_worn k) ≡ true) most c.in_default.ensures.none)

pub take_item-requires : goal.take_item-requires
take_item-requires g c =
    let chosen = c.choose-is_first.result in
    let shares : List SeatShareView = c.args.self.now in
    let has : Roles c.args.what chosen.is_first chosen.from chosen.reader chosen.other chosen.source chosen.unread
    shares = roles c.args.what chosen.is_first chosen.from chosen.reader chosen.other c.take_three-first.result.0
    c.take_three-first.result.1 chosen.source chosen.unread shares c.requires.apart
    (there _ _ _ _ _ refl c.requires.of refl c.requires.first)
    (there _ _ _ _ _ refl c.requires.of refl c.requires.second) c.take_three-first.ensures.first
    c.take_three-first.ensures.second c.requires.reads_first c.requires.reads_second c.choose-is_first.ensures.first
    c.choose-is_first.ensures.second in
    let same : c.log_len-place.new.self ≡ chosen.source = c.log_len-place.ensures.same ∙ c.stamp.ensures.same in
    record {
      supports = subst (λ (x : LineChanView). supports x.held.logged.decl.kind (Read chosen.from chosen.reader) ≡ true)
          (sym same)
          (subst (λ (d : Decl). supports d.kind (Read chosen.from chosen.reader) ≡ true)
          (sym has.is_source.known.declared) has.reads);
    }

pub returns-in-Err-clause-once : goal.returns-in-Err-clause-once
returns-in-Err-clause-once g c not =
    let chosen = c.choose-is_first.result in
    let shares : List SeatShareView = c.args.self.now in
    let has : Roles c.args.what chosen.is_first chosen.from chosen.reader chosen.other chosen.source chosen.unread
    shares = roles c.args.what chosen.is_first chosen.from chosen.reader chosen.other c.take_three-first.result.0
    c.take_three-first.result.1 chosen.source chosen.unread shares c.requires.apart
    (there _ _ _ _ _ refl c.requires.of refl c.requires.first)
    (there _ _ _ _ _ refl c.requires.of refl c.requires.second) c.take_three-first.ensures.first
    c.take_three-first.ensures.second c.requires.reads_first c.requires.reads_second c.choose-is_first.ensures.first
    c.choose-is_first.ensures.second in
    let s : Logged = chosen.source.held.logged in
    let l : Logged = chosen.unread.held.logged in
    let t : Logged = c.take_three-first.result.2.held.logged in
    let most : c.max-most-2.result ≡ max (max (max c.args.tag.stamp s.stamp) l.stamp) t.stamp =
    most_of_three c.args.tag.stamp s.stamp l.stamp t.stamp c.stamp.result c.stamp-2.result c.stamp-3.result
    c.max-most.result c.max.result c.max-most-2.result c.max-most.ensures c.stamp.ensures.value c.max.ensures
    c.stamp-2.ensures.value c.max-most-2.ensures c.stamp-3.ensures.value in
    let rises : (is_worn c.args.tag.serial
    || is_worn (max (max (max c.args.tag.stamp s.stamp) l.stamp) t.stamp)) ≡ false =
    subst (λ k. (is_worn c.args.tag.serial || is_worn k) ≡ false) most c.in-Some.ensures.some.0 in
    let tagged : c.in-Some.tag ≡ record {
      seat = c.args.tag.seat;
      serial = c.args.tag.serial;
      stamp = max (max (max c.args.tag.stamp s.stamp) l.stamp) t.stamp + 1;
    } = c.in-Some.ensures.some.1
    ∙ ap (λ k. record { seat = c.args.tag.seat; serial = c.args.tag.serial; stamp = k + 1 }) most in
    let same : c.log_len-place.new.self ≡ chosen.source = c.log_len-place.ensures.same ∙ c.stamp.ensures.same in
    none_read c.args.what chosen.is_first chosen.from chosen.reader chosen.other chosen.source chosen.unread
    c.take_three-first.result.2 shares has c.take_three-first.ensures.target c.show.ensures
    c.args.tag c.in-Some.tag rises tagged
    (subst (λ (x : LineChanView). (item : Item) (left : Logged) → op_on x.held.logged c.in-Some.tag None
    (Read chosen.from chosen.reader) ≢ Left (Got item) left) same
    (err_so c.in_ok-item.field-0 c.in-Err.field-0 _ c.in-Err.is c.in_ok-item.ensures.none))

pub returns-in-Err-2-clause-once : goal.returns-in-Err-2-clause-once
returns-in-Err-2-clause-once g c not =
    let chosen = c.choose-is_first.result in
    let shares : List SeatShareView = c.args.self.now in
    let has : Roles c.args.what chosen.is_first chosen.from chosen.reader chosen.other chosen.source chosen.unread
    shares = roles c.args.what chosen.is_first chosen.from chosen.reader chosen.other c.take_three-first.result.0
    c.take_three-first.result.1 chosen.source chosen.unread shares c.requires.apart
    (there _ _ _ _ _ refl c.requires.of refl c.requires.first)
    (there _ _ _ _ _ refl c.requires.of refl c.requires.second) c.take_three-first.ensures.first
    c.take_three-first.ensures.second c.requires.reads_first c.requires.reads_second c.choose-is_first.ensures.first
    c.choose-is_first.ensures.second in
    let s : Logged = chosen.source.held.logged in
    let l : Logged = chosen.unread.held.logged in
    let t : Logged = c.take_three-first.result.2.held.logged in
    let most : c.max-most-2.result ≡ max (max (max c.args.tag.stamp s.stamp) l.stamp) t.stamp =
    most_of_three c.args.tag.stamp s.stamp l.stamp t.stamp c.stamp.result c.stamp-2.result c.stamp-3.result
    c.max-most.result c.max.result c.max-most-2.result c.max-most.ensures c.stamp.ensures.value c.max.ensures
    c.stamp-2.ensures.value c.max-most-2.ensures c.stamp-3.ensures.value in
    let rises : (is_worn c.args.tag.serial
    || is_worn (max (max (max c.args.tag.stamp s.stamp) l.stamp) t.stamp)) ≡ false =
    subst (λ k. (is_worn c.args.tag.serial || is_worn k) ≡ false) most c.in-Some.ensures.some.0 in
    let tagged : c.in-Some.tag ≡ record {
      seat = c.args.tag.seat;
      serial = c.args.tag.serial;
      stamp = max (max (max c.args.tag.stamp s.stamp) l.stamp) t.stamp + 1;
    } = c.in-Some.ensures.some.1
    ∙ ap (λ k. record { seat = c.args.tag.seat; serial = c.args.tag.serial; stamp = k + 1 }) most in
    let same : c.log_len-place.new.self ≡ chosen.source = c.log_len-place.ensures.same ∙ c.stamp.ensures.same in
    none_read c.args.what chosen.is_first chosen.from chosen.reader chosen.other chosen.source chosen.unread
    c.take_three-first.result.2 shares has c.take_three-first.ensures.target c.show.ensures
    c.args.tag c.in-Some.tag rises tagged
    (subst (λ (x : LineChanView). (item : Item) (left : Logged) → op_on x.held.logged c.in-Some.tag None
    (Read chosen.from chosen.reader) ≢ Left (Got item) left) same
    (err_so c.in_ok-item.field-0 c.in-Err.field-0 _ c.in-Err.is c.in_ok-item.ensures.none))

pub returns-in-Err-2-clause-retry : goal.returns-in-Err-2-clause-retry
returns-in-Err-2-clause-retry g c cause is =
    let chosen = c.choose-is_first.result in
    let shares : List SeatShareView = c.args.self.now in
    let has : Roles c.args.what chosen.is_first chosen.from chosen.reader chosen.other chosen.source chosen.unread
    shares = roles c.args.what chosen.is_first chosen.from chosen.reader chosen.other c.take_three-first.result.0
    c.take_three-first.result.1 chosen.source chosen.unread shares c.requires.apart
    (there _ _ _ _ _ refl c.requires.of refl c.requires.first)
    (there _ _ _ _ _ refl c.requires.of refl c.requires.second) c.take_three-first.ensures.first
    c.take_three-first.ensures.second c.requires.reads_first c.requires.reads_second c.choose-is_first.ensures.first
    c.choose-is_first.ensures.second in
    let s : Logged = chosen.source.held.logged in
    let l : Logged = chosen.unread.held.logged in
    let t : Logged = c.take_three-first.result.2.held.logged in
    let most : c.max-most-2.result ≡ max (max (max c.args.tag.stamp s.stamp) l.stamp) t.stamp =
    most_of_three c.args.tag.stamp s.stamp l.stamp t.stamp c.stamp.result c.stamp-2.result c.stamp-3.result
    c.max-most.result c.max.result c.max-most-2.result c.max-most.ensures c.stamp.ensures.value c.max.ensures
    c.stamp-2.ensures.value c.max-most-2.ensures c.stamp-3.ensures.value in
    let rises : (is_worn c.args.tag.serial
    || is_worn (max (max (max c.args.tag.stamp s.stamp) l.stamp) t.stamp)) ≡ false =
    subst (λ k. (is_worn c.args.tag.serial || is_worn k) ≡ false) most c.in-Some.ensures.some.0 in
    let tagged : c.in-Some.tag ≡ record {
      seat = c.args.tag.seat;
      serial = c.args.tag.serial;
      stamp = max (max (max c.args.tag.stamp s.stamp) l.stamp) t.stamp + 1;
    } = c.in-Some.ensures.some.1
    ∙ ap (λ k. record { seat = c.args.tag.seat; serial = c.args.tag.serial; stamp = k + 1 }) most in
    let same : c.log_len-place.new.self ≡ chosen.source = c.log_len-place.ensures.same ∙ c.stamp.ensures.same in
    retry_both c.args.what chosen.is_first chosen.from chosen.reader chosen.other chosen.source chosen.unread
    c.take_three-first.result.2 shares has c.take_three-first.ensures.target c.show.ensures
    c.args.tag c.in-Some.tag rises tagged c.if-is_first.false cause
    (subst (λ (x : LineChanView). operate x.held.logged.channel c.in-Some.tag.seat None
    (Read chosen.from chosen.reader) ≡ Waits cause) same
    (err_so c.in_ok-item.field-0 c.in-Err.field-0 _ c.in-Err.is (c.in_ok-item.ensures.waits cause) is))

pub returns-in_default-2-clause-once : goal.returns-in_default-2-clause-once
returns-in_default-2-clause-once g c not =
    let chosen = c.choose-is_first.result in
    let shares : List SeatShareView = c.args.self.now in
    let has : Roles c.args.what chosen.is_first chosen.from chosen.reader chosen.other chosen.source chosen.unread
    shares = roles c.args.what chosen.is_first chosen.from chosen.reader chosen.other c.take_three-first.result.0
    c.take_three-first.result.1 chosen.source chosen.unread shares c.requires.apart
    (there _ _ _ _ _ refl c.requires.of refl c.requires.first)
    (there _ _ _ _ _ refl c.requires.of refl c.requires.second) c.take_three-first.ensures.first
    c.take_three-first.ensures.second c.requires.reads_first c.requires.reads_second c.choose-is_first.ensures.first
    c.choose-is_first.ensures.second in
    let s : Logged = chosen.source.held.logged in
    let l : Logged = chosen.unread.held.logged in
    let t : Logged = c.take_three-first.result.2.held.logged in
    let most : c.max-most-2.result ≡ max (max (max c.args.tag.stamp s.stamp) l.stamp) t.stamp =
    most_of_three c.args.tag.stamp s.stamp l.stamp t.stamp c.stamp.result c.stamp-2.result c.stamp-3.result
    c.max-most.result c.max.result c.max-most-2.result c.max-most.ensures c.stamp.ensures.value c.max.ensures
    c.stamp-2.ensures.value c.max-most-2.ensures c.stamp-3.ensures.value in
    let rises : (is_worn c.args.tag.serial
    || is_worn (max (max (max c.args.tag.stamp s.stamp) l.stamp) t.stamp)) ≡ false =
    subst (λ k. (is_worn c.args.tag.serial || is_worn k) ≡ false) most c.in-Some.ensures.some.0 in
    let tagged : c.in-Some.tag ≡ record {
      seat = c.args.tag.seat;
      serial = c.args.tag.serial;
      stamp = max (max (max c.args.tag.stamp s.stamp) l.stamp) t.stamp + 1;
    } = c.in-Some.ensures.some.1
    ∙ ap (λ k. record { seat = c.args.tag.seat; serial = c.args.tag.serial; stamp = k + 1 }) most in
    let same : c.log_len-place.new.self ≡ chosen.source = c.log_len-place.ensures.same ∙ c.stamp.ensures.same in
    let mid : Logged = c.take_item.new.source.held.logged in
    let took : op_on s c.in-Some.tag None (Read chosen.from chosen.reader) ≡ Left (Got c.in-Ok.item) mid =
    subst (λ (x : LineChanView). op_on x.held.logged c.in-Some.tag None (Read chosen.from chosen.reader)
    ≡ Left (Got c.in-Ok.item) mid) same
    (ok_so c.in_ok-item.field-0 c.in-Ok.item _ c.in-Ok.is c.in_ok-item.ensures.taken) in
    let at : c.log_len-place-2.new.self ≡ c.take_three-first.result.2 =
    c.log_len-place-2.ensures.same ∙ c.stamp-3.ensures.same in
    let none : HasNoAct (operate c.log_len-place-2.new.self.held.logged.channel c.in-Some.tag.seat None
    (Write c.args.what.to (Lit c.in-Ok.item.body))) =
    none_so c.in_ok-act.field-0 c.in_default-2.is (c.in_ok-act.ensures.none refl) in
    none_written c.args.what chosen.is_first chosen.from chosen.reader chosen.other chosen.source chosen.unread
    c.take_three-first.result.2 shares has c.take_three-first.ensures.target c.show.ensures
    c.args.tag c.in-Some.tag rises tagged c.in-Ok.item mid took
    (subst (λ (x : LineChanView). HasNoAct (operate x.held.logged.channel c.args.tag.seat None
    (Write c.args.what.to (Lit c.in-Ok.item.body)))) at
    (subst (λ n. HasNoAct (operate c.log_len-place-2.new.self.held.logged.channel n None
    (Write c.args.what.to (Lit c.in-Ok.item.body)))) (ap (λ (x : Tag). x.seat) tagged) none))

pub settle_line-requires-clause-there : goal.settle_line-requires-clause-there
settle_line-requires-clause-there g c =
    let chosen = c.choose-is_first.result in
    let shares : List SeatShareView = c.args.self.now in
    let has : Roles c.args.what chosen.is_first chosen.from chosen.reader chosen.other chosen.source chosen.unread
    shares = roles c.args.what chosen.is_first chosen.from chosen.reader chosen.other c.take_three-first.result.0
    c.take_three-first.result.1 chosen.source chosen.unread shares c.requires.apart
    (there _ _ _ _ _ refl c.requires.of refl c.requires.first)
    (there _ _ _ _ _ refl c.requires.of refl c.requires.second) c.take_three-first.ensures.first
    c.take_three-first.ensures.second c.requires.reads_first c.requires.reads_second c.choose-is_first.ensures.first
    c.choose-is_first.ensures.second in
    let lines : line_ids c.commit_op.new.self ≡ line_ids shares =
    c.commit_op.ensures.lines ∙ ap line_ids c.take_three-first.ensures.same in
    subst (λ k. chosen.from < k) (sym (same_long c.commit_op.new.self shares lines)) has.below

pub settle_line-requires-clause-line : goal.settle_line-requires-clause-line
settle_line-requires-clause-line g c =
    let chosen = c.choose-is_first.result in
    let shares : List SeatShareView = c.args.self.now in
    let has : Roles c.args.what chosen.is_first chosen.from chosen.reader chosen.other chosen.source chosen.unread
    shares = roles c.args.what chosen.is_first chosen.from chosen.reader chosen.other c.take_three-first.result.0
    c.take_three-first.result.1 chosen.source chosen.unread shares c.requires.apart
    (there _ _ _ _ _ refl c.requires.of refl c.requires.first)
    (there _ _ _ _ _ refl c.requires.of refl c.requires.second) c.take_three-first.ensures.first
    c.take_three-first.ensures.second c.requires.reads_first c.requires.reads_second c.choose-is_first.ensures.first
    c.choose-is_first.ensures.second in
    let same : c.log_len-place.new.self ≡ chosen.source = c.log_len-place.ensures.same ∙ c.stamp.ensures.same in
    let lines : line_ids c.commit_op.new.self ≡ line_ids shares =
    c.commit_op.ensures.lines ∙ ap line_ids c.take_three-first.ensures.same in
    c.take_item.ensures.line ∙ ap (λ (x : LineChanView). x.line) same ∙ has.is_source.line
    ∙ sym (same_line c.commit_op.new.self shares chosen.from lines)

pub settle_line-requires-clause-ready : goal.settle_line-requires-clause-ready
settle_line-requires-clause-ready g c =
    let chosen = c.choose-is_first.result in
    let shares : List SeatShareView = c.args.self.now in
    let has : Roles c.args.what chosen.is_first chosen.from chosen.reader chosen.other chosen.source chosen.unread
    shares = roles c.args.what chosen.is_first chosen.from chosen.reader chosen.other c.take_three-first.result.0
    c.take_three-first.result.1 chosen.source chosen.unread shares c.requires.apart
    (there _ _ _ _ _ refl c.requires.of refl c.requires.first)
    (there _ _ _ _ _ refl c.requires.of refl c.requires.second) c.take_three-first.ensures.first
    c.take_three-first.ensures.second c.requires.reads_first c.requires.reads_second c.choose-is_first.ensures.first
    c.choose-is_first.ensures.second in
    let s : Logged = chosen.source.held.logged in
    let l : Logged = chosen.unread.held.logged in
    let t : Logged = c.take_three-first.result.2.held.logged in
    let most : c.max-most-2.result ≡ max (max (max c.args.tag.stamp s.stamp) l.stamp) t.stamp =
    most_of_three c.args.tag.stamp s.stamp l.stamp t.stamp c.stamp.result c.stamp-2.result c.stamp-3.result
    c.max-most.result c.max.result c.max-most-2.result c.max-most.ensures c.stamp.ensures.value c.max.ensures
    c.stamp-2.ensures.value c.max-most-2.ensures c.stamp-3.ensures.value in
    let rises : (is_worn c.args.tag.serial
    || is_worn (max (max (max c.args.tag.stamp s.stamp) l.stamp) t.stamp)) ≡ false =
    subst (λ k. (is_worn c.args.tag.serial || is_worn k) ≡ false) most c.in-Some.ensures.some.0 in
    let tagged : c.in-Some.tag ≡ record {
      seat = c.args.tag.seat;
      serial = c.args.tag.serial;
      stamp = max (max (max c.args.tag.stamp s.stamp) l.stamp) t.stamp + 1;
    } = c.in-Some.ensures.some.1
    ∙ ap (λ k. record { seat = c.args.tag.seat; serial = c.args.tag.serial; stamp = k + 1 }) most in
    let same : c.log_len-place.new.self ≡ chosen.source = c.log_len-place.ensures.same ∙ c.stamp.ensures.same in
    let mid : Logged = c.take_item.new.source.held.logged in
    let took : op_on s c.in-Some.tag None (Read chosen.from chosen.reader) ≡ Left (Got c.in-Ok.item) mid =
    subst (λ (x : LineChanView). op_on x.held.logged c.in-Some.tag None (Read chosen.from chosen.reader)
    ≡ Left (Got c.in-Ok.item) mid) same
    (ok_so c.in_ok-item.field-0 c.in-Ok.item _ c.in-Ok.is c.in_ok-item.ensures.taken) in
    ready_source c.args.what chosen.is_first chosen.from chosen.reader chosen.other chosen.source chosen.unread
    c.take_three-first.result.2 shares has c.take_three-first.ensures.target c.show.ensures
    c.args.tag c.in-Some.tag rises tagged c.in-Ok.item mid took

pub settle_line-requires-2-clause-there : goal.settle_line-requires-2-clause-there
settle_line-requires-2-clause-there g c =
    let chosen = c.choose-is_first.result in
    let shares : List SeatShareView = c.args.self.now in
    let has : Roles c.args.what chosen.is_first chosen.from chosen.reader chosen.other chosen.source chosen.unread
    shares = roles c.args.what chosen.is_first chosen.from chosen.reader chosen.other c.take_three-first.result.0
    c.take_three-first.result.1 chosen.source chosen.unread shares c.requires.apart
    (there _ _ _ _ _ refl c.requires.of refl c.requires.first)
    (there _ _ _ _ _ refl c.requires.of refl c.requires.second) c.take_three-first.ensures.first
    c.take_three-first.ensures.second c.requires.reads_first c.requires.reads_second c.choose-is_first.ensures.first
    c.choose-is_first.ensures.second in
    let lines : line_ids c.settle_line.new.self ≡ line_ids shares =
    c.settle_line.ensures.lines ∙ c.commit_op.ensures.lines ∙ ap line_ids c.take_three-first.ensures.same in
    subst (λ k. chosen.other < k) (sym (same_long c.settle_line.new.self shares lines)) has.other_below

pub settle_line-requires-2-clause-line : goal.settle_line-requires-2-clause-line
settle_line-requires-2-clause-line g c =
    let chosen = c.choose-is_first.result in
    let shares : List SeatShareView = c.args.self.now in
    let has : Roles c.args.what chosen.is_first chosen.from chosen.reader chosen.other chosen.source chosen.unread
    shares = roles c.args.what chosen.is_first chosen.from chosen.reader chosen.other c.take_three-first.result.0
    c.take_three-first.result.1 chosen.source chosen.unread shares c.requires.apart
    (there _ _ _ _ _ refl c.requires.of refl c.requires.first)
    (there _ _ _ _ _ refl c.requires.of refl c.requires.second) c.take_three-first.ensures.first
    c.take_three-first.ensures.second c.requires.reads_first c.requires.reads_second c.choose-is_first.ensures.first
    c.choose-is_first.ensures.second in
    let lines : line_ids c.settle_line.new.self ≡ line_ids shares =
    c.settle_line.ensures.lines ∙ c.commit_op.ensures.lines ∙ ap line_ids c.take_three-first.ensures.same in
    ap (λ (x : LineChanView). x.line) c.stamp-2.ensures.same ∙ has.is_unread.line
    ∙ sym (same_line c.settle_line.new.self shares chosen.other lines)

pub settle_line-requires-2-clause-ready : goal.settle_line-requires-2-clause-ready
settle_line-requires-2-clause-ready g c =
    let chosen = c.choose-is_first.result in
    let shares : List SeatShareView = c.args.self.now in
    let has : Roles c.args.what chosen.is_first chosen.from chosen.reader chosen.other chosen.source chosen.unread
    shares = roles c.args.what chosen.is_first chosen.from chosen.reader chosen.other c.take_three-first.result.0
    c.take_three-first.result.1 chosen.source chosen.unread shares c.requires.apart
    (there _ _ _ _ _ refl c.requires.of refl c.requires.first)
    (there _ _ _ _ _ refl c.requires.of refl c.requires.second) c.take_three-first.ensures.first
    c.take_three-first.ensures.second c.requires.reads_first c.requires.reads_second c.choose-is_first.ensures.first
    c.choose-is_first.ensures.second in
    let s : Logged = chosen.source.held.logged in
    let l : Logged = chosen.unread.held.logged in
    let t : Logged = c.take_three-first.result.2.held.logged in
    let most : c.max-most-2.result ≡ max (max (max c.args.tag.stamp s.stamp) l.stamp) t.stamp =
    most_of_three c.args.tag.stamp s.stamp l.stamp t.stamp c.stamp.result c.stamp-2.result c.stamp-3.result
    c.max-most.result c.max.result c.max-most-2.result c.max-most.ensures c.stamp.ensures.value c.max.ensures
    c.stamp-2.ensures.value c.max-most-2.ensures c.stamp-3.ensures.value in
    let rises : (is_worn c.args.tag.serial
    || is_worn (max (max (max c.args.tag.stamp s.stamp) l.stamp) t.stamp)) ≡ false =
    subst (λ k. (is_worn c.args.tag.serial || is_worn k) ≡ false) most c.in-Some.ensures.some.0 in
    let tagged : c.in-Some.tag ≡ record {
      seat = c.args.tag.seat;
      serial = c.args.tag.serial;
      stamp = max (max (max c.args.tag.stamp s.stamp) l.stamp) t.stamp + 1;
    } = c.in-Some.ensures.some.1
    ∙ ap (λ k. record { seat = c.args.tag.seat; serial = c.args.tag.serial; stamp = k + 1 }) most in
    subst (λ (x : LineChanView). IsReady c.in-Some.tag.stamp x.held.logged) (sym c.stamp-2.ensures.same)
    (ready_unread c.args.what chosen.is_first chosen.from chosen.reader chosen.other chosen.source chosen.unread
    c.take_three-first.result.2 shares has c.take_three-first.ensures.target c.show.ensures
    c.args.tag c.in-Some.tag rises tagged)

pub returns-clause-done : goal.returns-clause-done
returns-clause-done g c is =
    let chosen = c.choose-is_first.result in
    let shares : List SeatShareView = c.args.self.now in
    let has : Roles c.args.what chosen.is_first chosen.from chosen.reader chosen.other chosen.source chosen.unread
    shares = roles c.args.what chosen.is_first chosen.from chosen.reader chosen.other c.take_three-first.result.0
    c.take_three-first.result.1 chosen.source chosen.unread shares c.requires.apart
    (there _ _ _ _ _ refl c.requires.of refl c.requires.first)
    (there _ _ _ _ _ refl c.requires.of refl c.requires.second) c.take_three-first.ensures.first
    c.take_three-first.ensures.second c.requires.reads_first c.requires.reads_second c.choose-is_first.ensures.first
    c.choose-is_first.ensures.second in
    let s : Logged = chosen.source.held.logged in
    let l : Logged = chosen.unread.held.logged in
    let t : Logged = c.take_three-first.result.2.held.logged in
    let most : c.max-most-2.result ≡ max (max (max c.args.tag.stamp s.stamp) l.stamp) t.stamp =
    most_of_three c.args.tag.stamp s.stamp l.stamp t.stamp c.stamp.result c.stamp-2.result c.stamp-3.result
    c.max-most.result c.max.result c.max-most-2.result c.max-most.ensures c.stamp.ensures.value c.max.ensures
    c.stamp-2.ensures.value c.max-most-2.ensures c.stamp-3.ensures.value in
    let rises : (is_worn c.args.tag.serial
    || is_worn (max (max (max c.args.tag.stamp s.stamp) l.stamp) t.stamp)) ≡ false =
    subst (λ k. (is_worn c.args.tag.serial || is_worn k) ≡ false) most c.in-Some.ensures.some.0 in
    let tagged : c.in-Some.tag ≡ record {
      seat = c.args.tag.seat;
      serial = c.args.tag.serial;
      stamp = max (max (max c.args.tag.stamp s.stamp) l.stamp) t.stamp + 1;
    } = c.in-Some.ensures.some.1
    ∙ ap (λ k. record { seat = c.args.tag.seat; serial = c.args.tag.serial; stamp = k + 1 }) most in
    let same : c.log_len-place.new.self ≡ chosen.source = c.log_len-place.ensures.same ∙ c.stamp.ensures.same in
    let mid : Logged = c.take_item.new.source.held.logged in
    let took : op_on s c.in-Some.tag None (Read chosen.from chosen.reader) ≡ Left (Got c.in-Ok.item) mid =
    subst (λ (x : LineChanView). op_on x.held.logged c.in-Some.tag None (Read chosen.from chosen.reader)
    ≡ Left (Got c.in-Ok.item) mid) same
    (ok_so c.in_ok-item.field-0 c.in-Ok.item _ c.in-Ok.is c.in_ok-item.ensures.taken) in
    let to = c.args.what.to in
    let kept : Tag = c.in-Some.tag in
    let act = c.in-Some-2.act in
    let write = Write to (Lit c.in-Ok.item.body) in
    let between : List SeatShareView = c.commit_op.new.self in
    let middle : List SeatShareView = c.settle_line.new.self in
    let after : List SeatShareView = c.settle_line-2.new.self in
    let s' : Logged = c.settle_line.new.source.held.logged in
    let l' : Logged = c.settle_line-2.new.source.held.logged in
    let t' : Logged = c.commit_op.new.line.held.logged in
    let at : c.log_len-place-2.new.self ≡ c.take_three-first.result.2 =
    c.log_len-place-2.ensures.same ∙ c.stamp-3.ensures.same in
    let seat : c.take_three-first.new.shares ≡ shares = c.take_three-first.ensures.same in
    let wrote : IsCommittedOp kept write act t t' =
    subst (λ (x : LineChanView). IsCommittedOp kept write act x.held.logged t') at
    (some_so c.in_ok-act.field-0 act _ c.in-Some-2.is c.in_ok-act.ensures.done) in
    let counts : CountsOne t t' kept (share_at shares to) (share_at between to) =
    subst (λ (x : List SeatShareView). CountsOne t t' kept (share_at x to) (share_at between to)) seat
    (subst (λ (x : LineChanView). CountsOne x.held.logged t' kept (share_at c.take_three-first.new.shares to)
    (share_at between to)) at
    (some_so c.in_ok-act.field-0 act _ c.in-Some-2.is c.in_ok-act.ensures.counts)) in
    let chose : HasChosen c.args.tag kept c.args.what chosen.from chosen.reader chosen.other c.in-Ok.item act s mid s' l
    l' t t' shares between middle after = record {
      rises = rises;
      tagged = tagged;
      took = took;
      wrote = wrote;
      counts = counts;
      settles = c.settle_line.ensures.settled;
      aside = subst (λ (x : LineChanView). IsSettled kept x.held.logged (share_at middle chosen.other) l'
          (share_at after chosen.other)) c.stamp-2.ensures.same c.settle_line-2.ensures.settled;
      first = subst (λ (x : List SeatShareView). between ≡ slice_set x to (share_at between to)) seat
          c.commit_op.ensures.others;
      second = c.settle_line.ensures.others;
      third = c.settle_line-2.ensures.others;
    } in
    let place : c.log_len-place.result ≡ length s.log =
    c.log_len-place.ensures.value ∙ ap (λ (x : LineChanView). length x.held.logged.log) c.stamp.ensures.same in
    let place' : c.log_len-place-2.result ≡ length t.log =
    c.log_len-place-2.ensures.value ∙ ap (λ (x : LineChanView). length x.held.logged.log) c.stamp-3.ensures.same in
    subst (λ (r : Receipt). IsCommittedChoice c.args.tag c.args.what shares after r)
    (sym (c.set_pair.ensures ∙ (λ j. pair_of kept
    (record { chan = chosen.from; place = place j; act = Took chosen.reader c.in-Ok.item })
    (record { chan = to; place = place' j; act = act }))))
    (committed_choice c.args.what chosen.is_first chosen.from chosen.reader chosen.other chosen.source chosen.unread
    c.take_three-first.result.2 shares has c.take_three-first.ensures.target c.show.ensures
    c.args.tag kept c.in-Ok.item act mid s' l' t' between middle after chose)
