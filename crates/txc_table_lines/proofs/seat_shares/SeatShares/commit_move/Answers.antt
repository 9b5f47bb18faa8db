use Rattle.std.proofs.Common.{refl, ◌≡◌, ◌≢◌, ◌∙◌, sym, ap, subst, ◌||◌, true, max, None, List, length, slice_set}
use Rattle.txc_base.specs.declared.act.Act.TheVariants.{Took}
use Rattle.txc_base.specs.declared.item.Item.{Item}
use Rattle.txc_base.specs.declared.op.Op.TheVariants.{Read, Write}
use Rattle.txc_base.specs.declared.reply.Reply.TheVariants.{Got}
use Rattle.txc_base.specs.declared.source.Source.TheVariants.{Lit}
use Rattle.txc_base.specs.declared.tag.Tag.{Tag}
use Rattle.txc_base.specs.Operation.{Waits, operate}
use Rattle.txc_chan.specs.Committed.{HasNoAct, IsCommittedOp}
use Rattle.txc_chan.specs.Logged.{Left, Logged, op_on}
use Rattle.txc_txn.specs.declared.receipt.Receipt.{Receipt}
use Rattle.txc_txn.specs.Transaction.{is_worn}
use Rattle.txc_txn.specs.TwoOperations.{pair_of}
use Rattle.txc_txn.proofs.Once.{none_so, some_so}
use Rattle.txc_table_line.specs.Commit.{CountsOne}
use Rattle.txc_table_line.specs.LineChan.{LineChanView}
use Rattle.txc_table_line.specs.SeatShare.{SeatShareView}
use Rattle.txc_table_lines.specs.Lines.{share_at}
use Rattle.txc_table_lines.specs.TwoOperations.{IsCommittedMove}
use Rattle.txc_table_lines.proofs.OneCommit.{found_logged}
use Rattle.txc_table_lines.proofs.TwoCommit.{Begins, HasMoved, begins_move, committed_move, err_so, most_is, ok_so}
use Rattle.txc_table_lines.proofs.TwoCommit.{read_none, read_retries, ready_to_settle, worn_move, write_none}
use Rattle.txc_table_lines.proofs.TwoCommit.{write_retries}
use Rattle.txc_table_lines.proofs.seat_shares.SeatShares.commit_move.Goals as goal

pub returns-in_default-clause-once : goal.returns-in_default-clause-once
returns-in_default-clause-once g c not =
    let source : LineChanView = c.take_both-source.result.0 in
    let target : LineChanView = c.take_both-source.result.1 in
    let s : Logged = source.held.logged in
    let t : Logged = target.held.logged in
    let most : c.max-most.result ≡ max (max c.args.tag.stamp s.stamp) t.stamp =
    most_is c.args.tag.stamp s.stamp t.stamp c.stamp.result c.stamp-2.result c.max.result c.max-most.result
    c.max.ensures c.stamp.ensures.value c.max-most.ensures c.stamp-2.ensures.value in
    worn_move c.args.tag c.args.what.from c.args.what.reader c.args.what.to s t c.args.self.now c.show.ensures
    c.requires.apart (found_logged _ _ c.take_both-source.ensures.one)
    (found_logged _ _ c.take_both-source.ensures.other)
    (subst (λ k. (is_worn c.args.tag.serial || is_worn k) ≡ true) most c.in_default.ensures.none)

pub returns-in-Err-clause-retry : goal.returns-in-Err-clause-retry
returns-in-Err-clause-retry g c cause is =
    let source : LineChanView = c.take_both-source.result.0 in
    let target : LineChanView = c.take_both-source.result.1 in
    let s : Logged = source.held.logged in
    let t : Logged = target.held.logged in
    let most : c.max-most.result ≡ max (max c.args.tag.stamp s.stamp) t.stamp =
    most_is c.args.tag.stamp s.stamp t.stamp c.stamp.result c.stamp-2.result c.max.result c.max-most.result
    c.max.ensures c.stamp.ensures.value c.max-most.ensures c.stamp-2.ensures.value in
    let begins : Begins c.args.tag c.in-Some.tag c.args.what.from c.args.what.to s t c.args.self.now =
    begins_move c.args.tag c.in-Some.tag c.args.what.from c.args.what.to c.max-most.result source target
    c.args.self.now c.requires.apart c.take_both-source.ensures.one c.take_both-source.ensures.other most
    c.in-Some.ensures.some in
    let same : c.log_len-place.new.self ≡ source = c.log_len-place.ensures.same ∙ c.stamp.ensures.same in
    let waits : operate s.channel c.in-Some.tag.seat None (Read c.args.what.from c.args.what.reader) ≡ Waits cause =
    subst (λ (x : LineChanView). operate x.held.logged.channel c.in-Some.tag.seat None
    (Read c.args.what.from c.args.what.reader) ≡ Waits cause) same
    (err_so c.in_ok-item.field-0 c.in-Err.ended _ c.in-Err.is (c.in_ok-item.ensures.waits cause) is) in
    read_retries c.args.tag c.in-Some.tag c.args.what.from c.args.what.reader c.args.what.to s t c.args.self.now cause
    c.show.ensures begins waits

pub returns-in-Err-clause-once : goal.returns-in-Err-clause-once
returns-in-Err-clause-once g c not =
    let source : LineChanView = c.take_both-source.result.0 in
    let target : LineChanView = c.take_both-source.result.1 in
    let s : Logged = source.held.logged in
    let t : Logged = target.held.logged in
    let most : c.max-most.result ≡ max (max c.args.tag.stamp s.stamp) t.stamp =
    most_is c.args.tag.stamp s.stamp t.stamp c.stamp.result c.stamp-2.result c.max.result c.max-most.result
    c.max.ensures c.stamp.ensures.value c.max-most.ensures c.stamp-2.ensures.value in
    let begins : Begins c.args.tag c.in-Some.tag c.args.what.from c.args.what.to s t c.args.self.now =
    begins_move c.args.tag c.in-Some.tag c.args.what.from c.args.what.to c.max-most.result source target
    c.args.self.now c.requires.apart c.take_both-source.ensures.one c.take_both-source.ensures.other most
    c.in-Some.ensures.some in
    let same : c.log_len-place.new.self ≡ source = c.log_len-place.ensures.same ∙ c.stamp.ensures.same in
    read_none c.args.tag c.in-Some.tag c.args.what.from c.args.what.reader c.args.what.to s t c.args.self.now
    c.show.ensures begins
    (subst (λ (x : LineChanView). (item : Item) (left : Logged) → op_on x.held.logged c.in-Some.tag None
    (Read c.args.what.from c.args.what.reader) ≢ Left (Got item) left) same
    (err_so c.in_ok-item.field-0 c.in-Err.ended _ c.in-Err.is c.in_ok-item.ensures.none))

pub returns-in_default-2-clause-retry : goal.returns-in_default-2-clause-retry
returns-in_default-2-clause-retry g c cause is =
    let source : LineChanView = c.take_both-source.result.0 in
    let target : LineChanView = c.take_both-source.result.1 in
    let s : Logged = source.held.logged in
    let t : Logged = target.held.logged in
    let most : c.max-most.result ≡ max (max c.args.tag.stamp s.stamp) t.stamp =
    most_is c.args.tag.stamp s.stamp t.stamp c.stamp.result c.stamp-2.result c.max.result c.max-most.result
    c.max.ensures c.stamp.ensures.value c.max-most.ensures c.stamp-2.ensures.value in
    let begins : Begins c.args.tag c.in-Some.tag c.args.what.from c.args.what.to s t c.args.self.now =
    begins_move c.args.tag c.in-Some.tag c.args.what.from c.args.what.to c.max-most.result source target
    c.args.self.now c.requires.apart c.take_both-source.ensures.one c.take_both-source.ensures.other most
    c.in-Some.ensures.some in
    let same : c.log_len-place.new.self ≡ source = c.log_len-place.ensures.same ∙ c.stamp.ensures.same in
    let mid : Logged = c.take_item.new.source.held.logged in
    let took : op_on s c.in-Some.tag None (Read c.args.what.from c.args.what.reader) ≡ Left (Got c.in-Ok.item) mid =
    subst (λ (x : LineChanView). op_on x.held.logged c.in-Some.tag None (Read c.args.what.from c.args.what.reader)
    ≡ Left (Got c.in-Ok.item) mid) same
    (ok_so c.in_ok-item.field-0 c.in-Ok.item _ c.in-Ok.is c.in_ok-item.ensures.taken) in
    let there : c.log_len-place-2.new.self ≡ target = c.log_len-place-2.ensures.same ∙ c.stamp-2.ensures.same in
    let unchanged : c.commit_op.new.line.held.logged ≡ t =
    (none_so c.in_ok-act.field-0 c.in_default-2.is c.in_ok-act.ensures.left).0
    ∙ ap (λ (x : LineChanView). x.held.logged) there in
    write_retries c.args.tag c.in-Some.tag c.args.what.from c.args.what.reader c.args.what.to c.in-Ok.item s mid t
    c.args.self.now cause c.show.ensures begins took
    (subst (λ (x : Logged). operate x.channel c.args.tag.seat None (Write c.args.what.to (Lit c.in-Ok.item.body))
    ≡ Waits cause) unchanged (c.without_act.ensures.waits c.args.tag.seat cause is))

pub returns-in_default-2-clause-once : goal.returns-in_default-2-clause-once
returns-in_default-2-clause-once g c not =
    let source : LineChanView = c.take_both-source.result.0 in
    let target : LineChanView = c.take_both-source.result.1 in
    let s : Logged = source.held.logged in
    let t : Logged = target.held.logged in
    let most : c.max-most.result ≡ max (max c.args.tag.stamp s.stamp) t.stamp =
    most_is c.args.tag.stamp s.stamp t.stamp c.stamp.result c.stamp-2.result c.max.result c.max-most.result
    c.max.ensures c.stamp.ensures.value c.max-most.ensures c.stamp-2.ensures.value in
    let begins : Begins c.args.tag c.in-Some.tag c.args.what.from c.args.what.to s t c.args.self.now =
    begins_move c.args.tag c.in-Some.tag c.args.what.from c.args.what.to c.max-most.result source target
    c.args.self.now c.requires.apart c.take_both-source.ensures.one c.take_both-source.ensures.other most
    c.in-Some.ensures.some in
    let same : c.log_len-place.new.self ≡ source = c.log_len-place.ensures.same ∙ c.stamp.ensures.same in
    let mid : Logged = c.take_item.new.source.held.logged in
    let took : op_on s c.in-Some.tag None (Read c.args.what.from c.args.what.reader) ≡ Left (Got c.in-Ok.item) mid =
    subst (λ (x : LineChanView). op_on x.held.logged c.in-Some.tag None (Read c.args.what.from c.args.what.reader)
    ≡ Left (Got c.in-Ok.item) mid) same
    (ok_so c.in_ok-item.field-0 c.in-Ok.item _ c.in-Ok.is c.in_ok-item.ensures.taken) in
    let there : c.log_len-place-2.new.self ≡ target = c.log_len-place-2.ensures.same ∙ c.stamp-2.ensures.same in
    let none : HasNoAct (operate c.log_len-place-2.new.self.held.logged.channel c.in-Some.tag.seat None
    (Write c.args.what.to (Lit c.in-Ok.item.body))) =
    none_so c.in_ok-act.field-0 c.in_default-2.is (c.in_ok-act.ensures.none refl) in
    write_none c.args.tag c.in-Some.tag c.args.what.from c.args.what.reader c.args.what.to c.in-Ok.item s mid t
    c.args.self.now c.show.ensures begins took
    (subst (λ (x : LineChanView). HasNoAct (operate x.held.logged.channel c.args.tag.seat None
    (Write c.args.what.to (Lit c.in-Ok.item.body)))) there
    (subst (λ n. HasNoAct (operate c.log_len-place-2.new.self.held.logged.channel n None
    (Write c.args.what.to (Lit c.in-Ok.item.body)))) (ap (λ (x : Tag). x.seat) begins.tagged) none))

pub settle_line-requires-clause-ready : goal.settle_line-requires-clause-ready
settle_line-requires-clause-ready g c =
    let source : LineChanView = c.take_both-source.result.0 in
    let target : LineChanView = c.take_both-source.result.1 in
    let s : Logged = source.held.logged in
    let t : Logged = target.held.logged in
    let most : c.max-most.result ≡ max (max c.args.tag.stamp s.stamp) t.stamp =
    most_is c.args.tag.stamp s.stamp t.stamp c.stamp.result c.stamp-2.result c.max.result c.max-most.result
    c.max.ensures c.stamp.ensures.value c.max-most.ensures c.stamp-2.ensures.value in
    let begins : Begins c.args.tag c.in-Some.tag c.args.what.from c.args.what.to s t c.args.self.now =
    begins_move c.args.tag c.in-Some.tag c.args.what.from c.args.what.to c.max-most.result source target
    c.args.self.now c.requires.apart c.take_both-source.ensures.one c.take_both-source.ensures.other most
    c.in-Some.ensures.some in
    let same : c.log_len-place.new.self ≡ source = c.log_len-place.ensures.same ∙ c.stamp.ensures.same in
    let mid : Logged = c.take_item.new.source.held.logged in
    let took : op_on s c.in-Some.tag None (Read c.args.what.from c.args.what.reader) ≡ Left (Got c.in-Ok.item) mid =
    subst (λ (x : LineChanView). op_on x.held.logged c.in-Some.tag None (Read c.args.what.from c.args.what.reader)
    ≡ Left (Got c.in-Ok.item) mid) same
    (ok_so c.in_ok-item.field-0 c.in-Ok.item _ c.in-Ok.is c.in_ok-item.ensures.taken) in
    ready_to_settle c.args.tag c.in-Some.tag c.args.what.from c.args.what.reader c.args.what.to c.in-Ok.item s mid t
    c.args.self.now begins took

pub returns-clause-done : goal.returns-clause-done
returns-clause-done g c is =
    let source : LineChanView = c.take_both-source.result.0 in
    let target : LineChanView = c.take_both-source.result.1 in
    let s : Logged = source.held.logged in
    let t : Logged = target.held.logged in
    let most : c.max-most.result ≡ max (max c.args.tag.stamp s.stamp) t.stamp =
    most_is c.args.tag.stamp s.stamp t.stamp c.stamp.result c.stamp-2.result c.max.result c.max-most.result
    c.max.ensures c.stamp.ensures.value c.max-most.ensures c.stamp-2.ensures.value in
    let begins : Begins c.args.tag c.in-Some.tag c.args.what.from c.args.what.to s t c.args.self.now =
    begins_move c.args.tag c.in-Some.tag c.args.what.from c.args.what.to c.max-most.result source target
    c.args.self.now c.requires.apart c.take_both-source.ensures.one c.take_both-source.ensures.other most
    c.in-Some.ensures.some in
    let same : c.log_len-place.new.self ≡ source = c.log_len-place.ensures.same ∙ c.stamp.ensures.same in
    let mid : Logged = c.take_item.new.source.held.logged in
    let took : op_on s c.in-Some.tag None (Read c.args.what.from c.args.what.reader) ≡ Left (Got c.in-Ok.item) mid =
    subst (λ (x : LineChanView). op_on x.held.logged c.in-Some.tag None (Read c.args.what.from c.args.what.reader)
    ≡ Left (Got c.in-Ok.item) mid) same
    (ok_so c.in_ok-item.field-0 c.in-Ok.item _ c.in-Ok.is c.in_ok-item.ensures.taken) in
    let there : c.log_len-place-2.new.self ≡ target = c.log_len-place-2.ensures.same ∙ c.stamp-2.ensures.same in
    let from = c.args.what.from in
    let to = c.args.what.to in
    let kept : Tag = c.in-Some.tag in
    let act = c.in-Some-2.act in
    let write = Write to (Lit c.in-Ok.item.body) in
    let shares : List SeatShareView = c.args.self.now in
    let between : List SeatShareView = c.commit_op.new.self in
    let after : List SeatShareView = c.settle_line.new.self in
    let t' : Logged = c.commit_op.new.line.held.logged in
    let s' : Logged = c.settle_line.new.source.held.logged in
    let seat : c.take_both-source.new.shares ≡ shares = c.take_both-source.ensures.same in
    let wrote : IsCommittedOp kept write act t t' =
    subst (λ (x : LineChanView). IsCommittedOp kept write act x.held.logged t') there
    (some_so c.in_ok-act.field-0 act _ c.in-Some-2.is c.in_ok-act.ensures.done) in
    let counts : CountsOne t t' kept (share_at shares to) (share_at between to) =
    subst (λ (x : List SeatShareView). CountsOne t t' kept (share_at x to) (share_at between to)) seat
    (subst (λ (x : LineChanView). CountsOne x.held.logged t' kept (share_at c.take_both-source.new.shares to)
    (share_at between to)) there
    (some_so c.in_ok-act.field-0 act _ c.in-Some-2.is c.in_ok-act.ensures.counts)) in
    let has : HasMoved c.args.tag kept from c.args.what.reader to c.in-Ok.item act s mid s' t t' shares between after =
    record {
      begins = begins;
      took = took;
      wrote = wrote;
      counts = counts;
      settles = c.settle_line.ensures.settled;
      first = subst (λ (x : List SeatShareView). between ≡ slice_set x to (share_at between to)) seat
          c.commit_op.ensures.others;
      second = c.settle_line.ensures.others;
    } in
    let place : c.log_len-place.result ≡ length s.log =
    c.log_len-place.ensures.value ∙ ap (λ (x : LineChanView). length x.held.logged.log) c.stamp.ensures.same in
    let place' : c.log_len-place-2.result ≡ length t.log =
    c.log_len-place-2.ensures.value ∙ ap (λ (x : LineChanView). length x.held.logged.log) c.stamp-2.ensures.same in
    subst (λ (r : Receipt). IsCommittedMove c.args.tag from c.args.what.reader to shares after r)
    (sym (c.set_pair.ensures ∙ (λ j. pair_of kept
    (record { chan = from; place = place j; act = Took c.args.what.reader c.in-Ok.item })
    (record { chan = to; place = place' j; act = act }))))
    (committed_move c.args.tag kept from c.args.what.reader to c.in-Ok.item act s mid s' t t' shares between after has
    c.show.ensures)
