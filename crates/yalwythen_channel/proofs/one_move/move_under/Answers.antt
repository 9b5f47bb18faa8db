use Rattle.std.proofs.Common.{◌≡◌, ◌∙◌, refl, sym, subst, arith, None, ℕ}
use Rattle.txc_base.specs.declared.cause.Cause.TheVariants.{Full}
use Rattle.txc_base.specs.declared.op.Op.TheVariants.{Read}
use Rattle.txc_base.specs.declared.reply.Reply.TheVariants.{Got}
use Rattle.txc_chan.specs.Logged.{Left, Logged, Waiting, op_on}
use Rattle.yalwythen_channel.specs.OneMove.{HasMovedItem}
use Rattle.yalwythen_channel.proofs.OneMove.{moved_so, took_grows, waits_to_read, waits_to_write}
use Rattle.yalwythen_channel.proofs.one_move.move_under.Goals as goal

pub returns-in-Ok-Retry : goal.returns-in-Ok-Retry
returns-in-Ok-Retry g c =
    let s : Logged = c.args.source.now.logged in let t : Logged = c.args.target.now.logged in
    let waits : op_on s c.args.kept None (Read 0 0) ≡ Waiting c.in-Ok-Retry.cause =
    rw c.in-Ok-Retry.field-0-is at c.in-Ok-Retry.ensures.ok in
    let same : c.apply.new.self.logged ≡ s = rw c.in-Ok-Retry.field-0-is at c.in-Ok-Retry.ensures.retry in
    record {
      moved = λ is. absurd (omega (arith, is, c.call_result.ensures.code));
      waits = λ is. (
        c.in-Ok-Retry.cause,
        waits_to_read c.args.kept c.in-Ok-Retry.cause s t c.requires.tagged c.requires.can waits,
        c.call_result.ensures.value ∙ c.cause_number.ensures,
      );
      unchanged = λ no. (same, refl);
    }

pub returns-in-Done : goal.returns-in-Done
returns-in-Done g c =
    let s : Logged = c.args.source.now.logged in let t : Logged = c.args.target.now.logged in
    let mid : Logged = c.apply.new.self.logged in
    let took : op_on s c.args.kept None (Read 0 0) ≡ Left (Got c.in-Ok-Replied-Got.item) mid =
    rw c.in-Ok-Replied-Got.field-0-0-is at (rw c.in-Ok-Replied-Got.field-0-is at c.in-Ok-Replied-Got.ensures.ok) in
    record {
      moved = λ is. subst (λ (n : ℕ). HasMovedItem s t c.settle.new.self.logged c.commit_write.new.self.logged n)
          (sym c.call_result-in-Done.ensures.value)
          (moved_so c.args.kept c.in-Ok-Replied-Got.item s mid t c.settle.new.self.logged c.commit_write.new.self.logged
          c.requires.tagged c.requires.can took c.settle.ensures (c.in-Done.ensures.done refl)
          (c.in-Done.ensures.settled refl).0 (c.in-Done.ensures.settled refl).1);
      waits = λ is. absurd (omega (arith, is, c.call_result-in-Done.ensures.code));
      unchanged = λ no. absurd (no c.call_result-in-Done.ensures.code);
    }

pub returns-in-Waits : goal.returns-in-Waits
returns-in-Waits g c =
    let s : Logged = c.args.source.now.logged in let t : Logged = c.args.target.now.logged in
    let mid : Logged = c.apply.new.self.logged in
    let took : op_on s c.args.kept None (Read 0 0) ≡ Left (Got c.in-Ok-Replied-Got.item) mid =
    rw c.in-Ok-Replied-Got.field-0-0-is at (rw c.in-Ok-Replied-Got.field-0-is at c.in-Ok-Replied-Got.ensures.ok) in
    let grew = took_grows s mid c.args.kept c.in-Ok-Replied-Got.item took in
    record {
      moved = λ is. absurd (omega (arith, is, c.call_result-in-Waits.ensures.code));
      waits = λ is. (
        Full,
        waits_to_write c.args.kept c.in-Ok-Replied-Got.item s mid t c.requires.tagged c.requires.can took
            (c.in-Waits.ensures.waits refl),
        c.call_result-in-Waits.ensures.value,
      );
      unchanged = λ no. (
        c.take_back.ensures c.args.kept s c.requires.lawful grew.0 grew.1,
        c.in-Waits.ensures.same (λ is. cc),
      );
    }

pub returns-in-NoMemory : goal.returns-in-NoMemory
returns-in-NoMemory g c =
    let s : Logged = c.args.source.now.logged in
    let mid : Logged = c.apply.new.self.logged in
    let took : op_on s c.args.kept None (Read 0 0) ≡ Left (Got c.in-Ok-Replied-Got.item) mid =
    rw c.in-Ok-Replied-Got.field-0-0-is at (rw c.in-Ok-Replied-Got.field-0-is at c.in-Ok-Replied-Got.ensures.ok) in
    let grew = took_grows s mid c.args.kept c.in-Ok-Replied-Got.item took in
    record {
      moved = λ is. absurd (omega (arith, is, c.call_result-in-NoMemory.ensures.code));
      waits = λ is. absurd (omega (arith, is, c.call_result-in-NoMemory.ensures.code));
      unchanged = λ no. (
        c.take_back-in-NoMemory.ensures c.args.kept s c.requires.lawful grew.0 grew.1,
        c.in-NoMemory.ensures.same (λ is. cc),
      );
    }

pub returns-in-Closed : goal.returns-in-Closed
returns-in-Closed g c =
    let s : Logged = c.args.source.now.logged in
    let mid : Logged = c.apply.new.self.logged in
    let took : op_on s c.args.kept None (Read 0 0) ≡ Left (Got c.in-Ok-Replied-Got.item) mid =
    rw c.in-Ok-Replied-Got.field-0-0-is at (rw c.in-Ok-Replied-Got.field-0-is at c.in-Ok-Replied-Got.ensures.ok) in
    let grew = took_grows s mid c.args.kept c.in-Ok-Replied-Got.item took in
    record {
      moved = λ is. absurd (omega (arith, is, c.not_at_once-in-Closed.ensures));
      waits = λ is. absurd (omega (arith, is, c.not_at_once-in-Closed.ensures));
      unchanged = λ no. (
        c.take_back-in-Closed.ensures c.args.kept s c.requires.lawful grew.0 grew.1,
        c.in-Closed.ensures.same (λ is. cc),
      );
    }
