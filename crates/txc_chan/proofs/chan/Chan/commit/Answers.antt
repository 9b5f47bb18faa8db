use Rattle.std.proofs.Common.{arith}
use Rattle.txc_base.specs.declared.cause.Cause.TheVariants.{Empty, Full}
use Rattle.txc_base.specs.declared.reply.Reply.TheVariants as reply
use Rattle.txc_base.specs.declared.reply.Reply.{Reply}
use Rattle.txc_base.specs.Channel.{Channel}
use Rattle.txc_base.specs.Operation.{Waits, says}
use Rattle.txc_chan.specs.Committed.{HasNoAct}
use Rattle.txc_chan.proofs.chan.Chan.commit.Goals as goal

-- what only replies has no act
says_none : (answer : Reply) (c : Channel) → HasNoAct (says answer c)
says_none answer c has = omega (arith, has)

pub returns-in-Read-clause-done : goal.returns-in-Read-clause-done
returns-in-Read-clause-done g c = rw c.in-Read.is (c.commit_next.ensures.done (Waits Empty))

pub returns-in-TryRead-clause-done : goal.returns-in-TryRead-clause-done
returns-in-TryRead-clause-done g c = rw c.in-TryRead.is (c.commit_next-in-TryRead.ensures.done
    (says reply.Empty c.args.self.now.logged.channel))

pub returns-in-Write-clause-done : goal.returns-in-Write-clause-done
returns-in-Write-clause-done g c = rw c.in-Write.is (c.commit_body.ensures.done (Waits Full))

pub returns-in-TryWrite-clause-done : goal.returns-in-TryWrite-clause-done
returns-in-TryWrite-clause-done g c = rw c.in-TryWrite.is (c.commit_body-in-TryWrite.ensures.done
    (says reply.Full c.args.self.now.logged.channel))

pub returns-in-Read-clause-none : goal.returns-in-Read-clause-none
returns-in-Read-clause-none g c moves = rw c.in-Read.is (c.commit_next.ensures.none (Waits Empty) (λ has. has))

pub returns-in-TryRead-clause-none : goal.returns-in-TryRead-clause-none
returns-in-TryRead-clause-none g c moves =
    rw c.in-TryRead.is (c.commit_next-in-TryRead.ensures.none (says reply.Empty c.args.self.now.logged.channel)
    (says_none reply.Empty c.args.self.now.logged.channel))

pub returns-in-Write-clause-none : goal.returns-in-Write-clause-none
returns-in-Write-clause-none g c moves = rw c.in-Write.is (c.commit_body.ensures.none (Waits Full) (λ has. has))

pub returns-in-TryWrite-clause-none : goal.returns-in-TryWrite-clause-none
returns-in-TryWrite-clause-none g c moves =
    rw c.in-TryWrite.is (c.commit_body-in-TryWrite.ensures.none (says reply.Full c.args.self.now.logged.channel)
    (says_none reply.Full c.args.self.now.logged.channel))
