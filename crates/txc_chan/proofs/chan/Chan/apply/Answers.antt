-- A peek, whatever the tag.
use Rattle.std.proofs.Common.{◌≡◌, ◌≢◌, sym, subst, IfOk, IfErr}
use Rattle.txc_base.specs.declared.stop.Stop.TheVariants.{NoMemory}
use Rattle.txc_chan.specs.Logged.{op_on, did, Stopped}
use Rattle.txc_chan.proofs.chan.Chan.apply.Goals as goal

pub returns-in-Peek-clause-ok : goal.returns-in-Peek-clause-ok
returns-in-Peek-clause-ok g c =
    subst (λ op. IfOk c.peek.result
    (λ a. op_on c.args.self.now.logged c.args.tag c.args.last op ≡ did a c.args.self.now.logged))
    (sym c.in-Peek.is) (c.peek.ensures.ok c.args.tag)

pub returns-in-Peek-clause-err : goal.returns-in-Peek-clause-err
returns-in-Peek-clause-err g c =
    subst (λ op. IfErr c.peek.result (λ e. e ≢ NoMemory → op_on c.args.self.now.logged c.args.tag c.args.last op
    ≡ Stopped e)) (sym c.in-Peek.is) (c.peek.ensures.err c.args.tag)

pub returns-in-TryPeek-clause-ok : goal.returns-in-TryPeek-clause-ok
returns-in-TryPeek-clause-ok g c =
    subst (λ op. IfOk c.peek-in-TryPeek.result
    (λ a. op_on c.args.self.now.logged c.args.tag c.args.last op ≡ did a c.args.self.now.logged))
    (sym c.in-TryPeek.is) (c.peek-in-TryPeek.ensures.ok c.args.tag)

pub returns-in-TryPeek-clause-err : goal.returns-in-TryPeek-clause-err
returns-in-TryPeek-clause-err g c =
    subst (λ op. IfErr c.peek-in-TryPeek.result
    (λ e. e ≢ NoMemory → op_on c.args.self.now.logged c.args.tag c.args.last op ≡ Stopped e))
    (sym c.in-TryPeek.is) (c.peek-in-TryPeek.ensures.err c.args.tag)

pub returns-in-Write-clause-ok : goal.returns-in-Write-clause-ok
returns-in-Write-clause-ok g c = rw (c.in-Write.is, ← c.body_from.ensures) c.write.ensures.ok

pub returns-in-Write-clause-err : goal.returns-in-Write-clause-err
returns-in-Write-clause-err g c = rw (c.in-Write.is, ← c.body_from.ensures) c.write.ensures.err

pub returns-in-Write-clause-memory : goal.returns-in-Write-clause-memory
returns-in-Write-clause-memory g c = rw (c.in-Write.is, ← c.body_from.ensures) c.write.ensures.memory

pub returns-in-Write-clause-retry : goal.returns-in-Write-clause-retry
returns-in-Write-clause-retry g c = c.write.ensures.retry

pub returns-in-Write-clause-unchanged : goal.returns-in-Write-clause-unchanged
returns-in-Write-clause-unchanged g c = c.write.ensures.unchanged

pub returns-in-Write-clause-shelf : goal.returns-in-Write-clause-shelf
returns-in-Write-clause-shelf g c = c.write.ensures.shelf

pub returns-in-TryWrite-clause-ok : goal.returns-in-TryWrite-clause-ok
returns-in-TryWrite-clause-ok g c = rw (c.in-TryWrite.is, ← c.body_from-in-TryWrite.ensures)
    c.write-in-TryWrite.ensures.ok

pub returns-in-TryWrite-clause-err : goal.returns-in-TryWrite-clause-err
returns-in-TryWrite-clause-err g c = rw (c.in-TryWrite.is, ← c.body_from-in-TryWrite.ensures)
    c.write-in-TryWrite.ensures.err

pub returns-in-TryWrite-clause-memory : goal.returns-in-TryWrite-clause-memory
returns-in-TryWrite-clause-memory g c = rw (c.in-TryWrite.is, ← c.body_from-in-TryWrite.ensures)
    c.write-in-TryWrite.ensures.memory

pub returns-in-TryWrite-clause-retry : goal.returns-in-TryWrite-clause-retry
returns-in-TryWrite-clause-retry g c = c.write-in-TryWrite.ensures.retry

pub returns-in-TryWrite-clause-unchanged : goal.returns-in-TryWrite-clause-unchanged
returns-in-TryWrite-clause-unchanged g c = c.write-in-TryWrite.ensures.unchanged

pub returns-in-TryWrite-clause-shelf : goal.returns-in-TryWrite-clause-shelf
returns-in-TryWrite-clause-shelf g c = c.write-in-TryWrite.ensures.shelf

pub returns-in-Read-clause-ok : goal.returns-in-Read-clause-ok
returns-in-Read-clause-ok g c = rw c.in-Read.is c.take.ensures.ok

pub returns-in-Read-clause-err : goal.returns-in-Read-clause-err
returns-in-Read-clause-err g c = rw c.in-Read.is c.take.ensures.err

pub returns-in-Read-clause-memory : goal.returns-in-Read-clause-memory
returns-in-Read-clause-memory g c = rw c.in-Read.is c.take.ensures.memory

pub returns-in-Read-clause-retry : goal.returns-in-Read-clause-retry
returns-in-Read-clause-retry g c = c.take.ensures.retry

pub returns-in-Read-clause-unchanged : goal.returns-in-Read-clause-unchanged
returns-in-Read-clause-unchanged g c = c.take.ensures.unchanged

pub returns-in-Read-clause-shelf : goal.returns-in-Read-clause-shelf
returns-in-Read-clause-shelf g c = c.take.ensures.shelf

pub returns-in-TryRead-clause-ok : goal.returns-in-TryRead-clause-ok
returns-in-TryRead-clause-ok g c = rw c.in-TryRead.is c.take-in-TryRead.ensures.ok

pub returns-in-TryRead-clause-err : goal.returns-in-TryRead-clause-err
returns-in-TryRead-clause-err g c = rw c.in-TryRead.is c.take-in-TryRead.ensures.err

pub returns-in-TryRead-clause-memory : goal.returns-in-TryRead-clause-memory
returns-in-TryRead-clause-memory g c = rw c.in-TryRead.is c.take-in-TryRead.ensures.memory

pub returns-in-TryRead-clause-retry : goal.returns-in-TryRead-clause-retry
returns-in-TryRead-clause-retry g c = c.take-in-TryRead.ensures.retry

pub returns-in-TryRead-clause-unchanged : goal.returns-in-TryRead-clause-unchanged
returns-in-TryRead-clause-unchanged g c = c.take-in-TryRead.ensures.unchanged

pub returns-in-TryRead-clause-shelf : goal.returns-in-TryRead-clause-shelf
returns-in-TryRead-clause-shelf g c = c.take-in-TryRead.ensures.shelf

pub returns-in-PutBack-clause-ok : goal.returns-in-PutBack-clause-ok
returns-in-PutBack-clause-ok g c = rw (c.in-PutBack.is, ← c.body_from-in-PutBack.ensures) c.put_back.ensures.ok

pub returns-in-PutBack-clause-err : goal.returns-in-PutBack-clause-err
returns-in-PutBack-clause-err g c = rw (c.in-PutBack.is, ← c.body_from-in-PutBack.ensures) c.put_back.ensures.err

pub returns-in-PutBack-clause-memory : goal.returns-in-PutBack-clause-memory
returns-in-PutBack-clause-memory g c = rw (c.in-PutBack.is, ← c.body_from-in-PutBack.ensures) c.put_back.ensures.memory

pub returns-in-PutBack-clause-retry : goal.returns-in-PutBack-clause-retry
returns-in-PutBack-clause-retry g c = c.put_back.ensures.retry

pub returns-in-PutBack-clause-unchanged : goal.returns-in-PutBack-clause-unchanged
returns-in-PutBack-clause-unchanged g c = c.put_back.ensures.unchanged

pub returns-in-PutBack-clause-shelf : goal.returns-in-PutBack-clause-shelf
returns-in-PutBack-clause-shelf g c = c.put_back.ensures.shelf

pub returns-in-Dup-clause-ok : goal.returns-in-Dup-clause-ok
returns-in-Dup-clause-ok g c = rw c.in-Dup.is c.dup.ensures.ok

pub returns-in-Dup-clause-err : goal.returns-in-Dup-clause-err
returns-in-Dup-clause-err g c = rw c.in-Dup.is c.dup.ensures.err

pub returns-in-Dup-clause-memory : goal.returns-in-Dup-clause-memory
returns-in-Dup-clause-memory g c = rw c.in-Dup.is c.dup.ensures.memory

pub returns-in-Dup-clause-retry : goal.returns-in-Dup-clause-retry
returns-in-Dup-clause-retry g c = c.dup.ensures.retry

pub returns-in-Dup-clause-unchanged : goal.returns-in-Dup-clause-unchanged
returns-in-Dup-clause-unchanged g c = c.dup.ensures.unchanged

pub returns-in-Dup-clause-shelf : goal.returns-in-Dup-clause-shelf
returns-in-Dup-clause-shelf g c = c.dup.ensures.shelf

pub returns-in-CloneReader-clause-ok : goal.returns-in-CloneReader-clause-ok
returns-in-CloneReader-clause-ok g c = rw c.in-CloneReader.is c.clone_reader.ensures.ok

pub returns-in-CloneReader-clause-err : goal.returns-in-CloneReader-clause-err
returns-in-CloneReader-clause-err g c = rw c.in-CloneReader.is c.clone_reader.ensures.err

pub returns-in-CloneReader-clause-memory : goal.returns-in-CloneReader-clause-memory
returns-in-CloneReader-clause-memory g c = rw c.in-CloneReader.is c.clone_reader.ensures.memory

pub returns-in-CloneReader-clause-retry : goal.returns-in-CloneReader-clause-retry
returns-in-CloneReader-clause-retry g c = c.clone_reader.ensures.retry

pub returns-in-CloneReader-clause-unchanged : goal.returns-in-CloneReader-clause-unchanged
returns-in-CloneReader-clause-unchanged g c = c.clone_reader.ensures.unchanged

pub returns-in-CloneReader-clause-shelf : goal.returns-in-CloneReader-clause-shelf
returns-in-CloneReader-clause-shelf g c = c.clone_reader.ensures.shelf

pub returns-in-Close-clause-ok : goal.returns-in-Close-clause-ok
returns-in-Close-clause-ok g c = rw c.in-Close.is c.close.ensures.ok

pub returns-in-Close-clause-retry : goal.returns-in-Close-clause-retry
returns-in-Close-clause-retry g c = c.close.ensures.retry

pub returns-in-Close-clause-shelf : goal.returns-in-Close-clause-shelf
returns-in-Close-clause-shelf g c = c.close.ensures.shelf

pub returns-in-Flush-clause-retry : goal.returns-in-Flush-clause-retry
returns-in-Flush-clause-retry g c = c.flush.ensures.retry

pub returns-in-Flush-clause-shelf : goal.returns-in-Flush-clause-shelf
returns-in-Flush-clause-shelf g c = c.flush.ensures.shelf
