use Rattle.txc_txn.proofs.savepoint.Savepoint.restore.Goals as goal

pub returns-clause-back : goal.returns-clause-back
returns-clause-back g c tag before marked = c.undo_all.ensures.back tag before (rw c.as_slice.ensures.value marked)
