use Rattle.txc_txn.proofs.open_transaction.OpenTransaction.roll_back.Goals as goal

pub returns-clause-back : goal.returns-clause-back
returns-clause-back g c before k = c.undo_all.ensures.back c.args.self.tag before
    (rw (c.as_slice.ensures.value, c.as_slice-2.ensures.value) k.1)
