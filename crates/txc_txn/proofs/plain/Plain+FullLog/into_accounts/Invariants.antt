use Rattle.std.proofs.Common.{◌≡◌, ◌++◌, length, map, take}
use Rattle.std.specs.Vec.Iter.{into_iter_items, into_iter_len}
use Rattle.txc_chan.specs.Chan.{account_of}
use Rattle.txc_txn.proofs.plain.Plain+FullLog.into_accounts.Given as goal

abbrev pub invariant-loop-chan : goal.invariant-loop-chan
invariant-loop-chan l = record {
  collected : l.accounts.items ++ map account_of (into_iter_items l.chan-iterator)
      ≡ map account_of (take l.fn.count l.fn.self);
  left : into_iter_len l.chan-iterator ≡ length (into_iter_items l.chan-iterator);
}
