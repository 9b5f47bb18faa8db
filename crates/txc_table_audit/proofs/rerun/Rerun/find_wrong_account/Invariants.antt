use Rattle.std.proofs.Common.{◌≡◌, ◌<◌, ℕ, Some, slice_get}
use Rattle.txc_chan.specs.declared.account.Account.{Account}
use Rattle.txc_txn.specs.Plain.{chan_in}
use Rattle.txc_txn_history.specs.OneOrder.{Shows}
use Rattle.txc_table_audit.proofs.rerun.Rerun.find_wrong_account.Given as goal

abbrev pub invariant-loop-chan : goal.invariant-loop-chan
invariant-loop-chan l = (n : ℕ) (account : Account) → n < l.chan → slice_get l.accounts n ≡ Some account
    → Shows account (chan_in l.self.held n)
