use Rattle.std.proofs.Common.{◌≡◌, ◌≤◌, ◌-◌, ◌++◌, take, drop, length}
use Rattle.txc_txn_check.specs.Walk.{with_channel}
use Rattle.txc_txn_check.proofs.walk.add_channel.Given as goal

abbrev pub invariant-loop-at : goal.invariant-loop-at
invariant-loop-at l = record {
  within : l.at ≤ length l.channels.items;
  so_far : with_channel l.chan l.channels.items ≡ take l.at l.channels.items ++ with_channel l.chan
      (drop l.at l.channels.items);
}

abbrev pub decreases-loop-at : goal.decreases-loop-at
decreases-loop-at l = length l.channels.items - l.at
