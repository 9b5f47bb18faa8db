use Rattle.std.proofs.Common.{◌≡◌, ◌++◌, length}
use Rattle.std.specs.Vec.Iter.{into_iter_items, into_iter_len}
use Rattle.txc_table_lines.specs.Locked.{with_shares}
use Rattle.txc_table_lines.proofs.collected_shares.CollectedShares.gain.Given as goal

abbrev pub invariant-loop-share : goal.invariant-loop-share
invariant-loop-share g l = record {
  all : l.yielded ++ into_iter_items l.share-iterator ≡ l.fn.shares;
  long : into_iter_len l.share-iterator ≡ length (into_iter_items l.share-iterator);
  at : l.at ≡ length l.yielded;
  shares : l.self-inside.shares.items ≡ with_shares l.fn.self l.yielded;
}
