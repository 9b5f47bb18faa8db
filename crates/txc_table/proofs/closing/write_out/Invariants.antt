use Rattle.std.proofs.Common.{◌≡◌, ◌++◌, ◌+◌, ◌≤◌, length, vec_len}
use Rattle.std.specs.Prelude.{vec_capacity}
use Rattle.std.specs.Vec.Iter.{into_iter_items, into_iter_len}
use Rattle.txc_table.specs.Closing.{receipts_of}
use Rattle.txc_table.proofs.closing.write_out.Given as goal

abbrev pub invariant-loop-one : goal.invariant-loop-one
invariant-loop-one l = record {
  all : l.receipts.items ++ receipts_of (into_iter_items l.one-iterator) ≡ receipts_of l.fn.histories.items;
  left : into_iter_len l.one-iterator ≡ length (into_iter_items l.one-iterator);
  room : vec_len l.receipts + length (into_iter_items l.one-iterator) ≤ vec_capacity l.receipts;
}
