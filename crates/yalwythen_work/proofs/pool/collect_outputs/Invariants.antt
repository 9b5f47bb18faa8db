use Rattle.std.proofs.Common.{◌≡◌, ◌++◌, Ok, length, map}
use Rattle.std.specs.Vec.Iter.{into_iter_items, into_iter_len}
use Rattle.yalwythen_work.proofs.pool.collect_outputs.Given as goal

abbrev pub invariant-loop-output : goal.invariant-loop-output
invariant-loop-output g l = record {
  whole : map Ok l.all.items ++ into_iter_items l.output-iterator ≡ l.fn.outputs.items;
  left : into_iter_len l.output-iterator ≡ length (into_iter_items l.output-iterator);
}
