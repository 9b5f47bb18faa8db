use Rattle.std.proofs.Common.{◌≡◌, None, map, drop, length}
use Rattle.serde_json.specs.View.{view}
use Rattle.txc_chan.specs.Limits.{first_fault}
use Rattle.txc_cmd_script.specs.Reading.{decls_in}
use Rattle.txc_cmd_script.proofs.Orders.{onto}
use Rattle.txc_cmd_script.proofs.channel.read_decls.Given as goal

abbrev pub invariant-loop-chan : goal.invariant-loop-chan
invariant-loop-chan l = record {
  so_far : decls_in 0 (map view l.trees) ≡ onto l.decls.items (decls_in l.chan (map view (drop l.chan l.trees)));
  all : length l.decls.items ≡ l.chan;
  made : first_fault l.decls.items ≡ None;
}
