use Rattle.std.proofs.Common.{◌≡◌, ◌+◌, ◌++◌, drop}
use Rattle.txc_txn.specs.Plain.{chan_in}
use Rattle.txc_cmd_explore.specs.Ends.{shapes_from}
use Rattle.txc_cmd_explore.proofs.follow.shapes.Given as goal

abbrev pub invariant-loop-chan : goal.invariant-loop-chan
invariant-loop-chan l = l.shapes.items ++ shapes_from (0 + l.chan) (drop l.chan l.script.decls) (chan_in l.channels.held)
    ≡ shapes_from 0 l.script.decls (chan_in l.channels.held)
