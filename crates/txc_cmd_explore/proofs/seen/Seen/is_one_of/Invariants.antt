use Rattle.std.proofs.Common.{◌≡◌, ℕ, Some, drop, slice_get}
use Rattle.txc_cmd_explore.specs.Ends.{IsAmong}
use Rattle.txc_cmd_explore.proofs.seen.Seen.is_one_of.Given as goal

abbrev pub invariant-loop-number : goal.invariant-loop-number
invariant-loop-number l = (number : ℕ) → IsAmong l.numbers number
    → slice_get l.self.states.items number ≡ Some l.state → IsAmong (drop l.number-index l.numbers) number
