-- The result of a write to a typed channel.
use Rattle.std.specs.Prelude.{Bool, true, false}
use Rattle.yalwythen_work.specs.declared.send_outcome.SendOutcome.{SendOutcome}
use Rattle.yalwythen_work.specs.declared.send_outcome.SendOutcome.TheVariants.{Written, Closed}

-- whether the value was returned because the channel was closed
abbrev pub was_closed : {V : Type 0} → SendOutcome V → Bool
was_closed Written = false
was_closed (Closed back) = true
