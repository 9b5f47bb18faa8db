use Rattle.std.proofs.Common.{◌≡◌, ◌++◌, ℕ, codes, append_assoc}
use Rattle.std.specs.Fmt.{decimal}
use Rattle.txc_cmd_script.specs.declared.fault.ScriptFault.TheVariants.{UnknownOp}
use Rattle.txc_cmd_script.specs.Fault.{script_fault_text}
use Rattle.txc_cmd_script.proofs.fault.ScriptFaultDisplay.fmt.Goals as goal

-- the text of an unknown operation, as it is written
unknown : (seat txn : ℕ) → script_fault_text (UnknownOp seat txn)
    ≡ codes "seat " ++ (decimal seat ++ (codes " txn " ++ (decimal txn ++ codes ": unknown operation")))
unknown seat txn = simp append_assoc

pub returns-in-UnknownOp-clause-writes : goal.returns-in-UnknownOp-clause-writes
returns-in-UnknownOp-clause-writes g c plain done =
    rw (c.in-UnknownOp.is, unknown c.in-UnknownOp.seat c.in-UnknownOp.txn)
    (c.write-in-UnknownOp.ensures.writes plain done)
