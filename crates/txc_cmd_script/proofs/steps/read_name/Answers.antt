use Rattle.std.proofs.Common.{◌∙◌, ap}
use Rattle.txc_cmd_script.specs.declared.steps.StepFault.TheVariants.{UnknownOp}
use Rattle.txc_cmd_script.specs.Steps.{or_fault, step_name_in}
use Rattle.txc_cmd_script.proofs.steps.read_name.Goals as goal

pub returns-in-None : goal.returns-in-None
returns-in-None c = ap (or_fault UnknownOp) c.in-None.ensures ∙ ap step_name_in c.in-Some.ensures
