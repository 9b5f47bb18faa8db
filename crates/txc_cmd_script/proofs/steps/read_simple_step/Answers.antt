use Rattle.std.proofs.Common.{rules, Some, None}
use Rattle.txc_cmd_script.proofs.StepLemmas.{retry-alone, retry-more, simple_step-said}
use Rattle.txc_cmd_script.proofs.steps.read_simple_step.Goals as goal

pub returns-in-Some : goal.returns-in-Some
returns-in-Some c = simple_step-said c.args.step_name c.args.operands.now (Some c.in-Some.op) c.in_default.not-Retry
    c.in-Some.ensures

pub returns-in-None : goal.returns-in-None
returns-in-None c = simple_step-said c.args.step_name c.args.operands.now None c.in_default.not-Retry c.in-None.ensures

pub returns-in-Retry-2 : goal.returns-in-Retry-2
returns-in-Retry-2 c = retry-more c.args.step_name c.args.operands.now c.in-Retry-2.is (search rules)

pub returns-in-Retry : goal.returns-in-Retry
returns-in-Retry c = retry-alone c.args.step_name c.args.operands.now c.in-Retry.is (search rules)
