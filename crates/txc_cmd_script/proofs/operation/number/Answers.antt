use Rattle.std.proofs.Common.{◌∙◌}
use Rattle.serde_json.specs.View.{view}
use Rattle.txc_cmd_script.proofs.PartLemmas.{number_in-from}
use Rattle.txc_cmd_script.proofs.operation.number.Goals as goal

pub returns : goal.returns
returns c = c.ok.ensures.value ∙ number_in-from (view c.args.tree.now) c.in_ok-as_u64.field-0 c.try_from.result
    c.in_ok-as_u64.ensures c.try_from.ensures
